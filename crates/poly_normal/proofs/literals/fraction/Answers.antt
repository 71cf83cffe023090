use Rattle.std.proofs.Common.{arith, refl, lit<}
use Rattle.std.proofs.lemmas.Int.{ints}
use Rattle.poly_normal.proofs.Signs.{negative_ten_small, negative_two_large, power_above}
use Rattle.poly_normal.proofs.Signs.{whole_large, whole_larger, whole_ratio}
use Rattle.poly_normal.proofs.literals.fraction.Goals as goal

pub reduced-requires-clause-above : goal.reduced-requires-clause-above
reduced-requires-clause-above c = power_above 10 _ c.in-Some.bottom (lit< tt) c.in-Some.ensures.0

pub returns-in-None : goal.returns-in-None
returns-in-None c = absurd (negative_ten_small c.args.l c.unsigned_abs.result c.requires
    (omega (arith, ints, c.if-l-lt0.true))
    (omega (arith, ints, c.unsigned_abs.ensures.value)) c.in-None.ensures)

pub returns-in-None-times_power : goal.returns-in-None-times_power
returns-in-None-times_power c = negative_two_large c.args.l
    c.unsigned_abs-then-l-lt0-2.result c.requires (omega (arith, ints, c.if-l-lt0-2.true))
    (omega (arith, ints, c.unsigned_abs-then-l-lt0-2.ensures.value)) c.in-None-times_power.ensures

pub returns-in_default : goal.returns-in_default
returns-in_default c = whole_larger c.args.l c.unsigned_abs-2.result
    (omega (arith, ints, c.if-l-lt0.false)) (omega (arith, ints, c.if-l-lt0-2.false))
    (omega (arith, ints, c.unsigned_abs-2.ensures.value)) c.in_default.ensures

pub returns-in-Some-times_power-3 : goal.returns-in-Some-times_power-3
returns-in-Some-times_power-3 c = whole_ratio c.args.l c.unsigned_abs-2.result
    c.unsigned_abs-3.result _ _ (record { top = c.in-Some-times_power-3.top; bottom = 1 })
    (omega (arith, ints, c.if-l-lt0.false)) (omega (arith, ints, c.if-l-lt0-2.false))
    (omega (arith, ints, c.unsigned_abs-2.ensures.value))
    (omega (arith, ints, c.unsigned_abs-3.ensures.value))
    c.in-Some-times_power-2.ensures.0 c.in-Some-times_power-3.ensures.0
    (omega (arith, c.in-Some-times_power-3.ensures.1, c.in-Some-times_power-3.ensures.0)) refl refl

pub returns-in-None-times_power-2 : goal.returns-in-None-times_power-2
returns-in-None-times_power-2 c = whole_large c.args.l
    c.unsigned_abs-2.result c.unsigned_abs-3.result _ (omega (arith, ints, c.if-l-lt0.false))
    (omega (arith, ints, c.if-l-lt0-2.false)) (omega (arith, ints, c.unsigned_abs-2.ensures.value))
    (omega (arith, ints, c.unsigned_abs-3.ensures.value)) c.in-Some-times_power-2.ensures.0
    c.in-None-times_power-2.ensures
