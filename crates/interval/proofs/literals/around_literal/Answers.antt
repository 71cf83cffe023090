use Rattle.std.proofs.Common.{◌≡◌, ◌*◌, ◌^◌, ◌<ℤ◌, ◌≤ℤ◌, pos, arith, ap, ◌∙◌, to_z, of_z}
use Rattle.std.specs.Int.{w128}
use Rattle.std.specs.Int.RustNames.{unsigned_abs}
use Rattle.std.proofs.lemmas.Int.{ints}
use Rattle.fx_model.specs.Powers.{whole}
use Rattle.fx_model.specs.Grid.{signed}
use Rattle.fx_model.specs.Expression.{literal_value}
use Rattle.literal.proofs.Limits.{bounded}
use Rattle.interval.proofs.Written.{ten_is, two_is, power_fits, divisor_fits, divisor_some}
use Rattle.interval.proofs.Written.{with_tens_small, value_down, value_up, signed_ratio, restated}
use Rattle.interval.proofs.literals.around_literal.Goals as goal

pub pow-power-requires : goal.pow-power-requires
pow-power-requires c =
    let b = bounded c.args.lit.now c.requires in
    let low = b.ten_low in
    let high = b.ten_high in
    let f = power_fits c.unsigned_abs.result (omega (arith, ints, c.unsigned_abs.ensures.value)) in
    omega arith

pub with_sign-requires : goal.with_sign-requires
with_sign-requires c = let b = (bounded c.args.lit.now c.requires).num in omega arith

pub around-requires-clause-not_zero : goal.around-requires-clause-not_zero
around-requires-clause-not_zero c = divisor_some _ _ c.pow-power.ensures

pub around-requires-clause-divisor : goal.around-requires-clause-divisor
around-requires-clause-divisor c =
    let low = (bounded c.args.lit.now c.requires).ten_low in
    let f = divisor_fits c.unsigned_abs.result
    (omega (arith, ints, c.unsigned_abs.ensures.value)) in
    omega (arith, c.pow-power.ensures)

pub with_sign-requires-else-lit-lt0 : goal.with_sign-requires-else-lit-lt0
with_sign-requires-else-lit-lt0 c =
    let t = ten_is c.args.lit.now c.requires in
    let up : pos 0 ≤ℤ c.args.lit.now.ten = omega (arith, ints) in
    with_tens_small c.args.lit.now c.pow-power.result c.requires up (c.pow-power.ensures
    ∙ ap (λ j. 10 ^ j) (c.unsigned_abs.ensures.value ∙ ap unsigned_abs t))

pub overflow_mul-lit : goal.overflow_mul-lit
overflow_mul-lit c = let f = with_sign-requires-else-lit-lt0 c in omega arith

pub around-requires-else-lit-lt0-clause-high : goal.around-requires-else-lit-lt0-clause-high
around-requires-else-lit-lt0-clause-high c = let t = two_is c.args.lit.now c.requires in
    let b = (bounded c.args.lit.now c.requires).two_high in omega (arith, ints)

pub returns-then-lit-lt0 : goal.returns-then-lit-lt0
returns-then-lit-lt0 c =
    let l = c.args.lit.now in
    let t = ten_is l c.requires in
    let below : l.ten <ℤ pos 0 = omega (arith, ints) in
    let number : to_z w128 (of_z w128 c.with_sign.result)
    ≡ c.with_sign.result = omega (arith, ints) in
    let v = value_down l c.pow-power.result below (c.pow-power.ensures
    ∙ ap (λ j. 10 ^ j) (c.unsigned_abs.ensures.value ∙ ap unsigned_abs t)) in
    c.around.ensures (signed c.args.negative (literal_value l))
    (restated _ c.with_sign.result _ l.two _ number (two_is l c.requires)
    (signed_ratio c.args.negative (whole (pos c.pow-power.result)) (literal_value l)
    c.with_sign.result l.num l.two c.with_sign.ensures.plus c.with_sign.ensures.minus v))

pub returns-else-lit-lt0 : goal.returns-else-lit-lt0
returns-else-lit-lt0 c =
    let l = c.args.lit.now in
    let t = ten_is l c.requires in
    let up : pos 0 ≤ℤ l.ten = omega (arith, ints) in
    let number : to_z w128 (of_z w128 c.with_sign-else-lit-lt0.result)
    ≡ c.with_sign-else-lit-lt0.result = omega (arith, ints) in
    let v = value_up l c.pow-power.result up (c.pow-power.ensures
    ∙ ap (λ j. 10 ^ j) (c.unsigned_abs.ensures.value ∙ ap unsigned_abs t)) in
    c.around-else-lit-lt0.ensures (signed c.args.negative (literal_value l))
    (restated _ c.with_sign-else-lit-lt0.result _ l.two _ number (two_is l c.requires)
    (signed_ratio c.args.negative (whole (pos 1))
    (literal_value l) c.with_sign-else-lit-lt0.result (l.num * c.pow-power.result) l.two
    c.with_sign-else-lit-lt0.ensures.plus c.with_sign-else-lit-lt0.ensures.minus v))
