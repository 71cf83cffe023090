use mir.Val.{to_z, of_z}
use Rattle.std.proofs.Common.{arith, ap, ◌∙◌, true, false, sym, w64}
use Rattle.std.proofs.lemmas.Int.{ints}
use Rattle.fx_model.specs.Fraction.{neg_ℚ, neg-neg}
use Rattle.dyadic.specs.Values.{value_of}
use Rattle.dyadic.proofs.GridLemmas.{abs_grid, by_size}
use Rattle.dyadic.proofs.number.Dyadic.new.Goals as goal

pub returns-then-is_negative : goal.returns-then-is_negative
returns-then-is_negative c = by_size c.args.m c.args.e c.unsigned_abs.result
    (to_z w64 (of_z w64 c.args.m)) _ true _ (omega (arith, ints, c.unsigned_abs.ensures.value))
    (omega (arith, ints)) (omega (arith, ints)) (sym c.if-is_negative.true ∙ c.is_negative.ensures)
    (ap neg_ℚ c.neg.ensures ∙ neg-neg (value_of c.in-Some.size) ∙ c.in-Some.ensures)

pub returns-else-is_negative : goal.returns-else-is_negative
returns-else-is_negative c = by_size c.args.m c.args.e c.unsigned_abs.result
    (to_z w64 (of_z w64 c.args.m)) _ false _ (omega (arith, ints, c.unsigned_abs.ensures.value))
    (omega (arith, ints)) (omega (arith, ints)) (sym c.if-is_negative.false ∙ c.is_negative.ensures)
    c.in-Some.ensures

pub returns-in-None : goal.returns-in-None
returns-in-None c = λ g. c.in-None.ensures (abs_grid c.args.m c.args.e c.unsigned_abs.result _
    (omega (arith, ints, c.unsigned_abs.ensures.value)) (omega (arith, ints)) g)
