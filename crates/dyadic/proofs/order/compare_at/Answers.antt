use mir.Syntax.{w128}
use mir.Val.{to_z, of_z}
use Rattle.std.proofs.Common.{arith, ◌≡◌, ◌∙◌, sym, w64}
use Rattle.std.proofs.lemmas.Int.{ints}
use Rattle.dyadic.proofs.OrderLemmas.{compared_far, signs_above}
use Rattle.dyadic.proofs.order.compare_at.Goals as goal

pub returns : goal.returns
returns c =
    let same : to_z w128 (of_z w128 c.shifted.result) ≡ c.shifted.result = omega (arith, ints) in
    compared_far c.args.high (to_z w128 (of_z w128 (to_z w64 (of_z w64 c.args.high))))
    _ c.args.low _ c.args.gap c.min.result _ (same ∙ c.shifted.ensures.value)
    (omega (arith, ints)) c.min.ensures (omega (arith, ints)) c.requires.low_small c.cmp-2.ensures

pub returns-then-high-gt0 : goal.returns-then-high-gt0
returns-then-high-gt0 c =
    sym (signs_above c.args.high c.args.low c.args.gap (omega (arith, ints)) (omega (arith, ints)))
