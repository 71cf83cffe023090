use Rattle.std.proofs.Common.{◌≡◌, arith, to_z, of_z, w32}
use Rattle.std.specs.Int.{w128}
use Rattle.std.proofs.lemmas.Int.{ints}
use Rattle.fx_model.specs.Powers.{scaled}
use Rattle.dyadic.specs.Ends.{bound_of}
use Rattle.interval.proofs.Written.{alone_enclosed, rounded_ordered, restated}
use Rattle.interval.proofs.literals.around.Goals as goal

pub returns : goal.returns
returns c =
    let p : to_z w128 (of_z w128 c.args.number) ≡ c.args.number = omega (arith, ints) in
    let q : to_z w32 (of_z w32 c.args.two) ≡ c.args.two = omega (arith, ints) in
    λ x e. let f = restated _ c.args.number _ c.args.two _ p q e in
    alone_enclosed x (bound_of c.ratio_down.result) (bound_of c.ratio_up.result)
    (c.ratio_down.ensures x f) (c.ratio_up.ensures x f)

pub invariant_of-result : goal.invariant_of-result
invariant_of-result c = record {
  ordered = rounded_ordered c.args.divisor (scaled (to_z w128 (of_z w128 c.args.number))
      (to_z w32 (of_z w32 c.args.two))) (bound_of c.ratio_down.result)
      (bound_of c.ratio_up.result) c.requires.not_zero c.ratio_down.ensures c.ratio_up.ensures;
}
