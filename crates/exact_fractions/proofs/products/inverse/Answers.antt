use Rattle.std.proofs.Common.{◌≡◌, arith, to_z, of_z}
use Rattle.std.specs.Int.{w128}
use Rattle.std.proofs.lemmas.Int.{ints}
use Rattle.exact_fractions.proofs.Factors.{inverse_value}
use Rattle.exact_fractions.proofs.products.inverse.Goals as goal

pub returns : goal.returns
returns c =
    let top : to_z w128 (of_z w128 c.inverse_top.result) ≡ c.inverse_top.result =
    omega (arith, ints) in
    let num : to_z w128 (of_z w128 c.num.result) ≡ c.num.result = omega (arith, ints) in
    rw (
      c.lowest.ensures,
      top,
      c.inverse_top.ensures,
      c.unsigned_abs.ensures.value,
      num,
      c.num.ensures,
    ) (inverse_value c.args.x.num c.args.x.den c.args.x.small.lowest.positive
    c.requires)
