use Rattle.std.proofs.Common.{◌≡◌, arith, to_z, of_z}
use Rattle.std.specs.Int.{w128}
use Rattle.std.proofs.lemmas.Int.{ints}
use Rattle.exact_fractions.proofs.Lowest.{over_reduced}
use Rattle.exact_fractions.proofs.exact.form.reduced.Goals as goal

pub returns : goal.returns
returns c =
    let num : to_z w128 (of_z w128 c.args.num) ≡ c.args.num = omega (arith, ints) in
    let top : to_z w128 (of_z w128 c.signed.result) ≡ c.signed.result = omega (arith, ints) in
    rw (
      c.lowest.ensures,
      top,
      c.signed.ensures,
      c.is_negative.ensures,
      c.greatest_divisor-g.ensures,
      c.unsigned_abs-size.ensures.value,
      num,
    ) (over_reduced c.args.num c.args.den c.requires.positive)
