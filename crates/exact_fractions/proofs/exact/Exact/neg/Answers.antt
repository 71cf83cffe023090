use Rattle.std.proofs.Common.{◌≡◌, arith, to_z, of_z}
use Rattle.std.specs.Int.{w128}
use Rattle.std.proofs.lemmas.Int.{ints}
use Rattle.exact_fractions.proofs.Factors.{negative_value}
use Rattle.exact_fractions.proofs.exact.Exact.neg.Goals as goal

pub returns : goal.returns
returns c =
    let top : to_z w128 (of_z w128 c.opposite.result) ≡ c.opposite.result = omega (arith, ints) in
    let num : to_z w128 (of_z w128 c.num.result) ≡ c.num.result = omega (arith, ints) in
    rw (c.lowest.ensures, top, c.opposite.ensures, num, c.num.ensures, c.den.ensures)
    (negative_value c.args.self.num c.args.self.den)
