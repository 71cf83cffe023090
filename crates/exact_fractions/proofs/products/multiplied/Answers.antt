use Rattle.std.proofs.Common.{◌≡◌, arith, to_z, of_z}
use Rattle.std.specs.Int.{w128}
use Rattle.std.proofs.lemmas.Int.{ints}
use Rattle.exact_fractions.proofs.Lowest.{over_parts}
use Rattle.exact_fractions.proofs.products.multiplied.Goals as goal

pub returns : goal.returns
returns c = let top : to_z w128 (of_z w128 c.args.top) ≡ c.args.top = omega (arith, ints) in
    rw (c.lowest.ensures, top, c.requires.top, c.requires.bottom) (over_parts _)
