use Rattle.std.proofs.Common.{◌≤◌, arith, lit≤}
use Rattle.std.specs.Prelude.{◌^◌}
use Rattle.std.proofs.lemmas.Int.{ints}
use Rattle.std.proofs.Math.Nat.{pow-le-pow_right}
use Rattle.rounding.proofs.bounds.ones.Goals as goal

pub overflow_sub-result : goal.overflow_sub-result
overflow_sub-result c = let most : 2 ^ c.args.places ≤ 2 ^ 60 = pow-le-pow_right {n = 2} (lit≤ tt)
    {i = c.args.places} {j = 60} c.requires in omega (arith, ints)

pub returns : goal.returns
returns c = let most : 2 ^ c.args.places ≤ 2 ^ 60 = pow-le-pow_right {n = 2} (lit≤ tt)
    {i = c.args.places} {j = 60} c.requires in omega (arith, ints)
