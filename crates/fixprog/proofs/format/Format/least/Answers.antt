use Rattle.std.proofs.Common.{◌≤◌, ◌^◌, ◌-◌, arith, lit≤}
use Rattle.std.proofs.lemmas.Int.{ints}
use Rattle.std.proofs.Math.Nat.{pow-le-pow_right}
use Rattle.fixprog.proofs.format.Format.least.Goals as goal

pub overflow_sub-result-then-self : goal.overflow_sub-result-then-self
overflow_sub-result-then-self c =
    let k = c.args.self.width - 1 in
    let low : k ≤ 60 = omega arith in
    let most : 2 ^ k ≤ 2 ^ 60 = pow-le-pow_right {n = 2} (lit≤ tt) {i = k} {j = 60} low in
    omega (arith, ints)
