use Rattle.std.proofs.Common.{arith, refl}
use Rattle.dyadic.proofs.points.Points.new.Goals as goal

pub invariant_of-result : goal.invariant_of-result
invariant_of-result c = rw c.zero.ensures.is (record {
  short = omega arith;
  size = refl;
  rest = refl;
  rising = λ i j h k. absurd (omega arith);
})
