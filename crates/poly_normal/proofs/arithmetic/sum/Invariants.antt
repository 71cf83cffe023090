use Rattle.std.proofs.Common.{◌≡◌, ◌++◌, ◌+◌, ◌-◌, ◌≤◌, drop, length}
use Rattle.poly_normal.specs.TermsOf.{polynomial_of}
use Rattle.poly_normal.proofs.Merge.{merge}
use Rattle.poly_normal.proofs.arithmetic.sum.Given as goal

abbrev pub invariant-loop-i : goal.invariant-loop-i
invariant-loop-i l = record {
  left : l.i ≤ length (polynomial_of l.p);
  right : l.j ≤ length (polynomial_of l.q);
  width : l.out.width ≡ l.p.width;
  done : polynomial_of l.out ++ merge (drop l.i (polynomial_of l.p)) (drop l.j (polynomial_of l.q))
      ≡ merge (polynomial_of l.p) (polynomial_of l.q);
}

abbrev pub decreases-loop-i : goal.decreases-loop-i
decreases-loop-i l = (length (polynomial_of l.p) - l.i) + (length (polynomial_of l.q) - l.j)
