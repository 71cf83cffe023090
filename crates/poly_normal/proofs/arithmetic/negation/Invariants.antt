use Rattle.std.proofs.Common.{◌≡◌, ◌++◌, drop}
use Rattle.poly_normal.specs.Polynomial as polynomial
use Rattle.poly_normal.specs.TermsOf.{polynomial_of}
use Rattle.poly_normal.proofs.arithmetic.negation.Given as goal

abbrev pub invariant-loop-i : goal.invariant-loop-i
invariant-loop-i l = record {
  width : l.out.width ≡ l.p.width;
  done : polynomial_of l.out ++ polynomial.negation (drop l.i (polynomial_of l.p))
      ≡ polynomial.negation (polynomial_of l.p);
}
