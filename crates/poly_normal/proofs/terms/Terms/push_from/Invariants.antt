use Rattle.std.proofs.Common.{◌≡◌, ◌++◌, drop}
use Rattle.poly_normal.specs.TermsOf.{polynomial_of}
use Rattle.poly_normal.proofs.terms.Terms.push_from.Given as goal

abbrev pub invariant-loop-i : goal.invariant-loop-i
invariant-loop-i l = record {
  width : l.self.width ≡ l.fn.self.width;
  done : polynomial_of l.self ++ drop l.i (polynomial_of l.p)
      ≡ polynomial_of l.fn.self ++ drop l.fn.from (polynomial_of l.p);
}
