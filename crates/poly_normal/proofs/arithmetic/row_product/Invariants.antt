use Rattle.std.proofs.Common.{◌≡◌, ◌++◌, drop, map, slice_index_or}
use Rattle.poly_normal.specs.Polynomial.{term_product}
use Rattle.poly_normal.specs.Rows.{no_term}
use Rattle.poly_normal.specs.TermsOf.{polynomial_of}
use Rattle.poly_normal.proofs.arithmetic.row_product.Given as goal

abbrev pub invariant-loop-j : goal.invariant-loop-j
invariant-loop-j l = record {
  width : l.out.width ≡ l.p.width;
  done : polynomial_of l.out ++ map (term_product (slice_index_or (polynomial_of l.p) l.i no_term))
      (drop l.j (polynomial_of l.q))
      ≡ map (term_product (slice_index_or (polynomial_of l.p) l.i no_term)) (polynomial_of l.q);
}
