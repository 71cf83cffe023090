use Rattle.std.proofs.Common.{◌≡◌, ◌++◌, drop}
use Rattle.poly_normal.specs.Polynomial.{monomial_product}
use Rattle.poly_normal.proofs.arithmetic.multiply_monomials.Given as goal

abbrev pub invariant-loop-k : goal.invariant-loop-k
invariant-loop-k l =
    l.row.items ++ monomial_product (drop l.k l.l) (drop l.k l.m) ≡ monomial_product l.l l.m
