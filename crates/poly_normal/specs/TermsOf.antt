-- The polynomial that a value of `Terms` stands for.
use Rattle.poly_normal.specs.Polynomial.{Polynomial}
use Rattle.poly_normal.specs.Rows.{rows}
use Rattle.poly_normal.specs.declared.terms.Terms.{Terms}

-- The terms in order, each coefficient with its own row of powers as monomial.
abbrev pub polynomial_of : Terms → Polynomial
polynomial_of t = rows t.width t.coefficients.items t.powers.items
