-- What the code's polynomials and quotients stand for, and when they are within the limits.
use Rattle.std.specs.Prelude.{◌≡◌, ◌<◌, ℕ, pos, Option, Some, None, [], ◌∷◌, length}
use Rattle.poly_normal.specs.Polynomial.{IsEqual}
use Rattle.poly_normal.specs.Form.{Side}
use Rattle.poly_normal.specs.Mark.{IsTooLarge}
use Rattle.poly_normal.specs.TermsOf.{polynomial_of}
use Rattle.poly_normal.specs.Places.{zero_row, unit_row}
use Rattle.poly_normal.specs.declared.terms.Terms.{Terms}
use Rattle.poly_normal.specs.declared.limited.Limited.{Limited}

-- the same weight and degree, and equal polynomials
pub record IsLike (s t : Side) : Type 0 where
  pub equal : IsEqual s.polynomial t.polynomial
  pub weight : s.weight ≡ t.weight
  pub degree : s.degree ≡ t.degree

-- what a value stands for, with rows as monomials
abbrev pub side_of : Limited → Side
side_of l = record { polynomial = polynomial_of l.terms; weight = l.weight; degree = l.degree }

-- s within the limits, or none exactly where s passes one
abbrev pub IsLimited : ℕ → Side → Option Limited → Type 0
IsLimited width s None = IsTooLarge s
IsLimited width s (Some l) = (l.terms.width ≡ width) × IsLike (side_of l) s

-- the same terms, weight and degree, or none where there are more than 256 terms
abbrev pub IsWithin : Terms → ℕ → ℕ → Option Limited → Type 0
IsWithin terms weight degree None = 256 < length (polynomial_of terms)
IsWithin terms weight degree (Some l) = (l.terms.width ≡ terms.width)
    × (polynomial_of l.terms ≡ polynomial_of terms) × (l.weight ≡ weight) × (l.degree ≡ degree)

-- a whole number and an atom, as rows
abbrev pub constant_side : ℕ → ℕ → Side
constant_side width n = record {
  polynomial = record { coefficient = pos n; monomial = zero_row width } ∷ [];
  weight = n;
  degree = 0;
}

-- The atom at this place as a row of `width` powers; it weighs 1, and has degree 1.
abbrev pub atom_side : ℕ → ℕ → Side
atom_side width place = record {
  polynomial = record { coefficient = pos 1; monomial = unit_row width place } ∷ [];
  weight = 1;
  degree = 1;
}
