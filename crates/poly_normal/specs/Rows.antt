-- Polynomials as two flat lists: coefficients, and for each of them a row of powers.
use Rattle.std.specs.Prelude.{◌≡◌, ◌≢◌, ℕ, ℤ, pos, negsuc, zero, suc, ◌+ℤ◌, ◌+◌, ◌*◌, ◌≤◌, List, []}
use Rattle.std.specs.Prelude.{◌∷◌, take, drop, length, unsigned_abs, ⊤}
use Rattle.std.specs.List.{AllByRecursion}
use Rattle.std.specs.Cmp.Lexicographic.{slice_cmp}
use Rattle.std.specs.Ordering.{nat_cmp}
use Rattle.std.specs.declared.cmp.Ordering.TheVariants.{Less}
use Rattle.poly_normal.specs.Polynomial.{Monomial, Term, Polynomial, coefficient_of, product}

-- each coefficient with its row of `width` powers
abbrev pub rows : ℕ → List ℤ → List ℕ → Polynomial
rows width [] powers = []
rows width (c ∷ cs) powers =
    record { coefficient = c; monomial = take width powers } ∷ rows width cs (drop width powers)

-- what stands where nothing does
abbrev pub no_term : Term
no_term = record { coefficient = pos 0; monomial = [] }

-- a term and more, unless its coefficient is zero
abbrev pub with_term : ℤ → Monomial → Polynomial → Polynomial
with_term (pos zero) m p = p
with_term (pos (suc c)) m p = record { coefficient = pos (suc c); monomial = m } ∷ p
with_term (negsuc c) m p = record { coefficient = negsuc c; monomial = m } ∷ p

-- the monomial comes before those of all terms
abbrev pub IsBefore : Monomial → Polynomial → Type 0
IsBefore m p = AllByRecursion (λ t. slice_cmp nat_cmp m t.monomial ≡ Less) p

-- like terms are joined: the monomials rise, and no coefficient is zero
abbrev pub IsRising : Polynomial → Type 0
IsRising [] = ⊤
IsRising (t ∷ p) = (t.coefficient ≢ pos 0) × IsBefore t.monomial p × IsRising p

-- the sum of the sizes of the coefficients
abbrev pub size_of : Polynomial → ℕ
size_of [] = 0
size_of (t ∷ p) = unsigned_abs t.coefficient + size_of p

-- each monomial has `width` powers, none above `degree`
abbrev pub IsRow : ℕ → ℕ → Monomial → Type 0
IsRow width degree m = (length m ≡ width) × AllByRecursion (λ k. k ≤ degree) m

-- The monomial of each term has `width` powers, none above `degree`.
abbrev pub AllRows : ℕ → ℕ → Polynomial → Type 0
AllRows width degree p = AllByRecursion (λ t. IsRow width degree t.monomial) p

-- A joined polynomial with rows of this width, powers up to this degree, and coefficients that come
-- to at most this weight.
pub record IsJoined (width degree weight : ℕ) (p : Polynomial) : Type 0 where
  pub rising : IsRising p
  pub rows : AllRows width degree p
  pub size : size_of p ≤ weight

-- r is the sum of p and q: coefficients add up, sizes at most, what holds of all monomials of both
-- holds of those of r, and where the monomials of both rise, so do those of r.
pub record IsSumOf (p q r : Polynomial) : Type 0 where
  pub coefficients : (m : Monomial) → coefficient_of r m ≡ coefficient_of p m +ℤ coefficient_of q m
  pub size : size_of r ≤ size_of p + size_of q
  pub rising : IsRising p → IsRising q → IsRising r
  pub rows : (width degree : ℕ) → AllRows width degree p → AllRows width degree q
      → AllRows width degree r

-- r is the product of p and q, whose monomials have `width` powers each, with the same meaning of
-- the parts.
pub record IsProductOf (width : ℕ) (p q r : Polynomial) : Type 0 where
  pub coefficients : (m : Monomial) → coefficient_of r m ≡ coefficient_of (product p q) m
  pub size : size_of r ≤ size_of p * size_of q
  pub rising : IsRising p → IsRising q → IsRising r
  pub rows : (degree more : ℕ) → AllRows width degree p → AllRows width more q
      → AllRows width (degree + more) r
