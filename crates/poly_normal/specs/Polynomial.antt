-- Polynomials with whole coefficients.
use Rattle.std.specs.Prelude.{◌≡◌, ℕ, ℤ, pos, neg_ℤ, ◌+ℤ◌, ◌*ℤ◌, ◌+◌, Bool, true, false, ◌==◌, ◌&&◌}
use Rattle.std.specs.Prelude.{not, if◌then◌else◌, List, [], ◌∷◌, ◌++◌, map, filter, replicate}
use Rattle.std.specs.Prelude.{unsigned_abs}
use Rattle.std.specs.Set.{distinct_count}

-- A product of powers of atoms: at place i the power of the atom with number i, up to the last one
-- that occurs.
abbrev pub Monomial : Type 0
Monomial = List ℕ

-- the atom with number i
abbrev pub atom_monomial : ℕ → Monomial
atom_monomial i = replicate i 0 ++ (1 ∷ [])

-- a product: the powers add up
abbrev pub monomial_product : Monomial → Monomial → Monomial
monomial_product [] m = m
monomial_product (j ∷ l) [] = j ∷ l
monomial_product (j ∷ l) (k ∷ m) = (j + k) ∷ monomial_product l m

-- the powers are the same
abbrev pub same_monomial : Monomial → Monomial → Bool
same_monomial [] [] = true
same_monomial [] (k ∷ m) = false
same_monomial (j ∷ l) [] = false
same_monomial (j ∷ l) (k ∷ m) = (j == k) && same_monomial l m

-- A monomial times a whole number.
pub record Term : Type 0 where
  pub coefficient : ℤ
  pub monomial : Monomial

-- A polynomial, written as a sum of terms in any order, of which several may be alike or zero.
-- What it is as a polynomial is the map `coefficient_of` from monomials to whole numbers.
abbrev pub Polynomial : Type 0
Polynomial = List Term

-- the coefficient of a monomial, once like terms are joined
abbrev pub coefficient_of : Polynomial → Monomial → ℤ
coefficient_of [] m = pos 0
coefficient_of (t ∷ p) m =
    (if same_monomial t.monomial m then t.coefficient else pos 0) +ℤ coefficient_of p m

-- two sums are one polynomial
abbrev pub IsEqual : Polynomial → Polynomial → Type 0
IsEqual p q = (m : Monomial) → coefficient_of p m ≡ coefficient_of q m

-- whether the coefficient of a monomial isn't zero
abbrev pub occurs : Polynomial → Monomial → Bool
occurs p m = not (unsigned_abs (coefficient_of p m) == 0)

-- how many terms are left once like terms are joined: the monomials whose coefficient isn't zero
abbrev pub term_count : Polynomial → ℕ
term_count p = distinct_count same_monomial (filter (occurs p) (map (λ t. t.monomial) p))

-- The whole number as a polynomial: one term without atoms, also where it is zero.
abbrev pub constant : ℤ → Polynomial
constant z = record { coefficient = z; monomial = [] } ∷ []

-- The atom with number `i` as a polynomial: one term, with coefficient 1.
abbrev pub atom : ℕ → Polynomial
atom i = record { coefficient = pos 1; monomial = atom_monomial i } ∷ []

-- The terms of both, one list behind the other; like terms aren't joined.
abbrev pub sum : Polynomial → Polynomial → Polynomial
sum p q = p ++ q

-- The same terms, each with its coefficient negated.
abbrev pub negation : Polynomial → Polynomial
negation p = map (λ t. record { coefficient = neg_ℤ t.coefficient; monomial = t.monomial }) p

-- The product of two terms: coefficients are multiplied, and powers add up.
abbrev pub term_product : Term → Term → Term
term_product s t = record {
  coefficient = s.coefficient *ℤ t.coefficient;
  monomial = monomial_product s.monomial t.monomial;
}

-- each term of the one times each term of the other
abbrev pub product : Polynomial → Polynomial → Polynomial
product [] q = []
product (t ∷ p) q = map (term_product t) q ++ product p q
