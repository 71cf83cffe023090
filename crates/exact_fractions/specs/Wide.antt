-- The numbers that an operation takes, and which of them are too wide.
use lib.IntN.{neg_ℤ}
use Rattle.std.specs.Prelude.{ℕ, ℤ, pos, ◌+ℤ◌, ◌*ℤ◌, ◌*◌, ◌/◌, List, [], ◌∷◌, ◌++◌, Bool}
use Rattle.std.specs.List.{list_all}
use Rattle.fx_model.specs.declared.Direction.{Direction}
use Rattle.fx_model.specs.Fraction.{Fraction, ◌*ℚ◌, neg_ℚ}
use Rattle.fx_model.specs.Powers.{two_to}
use Rattle.fx_model.specs.Rounded.{rounded}
use Rattle.exact_fractions.specs.Narrow.{is_narrow}
use Rattle.exact_fractions.specs.Divisors.{gcd}
use Rattle.exact_fractions.specs.Reduced.{numerator, denominator}

-- Whether all the numbers that an operation takes are below 2^127 in absolute value.
abbrev pub are_narrow : List ℤ → Bool
are_narrow zs = list_all is_narrow zs

-- ---- the numbers, by what is done. With g the greatest common divisor of the denominators d and e
-- of x and y:

-- of a literal, a bound, a product, a quotient: numerator and denominator of the result
abbrev pub numbers_of : Fraction → List ℤ
numbers_of x = numerator x ∷ (pos (denominator x) ∷ [])

-- g
abbrev pub shared : Fraction → Fraction → ℕ
shared x y = gcd (denominator x) (denominator y)

-- n * (e / g)
abbrev pub left_number : Fraction → Fraction → ℤ
left_number x y = numerator x *ℤ pos (denominator y / shared x y)

-- m * (d / g)
abbrev pub right_number : Fraction → Fraction → ℤ
right_number x y = numerator y *ℤ pos (denominator x / shared x y)

-- of a comparison
abbrev pub comparison_numbers : Fraction → Fraction → List ℤ
comparison_numbers x y = left_number x y ∷ (right_number x y ∷ [])

-- d * (e / g)
abbrev pub common_denominator : Fraction → Fraction → ℕ
common_denominator x y = denominator x * (denominator y / shared x y)

-- of a sum: these, their sum, and the common denominator
abbrev pub sum_numbers : Fraction → Fraction → List ℤ
sum_numbers x y =
    left_number x y
    ∷ (right_number x y
    ∷ ((left_number x y +ℤ right_number x y) ∷ (pos (common_denominator x y) ∷ [])))

-- a difference is the sum with the negative
abbrev pub difference_numbers : Fraction → Fraction → List ℤ
difference_numbers x y = sum_numbers x (neg_ℚ y)

-- of a rounding: those of x / 2^lsb, and of the result
abbrev pub rounding_numbers : Direction → ℤ → Fraction → List ℤ
rounding_numbers d lsb x = numbers_of (x *ℚ two_to (neg_ℤ lsb)) ++ numbers_of (rounded d lsb x)

-- of `@FIX`: those of x / 2^k
abbrev pub multiple_numbers : ℤ → Fraction → List ℤ
multiple_numbers k x = numbers_of (x *ℚ two_to (neg_ℤ k))
