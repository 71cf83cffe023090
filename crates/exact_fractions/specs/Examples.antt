-- Worked rows: fractions in lowest terms, and the numbers of a sum.
use Rattle.std.specs.Prelude.{◌≡◌, pos, negsuc, [], ◌∷◌, true, false, refl}
use Rattle.std.proofs.Common.{lit<}
use Rattle.fx_model.specs.Fraction.{Ratio, of_ratio}
use Rattle.exact_fractions.specs.Divisors.{gcd_within}
use Rattle.exact_fractions.specs.Reduced.{numerator, denominator, numerator-mk, denominator-mk}
use Rattle.exact_fractions.specs.Wide.{sum_numbers, are_narrow}

-- 9/6 - 3/6
abbrev one_as_six : Ratio
one_as_six = record { plus = 9; minus = 3; den = 6; positive = lit< tt }

-- -6/4
abbrev less_than_zero : Ratio
less_than_zero = record { plus = 0; minus = 6; den = 4; positive = lit< tt }

abbrev sixth : Ratio
sixth = record { plus = 1; minus = 0; den = 6; positive = lit< tt }

abbrev quarter : Ratio
quarter = record { plus = 1; minus = 0; den = 4; positive = lit< tt }

whole_one : numerator (of_ratio one_as_six) ≡ pos 1
unfolding gcd_within
whole_one = numerator-mk one_as_six

over_one : denominator (of_ratio one_as_six) ≡ 1
unfolding gcd_within
over_one = denominator-mk one_as_six

minus_three : numerator (of_ratio less_than_zero) ≡ negsuc 2
unfolding gcd_within
minus_three = numerator-mk less_than_zero

over_two : denominator (of_ratio less_than_zero) ≡ 2
unfolding gcd_within
over_two = denominator-mk less_than_zero

-- 0 is 0/1
zero_over : denominator (of_ratio (record { plus = 4; minus = 4; den = 7; positive = lit< tt })) ≡ 1
unfolding gcd_within
zero_over = denominator-mk (record { plus = 4; minus = 4; den = 7; positive = lit< tt })

-- 1/6 and 1/4: 2 and 3 over 12
sum_of_two : sum_numbers (of_ratio sixth) (of_ratio quarter) ≡ pos 2
    ∷ (pos 3 ∷ (pos 5 ∷ (pos 12 ∷ [])))
unfolding gcd_within
sum_of_two = rw (
  numerator-mk sixth,
  numerator-mk quarter,
  denominator-mk sixth,
  denominator-mk quarter,
) refl

-- 2^127 isn't below 2^127, and its negative isn't
at_the_limit :
    are_narrow (pos 170141183460469231731687303715884105727
    ∷ (negsuc 170141183460469231731687303715884105726 ∷ [])) ≡ true
at_the_limit = refl

past_the_limit : are_narrow (negsuc 170141183460469231731687303715884105727 ∷ []) ≡ false
past_the_limit = refl
