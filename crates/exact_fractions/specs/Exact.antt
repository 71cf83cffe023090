-- What an `Exact` stands for, and what operations on it answer.
use Rattle.std.specs.Prelude.{◌≡◌, ℤ, List, Option, MatchOption, Bool, true, false, ◌&&◌}
use Rattle.std.specs.Ordering.{MatchOrdering}
use Rattle.std.specs.declared.cmp.Ordering.{Ordering}
use Rattle.fx_model.specs.Fraction.{Fraction, ◌<ℚ◌, le_ℚ}
use Rattle.exact_fractions.specs.declared.exact.Exact.{Exact}
use Rattle.exact_fractions.specs.Reduced.{over}
use Rattle.exact_fractions.specs.Wide.{are_narrow}

-- num / den
abbrev pub value_of : Exact → Fraction
value_of x = over x.num x.den

-- The answer is x where each of these numbers is below 2^127, and none where one isn't.
abbrev pub Gives : List ℤ → Fraction → Option Exact → Type 0
Gives zs x r = MatchOption r (are_narrow zs ≡ false) (λ e. (are_narrow zs ≡ true)
    × (value_of e ≡ x))

-- how two fractions compare
abbrev pub IsOrder : Fraction → Fraction → Ordering → Type 0
IsOrder x y o = MatchOrdering o (x <ℚ y) (x ≡ y) (y <ℚ x)

-- The order of x and y where each of these numbers is below 2^127, and none where one isn't.
abbrev pub GivesOrder : List ℤ → Fraction → Fraction → Option Ordering → Type 0
GivesOrder zs x y r = MatchOption r (are_narrow zs ≡ false) (λ o. (are_narrow zs ≡ true)
    × IsOrder x y o)

-- The answer of the test where each of these numbers is below 2^127, and none where one isn't.
abbrev pub GivesTest : List ℤ → Bool → Option Bool → Type 0
GivesTest zs t r = MatchOption r (are_narrow zs ≡ false) (λ b. (are_narrow zs ≡ true) × (b ≡ t))

-- whether neither is below the other
abbrev pub are_equal : Fraction → Fraction → Bool
are_equal x y = le_ℚ x y && le_ℚ y x
