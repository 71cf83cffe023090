-- Tests of bounds, by their values.
use Rattle.std.specs.Prelude.{Bool, not, Option, Some, None}
use Rattle.fx_model.specs.Fraction.{Fraction, neg_ℚ, one_ℚ, le_ℚ}
use Rattle.fx_model.specs.Grid.{Bound, Below, At, Above}
use Rattle.interval.specs.Intervals.{range_of}
use Rattle.interval.specs.Results.{point_of}
use Rattle.facts.specs.Ranges.{is_below}

-- x is below y
abbrev pub is_less : Fraction → Fraction → Bool
is_less x y = not (le_ℚ y x)

-- the greatest number of the grid that isn't above x, or minus infinity where there is none
abbrev pub down : Fraction → Bound
down x = (range_of (point_of x)).low

-- the least number of the grid that isn't below x, or plus infinity where there is none
abbrev pub up : Fraction → Bound
up x = (range_of (point_of x)).high

-- down(x) isn't above -1, so that x is no lower bound of relative errors
abbrev pub is_too_low : Fraction → Bool
is_too_low x = not (is_below (neg_ℚ one_ℚ) (down x))

-- the number that an end is, where it is finite
abbrev pub number_at : Bound → Option Fraction
number_at Below = None
number_at (At g) = Some g
number_at Above = None

-- the number of the grid below x, and above it, where there is one
abbrev pub down_number : Fraction → Option Fraction
down_number x = number_at (down x)

-- The least number of the grid that isn't below x, or none where there is no such number.
abbrev pub up_number : Fraction → Option Fraction
up_number x = number_at (up x)
