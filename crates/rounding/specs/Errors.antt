-- How far a rounding moves a number: by direction, by what is known of the number's sign, and of
-- which power of two it is a multiple (Gappa User's Guide, "Theorems about rounding operators").
use Rattle.std.specs.Prelude.{◌≡◌, ℤ, negsuc, ◌+ℤ◌, Option, Some, None, ⊤, if◌then◌else◌, Bool}
use Rattle.std.specs.Prelude.{false, not}
use Rattle.std.specs.Int.RustNames.{int_lt}
use Rattle.fx_model.specs.Fraction.{Fraction, ◌-ℚ◌, ◌≤ℚ◌, neg_ℚ, zero_ℚ}
use Rattle.fx_model.specs.Powers.{two_to, IsMultiple}
use Rattle.fx_model.specs.Grid.{At}
use Rattle.fx_model.specs.Enclosure.{Range, Lies}
use Rattle.fx_model.specs.declared.Direction.{Direction}
use Rattle.fx_model.specs.declared.Direction.TheVariants.{Zr, Aw, Dn, Up, Od, Ne, No, Nz, Na, Nd}
use Rattle.fx_model.specs.declared.Direction.TheVariants.{Nu}
use Rattle.rounding.specs.declared.sign.Sign.{Sign}
use Rattle.rounding.specs.declared.sign.Sign.TheVariants.{Unknown, NotNegative, NotPositive, Zero}

-- At most u to the left, at most u to the right, at most u to either side, and not at all.
abbrev pub leftward : Fraction → Range
leftward u = record { low = At (neg_ℚ u); high = At zero_ℚ }

-- The errors of a rounding that moves a number at most u up, and never down.
abbrev pub rightward : Fraction → Range
rightward u = record { low = At zero_ℚ; high = At u }

-- The errors of a rounding that moves a number at most u, up or down.
abbrev pub sideward : Fraction → Range
sideward u = record { low = At (neg_ℚ u); high = At u }

-- The only error of a rounding that leaves a number as it is, which is 0.
abbrev pub nowhere : Range
nowhere = record { low = At zero_ℚ; high = At zero_ℚ }

-- The errors of a direction. u stands for the unit, and h for half of it.
abbrev pub errors : Direction → Fraction → Fraction → Range
errors Dn u h = leftward u
errors Up u h = rightward u
errors Zr u h = sideward u
errors Aw u h = sideward u
errors Od u h = sideward u
errors Ne u h = sideward h
errors No u h = sideward h
errors Nz u h = sideward h
errors Na u h = sideward h
errors Nd u h = sideward h
errors Nu u h = sideward h

-- Toward and away from zero the sign tells the side.
abbrev pub signed_errors : Sign → Direction → Fraction → Fraction → Range
signed_errors Unknown d u h = errors d u h
signed_errors NotNegative Zr u h = leftward u
signed_errors NotNegative Aw u h = rightward u
signed_errors NotNegative d u h = errors d u h
signed_errors NotPositive Zr u h = rightward u
signed_errors NotPositive Aw u h = leftward u
signed_errors NotPositive d u h = errors d u h
signed_errors Zero Zr u h = nowhere
signed_errors Zero Aw u h = nowhere
signed_errors Zero d u h = errors d u h

-- Half the unit 2^l, the most that a rounding to nearest moves a number.
abbrev pub half_of : ℤ → Fraction
half_of l = two_to (l +ℤ negsuc 0)

-- A multiple of 2^k below the unit 2^l stays 2^k away from the next unit; of the unit or above it
-- is left as it is.
abbrev pub multiple_errors : Direction → ℤ → ℤ → Range
multiple_errors d l k = if int_lt k l then errors d (two_to l -ℚ two_to k) (half_of l) else nowhere

-- What is known of a number.
abbrev pub HasSign : Sign → Fraction → Type 0
HasSign Unknown x = ⊤
HasSign NotNegative x = zero_ℚ ≤ℚ x
HasSign NotPositive x = x ≤ℚ zero_ℚ
HasSign Zero x = x ≡ zero_ℚ

-- The number is a whole multiple of 2^k where k is known; where none is, any number will do.
abbrev pub HasPlace : Option ℤ → Fraction → Type 0
HasPlace None x = ⊤
HasPlace (Some k) x = IsMultiple k x

-- e is a possible error as far as the place is known.
abbrev pub FitsPlace : Direction → ℤ → Option ℤ → Fraction → Type 0
FitsPlace d l None e = ⊤
FitsPlace d l (Some k) e = Lies (multiple_errors d l k) e

-- e is a possible error by direction, by sign and by place.
pub record IsPossible (d : Direction) (l : ℤ) (sign : Sign) (place : Option ℤ)
    (e : Fraction) : Type 0 where
  pub by_direction : Lies (errors d (two_to l) (half_of l)) e
  pub by_sign : Lies (signed_errors sign d (two_to l) (half_of l)) e
  pub by_place : FitsPlace d l place e

-- The size of the largest error: a unit, but of a multiple of 2^k a unit less 2^k.
abbrev pub largest_error : ℤ → Option ℤ → Fraction
largest_error l None = two_to l
largest_error l (Some k) = two_to l -ℚ two_to k

-- A number that is a multiple of the unit is left as it is.
abbrev pub keeps : ℤ → Option ℤ → Bool
keeps l None = false
keeps l (Some k) = not (int_lt k l)

-- The possible errors by cases.
abbrev pub error_range : Direction → ℤ → Sign → Option ℤ → Range
error_range d l sign None = signed_errors sign d (two_to l) (half_of l)
error_range d l sign (Some k) =
    if int_lt k l then signed_errors sign d (two_to l -ℚ two_to k) (half_of l) else nowhere
