-- Rounding to the multiples of a power of two, in eleven directions (Gappa User's Guide, "Rounding
-- directions").
pub mod Examples
use lib.IntN.{neg_ℤ}
use Rattle.std.specs.Prelude.{ℤ, negsuc, ◌%◌, ◌==◌, Bool, if◌then◌else◌}
use Rattle.std.specs.Int.RustNames.{unsigned_abs}
use Rattle.fx_model.specs.Fraction.{Fraction, ◌+ℚ◌, ◌-ℚ◌, ◌*ℚ◌, neg_ℚ, zero_ℚ, le_ℚ, floor_ℚ}
use Rattle.fx_model.specs.Powers.{two_to, whole, scaled}
use Rattle.fx_model.specs.declared.Direction.{Direction}
use Rattle.fx_model.specs.declared.Direction.TheVariants.{Zr, Aw, Dn, Up, Od, Ne, No, Nz, Na, Nd}
use Rattle.fx_model.specs.declared.Direction.TheVariants.{Nu}

-- the greatest whole number that isn't above s
abbrev pub floor : Fraction → ℤ
floor s = floor_ℚ s

-- the least whole number that isn't below s
abbrev pub ceiling : Fraction → ℤ
ceiling s = neg_ℤ (floor_ℚ (neg_ℚ s))

-- 1/2
abbrev pub half : Fraction
half = two_to (negsuc 0)

-- the nearest whole number; of two that are as near, the lower, and the upper
abbrev pub near_low : Fraction → ℤ
near_low s = ceiling (s -ℚ half)

-- The nearest whole number; of two that are as near, the upper.
abbrev pub near_high : Fraction → ℤ
near_high s = floor (s +ℚ half)

-- whether z is a multiple of 2
abbrev pub is_even : ℤ → Bool
is_even z = unsigned_abs z % 2 == 0

-- whether s is at least 0
abbrev pub is_positive_or_zero : Fraction → Bool
is_positive_or_zero s = le_ℚ zero_ℚ s

-- The whole number that a direction gives for s.
unfoldable pub whole_for : Direction → Fraction → ℤ
whole_for Dn s = floor s
whole_for Up s = ceiling s
whole_for Zr s = if is_positive_or_zero s then floor s else ceiling s
whole_for Aw s = if is_positive_or_zero s then ceiling s else floor s
whole_for Od s = if is_even (floor s) then ceiling s else floor s
whole_for Nd s = near_low s
whole_for Nu s = near_high s
whole_for Ne s = if is_even (near_low s) then near_low s else near_high s
whole_for No s = if is_even (near_low s) then near_high s else near_low s
whole_for Nz s = if is_positive_or_zero s then near_low s else near_high s
whole_for Na s = if is_positive_or_zero s then near_high s else near_low s

-- x rounded to a multiple of 2^lsb.
unfoldable pub rounded : Direction → ℤ → Fraction → Fraction
rounded d lsb x = scaled (whole_for d (x *ℚ two_to (neg_ℤ lsb))) lsb
