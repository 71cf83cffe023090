-- How far the whole number that a direction gives is off, in units.
use Rattle.std.specs.Prelude.{◌≡◌, ℤ, Bool, true, false, if◌then◌else◌}
use Rattle.fx_model.specs.Fraction.{Fraction, ◌≤ℚ◌}
use Rattle.fx_model.specs.Powers.{whole, floor_low}
use Rattle.fx_model.specs.Rounded.{floor, ceiling, near_low, near_high, is_even}
use Rattle.fx_model.specs.Rounded.{is_positive_or_zero, whole_for}
use Rattle.fx_model.specs.declared.Direction.{Direction}
use Rattle.fx_model.specs.declared.Direction.TheVariants.{Zr, Aw, Dn, Up, Od, Ne, No, Nz, Na, Nd}
use Rattle.fx_model.specs.declared.Direction.TheVariants.{Nu}
use Rattle.rounding.specs.Floor.{floor-whole, ceiling-whole}
use Rattle.rounding.specs.Nearest.{near_low-whole, near_high-whole}

-- ---- what holds of both holds of the one that a test takes
pub taken : (P : ℤ → Type 0) (b : Bool) (v w : ℤ) → P v → P w → P (if b then v else w)
taken P true v w p q = p
taken P false v w p q = q

-- of the two next to s
pub of_next : (P : ℤ → Type 0) (d : Direction) (s : Fraction) → P (floor s) → P (ceiling s)
    → P (near_low s) → P (near_high s) → P (whole_for d s)
unfolding whole_for
of_next P Dn s f c l h = f
of_next P Up s f c l h = c
of_next P Zr s f c l h = taken P (is_positive_or_zero s) (floor s) (ceiling s) f c
of_next P Aw s f c l h = taken P (is_positive_or_zero s) (ceiling s) (floor s) c f
of_next P Od s f c l h = taken P (is_even (floor s)) (ceiling s) (floor s) c f
of_next P Nd s f c l h = l
of_next P Nu s f c l h = h
of_next P Ne s f c l h = taken P (is_even (near_low s)) (near_low s) (near_high s) l h
of_next P No s f c l h = taken P (is_even (near_low s)) (near_high s) (near_low s) h l
of_next P Nz s f c l h = taken P (is_positive_or_zero s) (near_low s) (near_high s) l h
of_next P Na s f c l h = taken P (is_positive_or_zero s) (near_high s) (near_low s) h l

-- A whole number is left as it is.
pub whole_for-whole : (d : Direction) (z : ℤ) → whole_for d (whole z) ≡ z
whole_for-whole d z = of_next (λ w. w ≡ z) d (whole z) (floor-whole z) (ceiling-whole z)
    (near_low-whole z) (near_high-whole z)

-- ---- the directions whose side is known
pub dn_below : (s : Fraction) → whole (whole_for Dn s) ≤ℚ s
unfolding whole_for
dn_below s = floor_low s
