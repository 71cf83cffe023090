-- Laws of what specs/Beside defines.
use Rattle.std.specs.Prelude.{◌≡◌, ℤ, pos, Bool, true, false, if◌then◌else◌, refl}
use Rattle.std.proofs.Common.{arith, sym, subst}
use Rattle.std.proofs.lemmas.Int.{ints}
use Rattle.fx_model.specs.Fraction.{Fraction, ◌+ℚ◌, ◌≤ℚ◌, ◌<ℚ◌, zero_ℚ, le_trans, lt_le}
use Rattle.fx_model.specs.Fraction.{le_lt_trans, add-lt}
use Rattle.fx_model.proofs.Fraction.{add-zero}
use Rattle.fx_model.specs.Powers.{whole, whole-add, whole-le, whole-lt, zero-whole, floor_low}
use Rattle.fx_model.specs.Powers.{floor_high, two_to-positive}
use Rattle.fx_model.specs.Rounded.{floor, ceiling, half, near_low, near_high, is_even}
use Rattle.fx_model.specs.Rounded.{is_positive_or_zero, whole_for}
use Rattle.fx_model.specs.declared.Direction.{Direction}
use Rattle.fx_model.specs.declared.Direction.TheVariants.{Zr, Aw, Dn, Up, Od, Ne, No, Nz, Na, Nd}
use Rattle.fx_model.specs.declared.Direction.TheVariants.{Nu}
use Rattle.rounding.proofs.Floor.{ceiling_high, ceiling_low, floor_from_zero, ceiling_to_zero}
use Rattle.rounding.proofs.Nearest.{halves, near_low_low, near_low_below, near_high_high}
use Rattle.rounding.proofs.Nearest.{near_high_above}
use Rattle.rounding.specs.Beside.{taken, of_next}

-- ---- less than a unit off
-- w is less than a unit away from s
abbrev pub IsBeside : Fraction → ℤ → Type 0
IsBeside s w = (whole w <ℚ (s +ℚ whole (pos 1))) × (s <ℚ (whole w +ℚ whole (pos 1)))

half_positive : zero_ℚ <ℚ half
half_positive = two_to-positive _

more_than_half : (a : Fraction) → (a +ℚ half) <ℚ (a +ℚ whole (pos 1))
more_than_half a = add-lt a half (whole (pos 1)) (subst (λ b. half <ℚ b) halves
    (subst (λ b. b <ℚ (half +ℚ half)) (add-zero half) (add-lt half zero_ℚ half half_positive)))

one_more : (a : Fraction) → a <ℚ (a +ℚ whole (pos 1))
one_more a = subst (λ b. b <ℚ (a +ℚ whole (pos 1)))
    (add-zero a) (add-lt a zero_ℚ (whole (pos 1)) (subst (λ b. b <ℚ whole (pos 1)) (sym zero-whole)
    (whole-lt (pos 0) (pos 1) (omega (arith, ints)))))

lt_trans : (x y z : Fraction) → x <ℚ y → y <ℚ z → x <ℚ z
lt_trans x y z h k = le_lt_trans x y z (lt_le x y h) k

floor_beside : (s : Fraction) → IsBeside s (floor s)
floor_beside s = (
  le_lt_trans (whole (floor s)) s (s +ℚ whole (pos 1)) (floor_low s) (one_more s),
  subst (λ a. s <ℚ a) (whole-add (floor s) (pos 1)) (floor_high s),
)

ceiling_beside : (s : Fraction) → IsBeside s (ceiling s)
ceiling_beside s = (
  ceiling_low s,
  le_lt_trans s (whole (ceiling s)) (whole (ceiling s) +ℚ whole (pos 1)) (ceiling_high s)
      (one_more (whole (ceiling s))),
)

near_low_beside : (s : Fraction) → IsBeside s (near_low s)
near_low_beside s = (
  lt_trans (whole (near_low s)) (s +ℚ half) (s +ℚ whole (pos 1))
      (near_low_below s) (more_than_half s),
  le_lt_trans s (whole (near_low s) +ℚ half) (whole (near_low s) +ℚ whole (pos 1)) (near_low_low s)
      (more_than_half (whole (near_low s))),
)

near_high_beside : (s : Fraction) → IsBeside s (near_high s)
near_high_beside s = (
  le_lt_trans (whole (near_high s)) (s +ℚ half) (s +ℚ whole (pos 1))
      (near_high_high s) (more_than_half s),
  lt_trans s (whole (near_high s) +ℚ half) (whole (near_high s) +ℚ whole (pos 1))
      (near_high_above s) (more_than_half (whole (near_high s))),
)

pub whole_for_beside : (d : Direction) (s : Fraction) → IsBeside s (whole_for d s)
whole_for_beside d s = of_next (IsBeside s) d s (floor_beside s) (ceiling_beside s)
    (near_low_beside s) (near_high_beside s)

-- ---- the directions whose side is known
pub up_above : (s : Fraction) → s ≤ℚ whole (whole_for Up s)
unfolding whole_for
up_above s = ceiling_high s

-- the ceiling of what is at most 0 and at least 0
ceiling_at_zero : (s : Fraction) → s ≤ℚ zero_ℚ → zero_ℚ ≤ℚ s → whole (ceiling s) ≤ℚ s
ceiling_at_zero s h k = le_trans (whole (ceiling s)) (whole (pos 0)) s
    (whole-le (ceiling s) (pos 0) (ceiling_to_zero s h)) (subst (λ a. a ≤ℚ s) zero-whole k)

floor_at_zero : (s : Fraction) → s ≤ℚ zero_ℚ → zero_ℚ ≤ℚ s → s ≤ℚ whole (floor s)
floor_at_zero s h k = le_trans s (whole (pos 0)) (whole (floor s))
    (subst (λ a. s ≤ℚ a) zero-whole h) (whole-le (pos 0) (floor s) (floor_from_zero s k))

-- Toward zero.
pub zr_below : (s : Fraction) → zero_ℚ ≤ℚ s → whole (whole_for Zr s) ≤ℚ s
unfolding whole_for
zr_below s h = subst (λ b. whole (if b then floor s else ceiling s) ≤ℚ s) (sym h.le) (floor_low s)

pub zr_above : (s : Fraction) → s ≤ℚ zero_ℚ → s ≤ℚ whole (whole_for Zr s)
unfolding whole_for
zr_above s h = by (is_positive_or_zero s) refl
  where
    by : (b : Bool) → is_positive_or_zero s ≡ b → s ≤ℚ whole (if b then floor s else ceiling s)
    by true e = floor_at_zero s h (record { le = e })
    by false e = ceiling_high s

-- Away from zero.
pub aw_above : (s : Fraction) → zero_ℚ ≤ℚ s → s ≤ℚ whole (whole_for Aw s)
unfolding whole_for
aw_above s h =
    subst (λ b. s ≤ℚ whole (if b then ceiling s else floor s)) (sym h.le) (ceiling_high s)

pub aw_below : (s : Fraction) → s ≤ℚ zero_ℚ → whole (whole_for Aw s) ≤ℚ s
unfolding whole_for
aw_below s h = by (is_positive_or_zero s) refl
  where
    by : (b : Bool) → is_positive_or_zero s ≡ b → whole (if b then ceiling s else floor s) ≤ℚ s
    by true e = ceiling_at_zero s h (record { le = e })
    by false e = floor_low s

-- ---- the nearest kinds
-- w is at most half a unit away from s
abbrev pub IsNear : Fraction → ℤ → Type 0
IsNear s w = (whole w ≤ℚ (s +ℚ half)) × (s ≤ℚ (whole w +ℚ half))

near_low_near : (s : Fraction) → IsNear s (near_low s)
near_low_near s = (lt_le (whole (near_low s)) (s +ℚ half) (near_low_below s), near_low_low s)

near_high_near : (s : Fraction) → IsNear s (near_high s)
near_high_near s = (near_high_high s, lt_le s (whole (near_high s) +ℚ half) (near_high_above s))

-- The nearest kinds differ at ties alone.
abbrev pub is_nearest : Direction → Bool
is_nearest Ne = true
is_nearest No = true
is_nearest Nz = true
is_nearest Na = true
is_nearest Nd = true
is_nearest Nu = true
is_nearest d = false

pub whole_for_near : (d : Direction) (s : Fraction) → is_nearest d ≡ true → IsNear s (whole_for d s)
unfolding whole_for
whole_for_near Nd s h = near_low_near s
whole_for_near Nu s h = near_high_near s
whole_for_near Ne s h = taken (IsNear s) (is_even (near_low s)) (near_low s) (near_high s)
    (near_low_near s) (near_high_near s)
whole_for_near No s h = taken (IsNear s) (is_even (near_low s)) (near_high s) (near_low s)
    (near_high_near s) (near_low_near s)
whole_for_near Nz s h = taken (IsNear s) (is_positive_or_zero s) (near_low s) (near_high s)
    (near_low_near s) (near_high_near s)
whole_for_near Na s h = taken (IsNear s) (is_positive_or_zero s) (near_high s) (near_low s)
    (near_high_near s) (near_low_near s)
whole_for_near Dn s h = cc
whole_for_near Up s h = cc
whole_for_near Zr s h = cc
whole_for_near Aw s h = cc
whole_for_near Od s h = cc
