-- Laws of what specs/Fraction/Core/Order defines.
use Rattle.std.specs.Prelude.{◌≡◌}
use Rattle.std.proofs.Common.{subst}
use Rattle.fx_model.specs.Fraction.Core.{Fraction, ◌*ℚ◌, ◌≤ℚ◌, ◌<ℚ◌, zero_ℚ}
use Rattle.fx_model.specs.Fraction.Core.Order.{le_refl, le_antisymm, mul-le, lt_by, lt_not}
use Rattle.fx_model.specs.Fraction.Core.Order.{mul-le_cancel}

-- ---- the strict order
pub mul-lt_cancel : (z x y : Fraction) → zero_ℚ ≤ℚ z → z *ℚ x <ℚ z *ℚ y → x <ℚ y
mul-lt_cancel z x y p h = lt_by x y (λ k. lt_not (z *ℚ x) (z *ℚ y) h (mul-le z y x p k))

pub mul_cancel : (z x y : Fraction) → zero_ℚ <ℚ z → z *ℚ x ≡ z *ℚ y → x ≡ y
mul_cancel z x y p h =
    le_antisymm x y (mul-le_cancel z x y p (subst (λ w. z *ℚ x ≤ℚ w) h (le_refl (z *ℚ x))))
    (mul-le_cancel z y x p (subst (λ w. w ≤ℚ z *ℚ x) h (le_refl (z *ℚ x))))
