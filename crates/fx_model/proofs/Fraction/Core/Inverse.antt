-- Laws of what specs/Fraction/Core/Inverse defines.
use Rattle.std.specs.Prelude.{◌≡◌, ◌⊎◌, ℕ, ◌*◌, ◌+◌, ◌-◌, ◌<◌, true, false}
use Rattle.std.proofs.Common.{arith, sym, ap, ◌∙◌}
use Rattle.fx_model.specs.Fraction.Core.{Fraction, ◌*ℚ◌, zero_ℚ, one_ℚ}
use Rattle.fx_model.specs.Fraction.Core.Ring.{mul_comm, mul_assoc, one-mul}
use Rattle.fx_model.specs.Fraction.Core.Inverse.{is_zero_ℚ, square_ratio, inverse_ℚ, ◌/ℚ◌}
use Rattle.fx_model.specs.Fraction.Core.Inverse.{mul-inverse, is_zero-zero}

-- ---- absolute value, quotient
full_square : (p n d : ℕ) → (p ≡ 0) ⊎ (n ≡ 0) → 0 < p + n
    → (p * (d * p) + n * (d * n)) * 1 ≡ d * square_ratio p n
full_square p n d s h = let z : 1 - (p + n) ≡ 0 = omega arith in rw z (omega arith)

-- ---- the test for zero
pub is_zero_not : (x : Fraction) → is_zero_ℚ x ≡ false → ¬ (x ≡ zero_ℚ)
is_zero_not x h e = let k : true ≡ false = sym is_zero-zero ∙ ap is_zero_ℚ (sym e) ∙ h in cc

-- ---- a quotient times its divisor
pub div-mul : (x y : Fraction) → ¬ (y ≡ zero_ℚ) → (x /ℚ y) *ℚ y ≡ x
div-mul x y h = mul_assoc x (inverse_ℚ y) y
    ∙ ap (λ z. x *ℚ z) (mul_comm (inverse_ℚ y) y ∙ mul-inverse y h) ∙ mul_comm x one_ℚ ∙ one-mul x
