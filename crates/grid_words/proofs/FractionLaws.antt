-- More laws of fractions: sums, products and quotients.
use Rattle.std.specs.Prelude.{◌≡◌, ◌≢◌}
use Rattle.std.proofs.Common.{sym, ap, ◌∙◌}
use Rattle.fx_model.specs.Fraction.{Fraction, ◌+ℚ◌, ◌-ℚ◌, ◌*ℚ◌, ◌/ℚ◌, inverse_ℚ, neg_ℚ, zero_ℚ}
use Rattle.fx_model.specs.Fraction.{add_comm, add_assoc, add-neg, mul_comm, mul_assoc, one-mul}
use Rattle.fx_model.specs.Fraction.{mul-inverse}
use Rattle.fx_model.proofs.Fraction.{sub-add, add-zero, mul-one, mul-zero}

-- ---- sums
neg-add_own : (y : Fraction) → neg_ℚ y +ℚ y ≡ zero_ℚ
neg-add_own y = add_comm (neg_ℚ y) y ∙ add-neg y

-- y + (x - y) = x
pub more-less : (y x : Fraction) → y +ℚ (x -ℚ y) ≡ x
more-less y x = add_comm y (x -ℚ y) ∙ sub-add x y

-- (y + x) - y = x
pub added-less : (y x : Fraction) → (y +ℚ x) -ℚ y ≡ x
added-less y x = ap (λ u. u -ℚ y) (add_comm y x) ∙ add_assoc x y (neg_ℚ y)
    ∙ ap (λ u. x +ℚ u) (add-neg y) ∙ add-zero x

-- ---- products
-- a product is 0 only where a factor is
pub product_nonzero : (x y : Fraction) → x ≢ zero_ℚ → y ≢ zero_ℚ → (x *ℚ y) ≢ zero_ℚ
product_nonzero x y p q e =
    q (sym (one-mul y) ∙ ap (λ u. u *ℚ y) (sym (mul-inverse x p) ∙ mul_comm x (inverse_ℚ x))
    ∙ mul_assoc (inverse_ℚ x) x y ∙ ap (λ u. inverse_ℚ x *ℚ u) e ∙ mul-zero (inverse_ℚ x))

-- (zb) / b = z
pub mul-div : (z b : Fraction) → b ≢ zero_ℚ → (z *ℚ b) /ℚ b ≡ z
mul-div z b n = mul_assoc z b (inverse_ℚ b) ∙ ap (λ u. z *ℚ u) (mul-inverse b n) ∙ mul-one z
