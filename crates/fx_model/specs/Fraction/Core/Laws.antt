-- What follows at once from the laws of a ring and of its order.
use Rattle.std.specs.Prelude.{◌≡◌}
use Rattle.std.proofs.Common.{sym, ap, ◌∙◌, subst}
use Rattle.fx_model.specs.Fraction.Core.{Fraction, ◌+ℚ◌, ◌*ℚ◌, neg_ℚ, ◌≤ℚ◌, ◌<ℚ◌, zero_ℚ}
use Rattle.fx_model.specs.Fraction.Core.Ring.{add_comm, add_assoc, zero-add, add-neg, mul_comm}
use Rattle.fx_model.specs.Fraction.Core.Ring.{neg-mul, neg-neg}
use Rattle.fx_model.specs.Fraction.Core.Order.{add-le, lt_by, lt_not, lt_le, mul-le, mul-le_cancel}
use Rattle.fx_model.specs.Fraction.Core.Order.{neg-le}

-- ---- sums
-- - a + (a + b) = b
pub add-sub : (a b : Fraction) → neg_ℚ a +ℚ (a +ℚ b) ≡ b
add-sub a b =
    sym (add_assoc (neg_ℚ a) a b) ∙ ap (λ z. z +ℚ b) (add_comm (neg_ℚ a) a ∙ add-neg a) ∙ zero-add b

-- ---- products
pub mul-neg : (x y : Fraction) → x *ℚ neg_ℚ y ≡ neg_ℚ (x *ℚ y)
mul-neg x y = mul_comm x (neg_ℚ y) ∙ neg-mul y x ∙ ap neg_ℚ (mul_comm y x)

-- ---- the order
pub add-le_out : (z x y : Fraction) → (z +ℚ x) ≤ℚ (z +ℚ y) → x ≤ℚ y
add-le_out z x y h = subst (λ a. a ≤ℚ y) (add-sub z x)
    (subst (λ b. (neg_ℚ z +ℚ (z +ℚ x)) ≤ℚ b) (add-sub z y) (add-le (neg_ℚ z) (z +ℚ x) (z +ℚ y) h))

pub add-lt : (z x y : Fraction) → x <ℚ y → (z +ℚ x) <ℚ (z +ℚ y)
add-lt z x y h = lt_by (z +ℚ x) (z +ℚ y) (λ k. lt_not x y h (add-le_out z y x k))

pub mul-lt : (z x y : Fraction) → zero_ℚ <ℚ z → x <ℚ y → (z *ℚ x) <ℚ (z *ℚ y)
mul-lt z x y p h = lt_by (z *ℚ x) (z *ℚ y) (λ k. lt_not x y h (mul-le_cancel z y x p k))

-- by a factor above 0
pub times-le : (t x y : Fraction) → zero_ℚ <ℚ t → x ≤ℚ y → (x *ℚ t) ≤ℚ (y *ℚ t)
times-le t x y p h = rw (mul_comm x t, mul_comm y t) (mul-le t x y (lt_le zero_ℚ t p) h)

pub times-lt : (t x y : Fraction) → zero_ℚ <ℚ t → x <ℚ y → (x *ℚ t) <ℚ (y *ℚ t)
times-lt t x y p h = rw (mul_comm x t, mul_comm y t) (mul-lt t x y p h)

pub neg-le_out : (x y : Fraction) → neg_ℚ x ≤ℚ neg_ℚ y → y ≤ℚ x
neg-le_out x y h = subst (λ z. z ≤ℚ x) (neg-neg y)
    (subst (λ z. neg_ℚ (neg_ℚ y) ≤ℚ z) (neg-neg x) (neg-le (neg_ℚ x) (neg_ℚ y) h))

-- ---- the other side of 0
pub neg_zero : neg_ℚ zero_ℚ ≡ zero_ℚ
neg_zero = sym (zero-add (neg_ℚ zero_ℚ)) ∙ add-neg zero_ℚ

pub neg_up : (v : Fraction) → v ≤ℚ zero_ℚ → zero_ℚ ≤ℚ neg_ℚ v
neg_up v h = subst (λ z. z ≤ℚ neg_ℚ v) neg_zero (neg-le v zero_ℚ h)

pub neg_down : (v : Fraction) → zero_ℚ ≤ℚ v → neg_ℚ v ≤ℚ zero_ℚ
neg_down v h = subst (λ z. neg_ℚ v ≤ℚ z) neg_zero (neg-le zero_ℚ v h)
