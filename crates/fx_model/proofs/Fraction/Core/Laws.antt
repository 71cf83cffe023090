-- Laws of what specs/Fraction/Core/Laws defines.
use Rattle.std.specs.Prelude.{◌≡◌}
use Rattle.std.proofs.Common.{sym, ap, ◌∙◌}
use Rattle.fx_model.specs.Fraction.Core.{Fraction, ◌+ℚ◌, ◌*ℚ◌, neg_ℚ, ◌<ℚ◌, zero_ℚ, one_ℚ, ◌-ℚ◌}
use Rattle.fx_model.specs.Fraction.Core.Ring.{add_comm, add_assoc, zero-add, add-neg, mul_comm}
use Rattle.fx_model.specs.Fraction.Core.Ring.{mul_assoc, one-mul, zero-mul, mul-add}
use Rattle.fx_model.specs.Fraction.Core.Order.{lt_by, lt_not}
use Rattle.fx_model.specs.Fraction.Core.Laws.{neg-le_out}

-- ---- sums
pub add-zero : (x : Fraction) → x +ℚ zero_ℚ ≡ x
add-zero x = add_comm x zero_ℚ ∙ zero-add x

-- (a + b) + (c + d) = (a + c) + (b + d)
pub middle_sums : (a b c d : Fraction) → (a +ℚ b) +ℚ (c +ℚ d) ≡ (a +ℚ c) +ℚ (b +ℚ d)
middle_sums a b c d = add_assoc a b (c +ℚ d) ∙ ap (λ u. a +ℚ u) (sym (add_assoc b c d)
    ∙ ap (λ u. u +ℚ d) (add_comm b c) ∙ add_assoc c b d) ∙ sym (add_assoc a c (b +ℚ d))

-- ---- products
pub mul-one : (x : Fraction) → x *ℚ one_ℚ ≡ x
mul-one x = mul_comm x one_ℚ ∙ one-mul x

pub mul-zero : (x : Fraction) → x *ℚ zero_ℚ ≡ zero_ℚ
mul-zero x = mul_comm x zero_ℚ ∙ zero-mul x

pub add-mul : (x y z : Fraction) → (x +ℚ y) *ℚ z ≡ (x *ℚ z) +ℚ (y *ℚ z)
add-mul x y z = mul_comm (x +ℚ y) z ∙ mul-add z x y ∙ ap (λ u. u +ℚ (z *ℚ y)) (mul_comm z x)
    ∙ ap (λ u. (x *ℚ z) +ℚ u) (mul_comm z y)

-- x(yz) = y(xz)
pub left_swap : (x y z : Fraction) → x *ℚ (y *ℚ z) ≡ y *ℚ (x *ℚ z)
left_swap x y z = sym (mul_assoc x y z) ∙ ap (λ u. u *ℚ z) (mul_comm x y) ∙ mul_assoc y x z

-- (ab)(cd) = (ac)(bd)
pub middle_products : (a b c d : Fraction) → (a *ℚ b) *ℚ (c *ℚ d) ≡ (a *ℚ c) *ℚ (b *ℚ d)
middle_products a b c d = mul_assoc a b (c *ℚ d) ∙ ap (λ u. a *ℚ u) (left_swap b c d)
    ∙ sym (mul_assoc a c (b *ℚ d))

-- ---- the order
pub neg-lt : (x y : Fraction) → x <ℚ y → neg_ℚ y <ℚ neg_ℚ x
neg-lt x y h = lt_by (neg_ℚ y) (neg_ℚ x) (λ k. lt_not x y h (neg-le_out x y k))

-- ---- differences
-- (a - b) + b = a
pub sub-add : (a b : Fraction) → (a -ℚ b) +ℚ b ≡ a
sub-add a b =
    add_assoc a (neg_ℚ b) b ∙ ap (λ z. a +ℚ z) (add_comm (neg_ℚ b) b ∙ add-neg b) ∙ add-zero a
