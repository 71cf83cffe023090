-- Laws of what specs/Sums defines.
use Rattle.std.specs.Prelude.{◌≡◌}
use Rattle.std.proofs.Common.{ap, ◌∙◌, subst}
use Rattle.fx_model.specs.Fraction.{Fraction, ◌+ℚ◌, ◌-ℚ◌, ◌*ℚ◌, neg_ℚ, zero_ℚ, ◌≤ℚ◌, ◌<ℚ◌, add_comm}
use Rattle.fx_model.specs.Fraction.{add-neg, neg-neg, neg-add, neg-le, add-le, lt_by, lt_not}
use Rattle.fx_model.specs.Fraction.{mul_comm, mul-le_cancel, neg_down, add-sub, add-lt}
use Rattle.fx_model.proofs.Fraction.{add-zero, neg-lt}
use Rattle.rounding.specs.Sums.{plus-le}

-- ---- the order
pub neg-le_left : (x y : Fraction) → neg_ℚ x ≤ℚ y → neg_ℚ y ≤ℚ x
neg-le_left x y h = subst (λ z. neg_ℚ y ≤ℚ z) (neg-neg x) (neg-le (neg_ℚ x) y h)

pub plus-lt_out : (z x y : Fraction) → (x +ℚ z) <ℚ (y +ℚ z) → x <ℚ y
plus-lt_out z x y h = lt_by x y (λ k. lt_not (x +ℚ z) (y +ℚ z) h (plus-le z y x k))

-- ---- differences
pub sub-at_most : (a b c : Fraction) → a ≤ℚ (b +ℚ c) → (a -ℚ b) ≤ℚ c
sub-at_most a b c h = subst (λ z. z ≤ℚ c) (add_comm (neg_ℚ b) a)
    (subst (λ z. (neg_ℚ b +ℚ a) ≤ℚ z) (add-sub b c) (add-le (neg_ℚ b) a (b +ℚ c) h))

pub sub-flip : (a b : Fraction) → neg_ℚ (a -ℚ b) ≡ b -ℚ a
sub-flip a b = neg-add a (neg_ℚ b) ∙ ap (λ z. neg_ℚ a +ℚ z) (neg-neg b) ∙ add_comm (neg_ℚ a) b

pub sub-at_least : (a b c : Fraction) → b ≤ℚ (a +ℚ c) → neg_ℚ c ≤ℚ (a -ℚ b)
sub-at_least a b c h =
    subst (λ z. neg_ℚ c ≤ℚ z) (sub-flip b a) (neg-le (b -ℚ a) c (sub-at_most b a c h))

pub sub-below : (a b c : Fraction) → a <ℚ (b +ℚ c) → (a -ℚ b) <ℚ c
sub-below a b c h = subst (λ z. z <ℚ c) (add_comm (neg_ℚ b) a)
    (subst (λ z. (neg_ℚ b +ℚ a) <ℚ z) (add-sub b c) (add-lt (neg_ℚ b) a (b +ℚ c) h))

pub sub-above : (a b c : Fraction) → b <ℚ (a +ℚ c) → neg_ℚ c <ℚ (a -ℚ b)
sub-above a b c h = subst (λ z. neg_ℚ c <ℚ z) (sub-flip b a) (neg-lt (b -ℚ a) c (sub-below b a c h))

-- ---- products by what is above 0
pub times-le_out : (t x y : Fraction) → zero_ℚ <ℚ t → (x *ℚ t) ≤ℚ (y *ℚ t) → x ≤ℚ y
times-le_out t x y p h = mul-le_cancel t x y p (rw (mul_comm x t, mul_comm y t) at h)

-- less of what isn't negative is no more
pub sub-le : (x y : Fraction) → zero_ℚ ≤ℚ y → (x -ℚ y) ≤ℚ x
sub-le x y h = subst (λ z. (x -ℚ y) ≤ℚ z) (add-zero x) (add-le x (neg_ℚ y) zero_ℚ (neg_down y h))

-- what is at most x leaves something of x
pub sub-from : (x y : Fraction) → y ≤ℚ x → zero_ℚ ≤ℚ (x -ℚ y)
sub-from x y h = subst (λ z. z ≤ℚ (x -ℚ y)) (add-neg y) (plus-le (neg_ℚ y) y x h)
