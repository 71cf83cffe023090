-- Fractions are a commutative ring.
use mathlib.Core.Quot.{sound}
use Rattle.std.specs.Prelude.{◌≡◌}
use Rattle.std.proofs.Common.{arith}
use Rattle.fx_model.specs.Fraction.Core.{Same, Fraction, ◌+ℚ◌, ◌*ℚ◌, neg_ℚ, same_1, same_2, same_3}
use Rattle.fx_model.specs.Fraction.Core.{zero_ℚ, one_ℚ}

pub add_comm : (x y : Fraction) → x +ℚ y ≡ y +ℚ x
unfolding ◌+ℚ◌
add_comm = same_2 (λ x y. x +ℚ y) (λ x y. y +ℚ x) (λ a b. sound {r = Same} (omega arith))

pub add_assoc : (x y z : Fraction) → (x +ℚ y) +ℚ z ≡ x +ℚ (y +ℚ z)
unfolding ◌+ℚ◌
add_assoc = same_3 (λ x y z. (x +ℚ y) +ℚ z) (λ x y z. x +ℚ (y +ℚ z))
    (λ a b c. sound {r = Same} (omega arith))

pub zero-add : (x : Fraction) → zero_ℚ +ℚ x ≡ x
unfolding ◌+ℚ◌ zero_ℚ
zero-add = same_1 (λ x. zero_ℚ +ℚ x) (λ x. x) (λ a. sound {r = Same} (omega arith))

pub add-neg : (x : Fraction) → x +ℚ neg_ℚ x ≡ zero_ℚ
unfolding ◌+ℚ◌ zero_ℚ neg_ℚ
add-neg = same_1 (λ x. x +ℚ neg_ℚ x) (λ x. zero_ℚ) (λ a. sound {r = Same} (omega arith))

pub mul_comm : (x y : Fraction) → x *ℚ y ≡ y *ℚ x
unfolding ◌*ℚ◌
mul_comm = same_2 (λ x y. x *ℚ y) (λ x y. y *ℚ x) (λ a b. sound {r = Same} (omega arith))

pub mul_assoc : (x y z : Fraction) → (x *ℚ y) *ℚ z ≡ x *ℚ (y *ℚ z)
unfolding ◌*ℚ◌
mul_assoc = same_3 (λ x y z. (x *ℚ y) *ℚ z) (λ x y z. x *ℚ (y *ℚ z))
    (λ a b c. sound {r = Same} (omega arith))

pub one-mul : (x : Fraction) → one_ℚ *ℚ x ≡ x
unfolding ◌*ℚ◌ one_ℚ
one-mul = same_1 (λ x. one_ℚ *ℚ x) (λ x. x) (λ a. sound {r = Same} (omega arith))

pub zero-mul : (x : Fraction) → zero_ℚ *ℚ x ≡ zero_ℚ
unfolding ◌*ℚ◌ zero_ℚ
zero-mul = same_1 (λ x. zero_ℚ *ℚ x) (λ x. zero_ℚ) (λ a. sound {r = Same} (omega arith))

pub mul-add : (x y z : Fraction) → x *ℚ (y +ℚ z) ≡ (x *ℚ y) +ℚ (x *ℚ z)
unfolding ◌+ℚ◌ ◌*ℚ◌
mul-add = same_3 (λ x y z. x *ℚ (y +ℚ z)) (λ x y z. (x *ℚ y) +ℚ (x *ℚ z))
    (λ a b c. sound {r = Same} (omega arith))

pub neg-mul : (x y : Fraction) → neg_ℚ x *ℚ y ≡ neg_ℚ (x *ℚ y)
unfolding ◌*ℚ◌ neg_ℚ
neg-mul =
    same_2 (λ x y. neg_ℚ x *ℚ y) (λ x y. neg_ℚ (x *ℚ y)) (λ a b. sound {r = Same} (omega arith))

pub neg-add : (x y : Fraction) → neg_ℚ (x +ℚ y) ≡ neg_ℚ x +ℚ neg_ℚ y
unfolding ◌+ℚ◌ neg_ℚ
neg-add = same_2 (λ x y. neg_ℚ (x +ℚ y)) (λ x y. neg_ℚ x +ℚ neg_ℚ y)
    (λ a b. sound {r = Same} (omega arith))

pub neg-neg : (x : Fraction) → neg_ℚ (neg_ℚ x) ≡ x
unfolding neg_ℚ
neg-neg = same_1 (λ x. neg_ℚ (neg_ℚ x)) (λ x. x) (λ a. sound {r = Same} (omega arith))
