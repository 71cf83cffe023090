-- Absolute values of sums, products and quotients.
use Rattle.std.specs.Prelude.{◌≡◌, ◌≢◌, ◌⊎◌}
use Rattle.std.proofs.Common.{sym, ap, subst, ◌∙◌, inl, inr, ⊎_elim}
use Rattle.fx_model.specs.Fraction.{Fraction, ◌+ℚ◌, ◌-ℚ◌, ◌*ℚ◌, ◌/ℚ◌, ◌≤ℚ◌, ◌<ℚ◌, zero_ℚ, neg_ℚ}
use Rattle.fx_model.specs.Fraction.{abs_ℚ, abs-from, le_refl, le_trans, le_antisymm, le_or_lt}
use Rattle.fx_model.specs.Fraction.{lt_le, lt_by, mul-le, mul_comm, zero-mul, zero-add, add_comm}
use Rattle.fx_model.specs.Fraction.{add_assoc, add-neg, add-le-add, neg-le, neg-neg, neg-add}
use Rattle.fx_model.specs.Fraction.{neg-mul, neg_up, neg_down, mul-neg}
use Rattle.fx_model.proofs.Fraction.{mul_cancel, div-mul}
use Rattle.grid_words.specs.Signs.{abs_down}

-- a number is 0 or above, or 0 or below, and its absolute value is it or its negative
pub record IsUpSide (x : Fraction) : Type 0 where
  pub from : zero_ℚ ≤ℚ x
  pub is : abs_ℚ x ≡ x

-- The number is 0 or below, and its absolute value is its negative.
pub record IsDownSide (x : Fraction) : Type 0 where
  pub to : x ≤ℚ zero_ℚ
  pub is : abs_ℚ x ≡ neg_ℚ x

pub sides : (x : Fraction) → IsUpSide x ⊎ IsDownSide x
sides x = ⊎_elim (λ l. inl (record { from = l; is = abs-from x l })) (λ l. let t : x ≤ℚ zero_ℚ =
    lt_le x zero_ℚ l in inr (record { to = t; is = abs_down x t })) (le_or_lt zero_ℚ x)

pub abs-not_negative : (x : Fraction) → zero_ℚ ≤ℚ abs_ℚ x
abs-not_negative x = ⊎_elim (λ u. subst (λ y. zero_ℚ ≤ℚ y) (sym u.is) u.from)
    (λ d. subst (λ y. zero_ℚ ≤ℚ y) (sym d.is) (neg_up x d.to)) (sides x)

pub abs-neg : (x : Fraction) → abs_ℚ (neg_ℚ x) ≡ abs_ℚ x
abs-neg x = ⊎_elim (λ u. abs_down (neg_ℚ x) (neg_down x u.from) ∙ neg-neg x
    ∙ sym u.is) (λ d. abs-from (neg_ℚ x) (neg_up x d.to) ∙ sym d.is) (sides x)

pub le_abs : (x : Fraction) → x ≤ℚ abs_ℚ x
le_abs x = ⊎_elim (λ u. subst (λ y. x ≤ℚ y) (sym u.is) (le_refl x))
    (λ d. le_trans x zero_ℚ (abs_ℚ x) d.to (abs-not_negative x)) (sides x)

pub neg_abs_le : (x : Fraction) → neg_ℚ (abs_ℚ x) ≤ℚ x
neg_abs_le x = subst (λ y. neg_ℚ (abs_ℚ x) ≤ℚ y) (neg-neg x)
    (neg-le (neg_ℚ x) (abs_ℚ x) (subst (λ y. neg_ℚ x ≤ℚ y) (abs-neg x) (le_abs (neg_ℚ x))))

-- what lies between -b and b has an absolute value of at most b
pub abs_le : (x b : Fraction) → neg_ℚ b ≤ℚ x → x ≤ℚ b → abs_ℚ x ≤ℚ b
abs_le x b l h = ⊎_elim (λ u. subst (λ y. y ≤ℚ b) (sym u.is) h) (λ d. subst (λ y. y ≤ℚ b) (sym d.is)
    (subst (λ y. neg_ℚ x ≤ℚ y) (neg-neg b) (neg-le (neg_ℚ b) x l))) (sides x)

-- ---- products and quotients
pub product_up : (x y : Fraction) → zero_ℚ ≤ℚ x → zero_ℚ ≤ℚ y → zero_ℚ ≤ℚ (x *ℚ y)
product_up x y p q =
    subst (λ z. z ≤ℚ (x *ℚ y)) (mul_comm x zero_ℚ ∙ zero-mul x) (mul-le x zero_ℚ y p q)

pub abs-mul : (x y : Fraction) → abs_ℚ (x *ℚ y) ≡ abs_ℚ x *ℚ abs_ℚ y
abs-mul x y = ⊎_elim
    (λ u. ⊎_elim
    (λ v. abs-from (x *ℚ y) (product_up x y u.from v.from)
    ∙ sym (ap (λ z. z *ℚ abs_ℚ y) u.is ∙ ap (λ z. x *ℚ z) v.is))
    (λ d. ap abs_ℚ (sym (neg-neg (x *ℚ y)) ∙ ap neg_ℚ (sym (mul-neg x y))) ∙ abs-neg (x *ℚ neg_ℚ y)
    ∙ abs-from (x *ℚ neg_ℚ y) (product_up x (neg_ℚ y) u.from (neg_up y d.to))
    ∙ sym (ap (λ z. z *ℚ abs_ℚ y) u.is ∙ ap (λ z. x *ℚ z) d.is))
    (sides y))
    (λ c. ⊎_elim
    (λ v. ap abs_ℚ (sym (neg-neg (x *ℚ y)) ∙ ap neg_ℚ (sym (neg-mul x y))) ∙ abs-neg (neg_ℚ x *ℚ y)
    ∙ abs-from (neg_ℚ x *ℚ y) (product_up (neg_ℚ x) y (neg_up x c.to) v.from)
    ∙ sym (ap (λ z. z *ℚ abs_ℚ y) c.is ∙ ap (λ z. neg_ℚ x *ℚ z) v.is))
    (λ d. ap abs_ℚ (sym (neg-neg (x *ℚ y)) ∙ ap neg_ℚ (sym (neg-mul x y))
    ∙ sym (mul-neg (neg_ℚ x) y))
    ∙ abs-from (neg_ℚ x *ℚ neg_ℚ y) (product_up (neg_ℚ x) (neg_ℚ y) (neg_up x c.to) (neg_up y d.to))
    ∙ sym (ap (λ z. z *ℚ abs_ℚ y) c.is ∙ ap (λ z. neg_ℚ x *ℚ z) d.is))
    (sides y))
    (sides x)

pub abs-square : (x : Fraction) → abs_ℚ x *ℚ abs_ℚ x ≡ x *ℚ x
abs-square x = ⊎_elim (λ u. ap (λ z. z *ℚ z) u.is) (λ d. ap (λ z. z *ℚ z) d.is ∙ neg-mul x (neg_ℚ x)
    ∙ ap neg_ℚ (mul-neg x x) ∙ neg-neg (x *ℚ x)) (sides x)

pub abs-zero : (x : Fraction) → abs_ℚ x ≡ zero_ℚ → x ≡ zero_ℚ
abs-zero x e = ⊎_elim (λ u. sym u.is ∙ e) (λ d. sym (neg-neg x) ∙ ap neg_ℚ (sym d.is ∙ e)
    ∙ neg_zero_is) (sides x)
  where
    neg_zero_is : neg_ℚ zero_ℚ ≡ zero_ℚ
    neg_zero_is = sym (zero-add (neg_ℚ zero_ℚ)) ∙ add-neg zero_ℚ

positive_abs : (x : Fraction) → x ≢ zero_ℚ → zero_ℚ <ℚ abs_ℚ x
positive_abs x n = lt_by zero_ℚ (abs_ℚ x)
    (λ l. n (abs-zero x (le_antisymm (abs_ℚ x) zero_ℚ l (abs-not_negative x))))

pub abs-div : (x y : Fraction) → y ≢ zero_ℚ → abs_ℚ (x /ℚ y) ≡ abs_ℚ x /ℚ abs_ℚ y
abs-div x y n = mul_cancel (abs_ℚ y) (abs_ℚ (x /ℚ y)) (abs_ℚ x /ℚ abs_ℚ y) (positive_abs y n)
    (mul_comm (abs_ℚ y) (abs_ℚ (x /ℚ y)) ∙ sym (abs-mul (x /ℚ y) y) ∙ ap abs_ℚ (div-mul x y n)
    ∙ sym (div-mul (abs_ℚ x) (abs_ℚ y) (λ z. n (abs-zero y z)))
    ∙ mul_comm (abs_ℚ x /ℚ abs_ℚ y) (abs_ℚ y))

-- ---- sums
pub abs-add : (x y : Fraction) → abs_ℚ (x +ℚ y) ≤ℚ (abs_ℚ x +ℚ abs_ℚ y)
abs-add x y = abs_le (x +ℚ y) (abs_ℚ x +ℚ abs_ℚ y)
    (subst (λ z. z ≤ℚ (x +ℚ y)) (sym (neg-add (abs_ℚ x) (abs_ℚ y)))
    (add-le-add (neg_ℚ (abs_ℚ x)) (neg_ℚ (abs_ℚ y)) x y (neg_abs_le x) (neg_abs_le y)))
    (add-le-add x y (abs_ℚ x) (abs_ℚ y) (le_abs x) (le_abs y))

taken_back : (x y : Fraction) → (x +ℚ y) +ℚ neg_ℚ y ≡ x
taken_back x y =
    add_assoc x y (neg_ℚ y) ∙ ap (λ z. x +ℚ z) (add-neg y) ∙ add_comm x zero_ℚ ∙ zero-add x

pub sub_from : (a b c : Fraction) → a ≤ℚ (b +ℚ c) → (a -ℚ c) ≤ℚ b
sub_from a b c l = subst (λ z. (a -ℚ c) ≤ℚ z) (taken_back b c)
    (add-le-add a (neg_ℚ c) (b +ℚ c) (neg_ℚ c) l (le_refl (neg_ℚ c)))

-- the absolute values differ by at most that of the sum
pub abs-add_least : (x y : Fraction) → (abs_ℚ x -ℚ abs_ℚ y) ≤ℚ abs_ℚ (x +ℚ y)
abs-add_least x y = sub_from (abs_ℚ x) (abs_ℚ (x +ℚ y)) (abs_ℚ y)
    (subst (λ z. abs_ℚ x ≤ℚ (abs_ℚ (x +ℚ y) +ℚ z))
    (abs-neg y) (subst (λ z. z ≤ℚ (abs_ℚ (x +ℚ y) +ℚ abs_ℚ (neg_ℚ y))) (ap abs_ℚ (taken_back x y))
    (abs-add (x +ℚ y) (neg_ℚ y))))

pub abs-sub : (x y : Fraction) → abs_ℚ (x -ℚ y) ≤ℚ (abs_ℚ x +ℚ abs_ℚ y)
abs-sub x y = subst (λ z. abs_ℚ (x -ℚ y) ≤ℚ (abs_ℚ x +ℚ z)) (abs-neg y) (abs-add x (neg_ℚ y))

pub abs-sub_least : (x y : Fraction) → (abs_ℚ x -ℚ abs_ℚ y) ≤ℚ abs_ℚ (x -ℚ y)
abs-sub_least x y =
    subst (λ z. (abs_ℚ x -ℚ z) ≤ℚ abs_ℚ (x -ℚ y)) (abs-neg y) (abs-add_least x (neg_ℚ y))

-- the same with x and y exchanged
pub abs-add_other : (x y : Fraction) → (abs_ℚ y -ℚ abs_ℚ x) ≤ℚ abs_ℚ (x +ℚ y)
abs-add_other x y = subst (λ z. (abs_ℚ y -ℚ abs_ℚ x) ≤ℚ abs_ℚ z) (add_comm y x) (abs-add_least y x)

pub abs-sub_other : (x y : Fraction) → (abs_ℚ y -ℚ abs_ℚ x) ≤ℚ abs_ℚ (x -ℚ y)
abs-sub_other x y =
    subst (λ z. (z -ℚ abs_ℚ x) ≤ℚ abs_ℚ (x -ℚ y)) (abs-neg y) (abs-add_other x (neg_ℚ y))
