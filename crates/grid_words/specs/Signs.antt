-- Products and inverses by their signs.
use Rattle.std.specs.Prelude.{◌≡◌}
use Rattle.std.proofs.Common.{sym, subst, ap, ◌∙◌, ⊎_elim}
use Rattle.fx_model.specs.Fraction.{Fraction, ◌*ℚ◌, ◌≤ℚ◌, ◌<ℚ◌, zero_ℚ, one_ℚ, neg_ℚ, abs_ℚ}
use Rattle.fx_model.specs.Fraction.{inverse_ℚ, abs-from, abs-below, mul-inverse, mul-le}
use Rattle.fx_model.specs.Fraction.{mul-le_cancel, mul_comm, mul_assoc, one-mul, zero-mul, zero-add}
use Rattle.fx_model.specs.Fraction.{neg-mul, neg-neg, neg-le, le_refl, le_antisymm, le_or_lt, lt_le}
use Rattle.fx_model.specs.Fraction.{lt_not, lt_le_trans, le_lt_trans, lt_by, plus_one, neg-le_out}
use Rattle.fx_model.specs.Fraction.{neg_zero, neg_up, mul-neg}

pub zero_one : zero_ℚ <ℚ one_ℚ
zero_one = subst (λ y. zero_ℚ <ℚ y) (zero-add one_ℚ) (plus_one zero_ℚ)

-- ---- negatives
neg_positive : (x : Fraction) → x <ℚ zero_ℚ → zero_ℚ <ℚ neg_ℚ x
neg_positive x h = lt_by zero_ℚ (neg_ℚ x)
    (λ k. lt_not x zero_ℚ h (subst (λ z. zero_ℚ ≤ℚ z) (neg-neg x) (neg_up (neg_ℚ x) k)))

-- ---- factors
pub times_up : (x u v : Fraction) → x ≤ℚ u → zero_ℚ ≤ℚ v → (x *ℚ v) ≤ℚ (u *ℚ v)
times_up x u v h p = rw (mul_comm x v, mul_comm u v) (mul-le v x u p h)

pub times_down : (x u v : Fraction) → x ≤ℚ u → v ≤ℚ zero_ℚ → (u *ℚ v) ≤ℚ (x *ℚ v)
times_down x u v h p = neg-le_out (x *ℚ v) (u *ℚ v)
    (rw (← mul-neg x v, ← mul-neg u v) (times_up x u (neg_ℚ v) h (neg_up v p)))

pub factor_down : (z x u : Fraction) → z ≤ℚ zero_ℚ → x ≤ℚ u → (z *ℚ u) ≤ℚ (z *ℚ x)
factor_down z x u p h = rw (mul_comm z u, mul_comm z x) (times_down x u z h p)

-- ---- sizes
pub abs_down : (x : Fraction) → x ≤ℚ zero_ℚ → abs_ℚ x ≡ neg_ℚ x
abs_down x h = ⊎_elim (λ l. let e : x ≡ zero_ℚ = le_antisymm x zero_ℚ h l in
    ap abs_ℚ e ∙ abs-from zero_ℚ (le_refl zero_ℚ) ∙ sym neg_zero ∙ ap neg_ℚ (sym e))
    (λ l. abs-below x l) (le_or_lt zero_ℚ x)

-- ---- inverses
pub not_zero : (x : Fraction) → zero_ℚ <ℚ x → ¬ (x ≡ zero_ℚ)
not_zero x h e = lt_not zero_ℚ x h (subst (λ y. y ≤ℚ zero_ℚ) (sym e) (le_refl zero_ℚ))

below_not_zero : (x : Fraction) → x <ℚ zero_ℚ → ¬ (x ≡ zero_ℚ)
below_not_zero x h e = lt_not x zero_ℚ h (subst (λ y. zero_ℚ ≤ℚ y) (sym e) (le_refl zero_ℚ))

pub inverse_up : (x : Fraction) → zero_ℚ <ℚ x → zero_ℚ ≤ℚ inverse_ℚ x
inverse_up x h = ⊎_elim (λ l. l) (λ l. absurd (lt_not zero_ℚ one_ℚ zero_one
    (subst (λ y. y ≤ℚ zero_ℚ) (mul-inverse x (not_zero x h)) (subst (λ y. (x *ℚ inverse_ℚ x) ≤ℚ y)
    (mul_comm x zero_ℚ ∙ zero-mul x) (mul-le x (inverse_ℚ x) zero_ℚ (lt_le zero_ℚ x h)
    (lt_le (inverse_ℚ x) zero_ℚ l)))))) (le_or_lt zero_ℚ (inverse_ℚ x))

-- a greater divisor above 0 has a smaller inverse
pub inverse_le : (x y : Fraction) → zero_ℚ <ℚ x → x ≤ℚ y → inverse_ℚ y ≤ℚ inverse_ℚ x
inverse_le x y h k = let p : zero_ℚ <ℚ y = lt_le_trans zero_ℚ x y h k in
    mul-le_cancel x (inverse_ℚ y)
    (inverse_ℚ x) h (subst (λ z. (x *ℚ inverse_ℚ y) ≤ℚ z) (mul-inverse y (not_zero y p)
    ∙ sym (mul-inverse x (not_zero x h))) (times_up x y (inverse_ℚ y) k (inverse_up y p)))

pub inverse-neg : (y : Fraction) → ¬ (y ≡ zero_ℚ) → inverse_ℚ (neg_ℚ y) ≡ neg_ℚ (inverse_ℚ y)
inverse-neg y h = sym (one-mul (inverse_ℚ (neg_ℚ y)))
    ∙ ap (λ z. z *ℚ inverse_ℚ (neg_ℚ y)) (sym product) ∙ mul_assoc (neg_ℚ (inverse_ℚ y)) (neg_ℚ y)
    (inverse_ℚ (neg_ℚ y)) ∙ ap (λ z. neg_ℚ (inverse_ℚ y) *ℚ z) (mul-inverse (neg_ℚ y) other)
    ∙ mul_comm (neg_ℚ (inverse_ℚ y)) one_ℚ ∙ one-mul (neg_ℚ (inverse_ℚ y))
  where
    other : ¬ (neg_ℚ y ≡ zero_ℚ)
    other e = h (sym (neg-neg y) ∙ ap neg_ℚ e ∙ neg_zero)

    product : neg_ℚ (inverse_ℚ y) *ℚ neg_ℚ y ≡ one_ℚ
    product = neg-mul (inverse_ℚ y) (neg_ℚ y) ∙ ap neg_ℚ (mul-neg (inverse_ℚ y) y)
        ∙ neg-neg (inverse_ℚ y *ℚ y) ∙ mul_comm (inverse_ℚ y) y ∙ mul-inverse y h

-- and so has one below 0
inverse_le_below : (x y : Fraction) → y <ℚ zero_ℚ → x ≤ℚ y → inverse_ℚ y ≤ℚ inverse_ℚ x
inverse_le_below x y h k = neg-le_out (inverse_ℚ x) (inverse_ℚ y) (subst
    (λ z. z ≤ℚ neg_ℚ (inverse_ℚ y)) (inverse-neg x (below_not_zero x (le_lt_trans x y zero_ℚ k h)))
    (subst (λ z. inverse_ℚ (neg_ℚ x) ≤ℚ z) (inverse-neg y (below_not_zero y h))
    (inverse_le (neg_ℚ y) (neg_ℚ x) (neg_positive y h) (neg-le x y k))))

-- where 0 isn't between c and d, the inverse falls from c to d
pub inverse_falls : (c d : Fraction) → ¬ ((c ≤ℚ zero_ℚ) × (zero_ℚ ≤ℚ d)) → (x y : Fraction) → c ≤ℚ x
    → x ≤ℚ y → y ≤ℚ d → inverse_ℚ y ≤ℚ inverse_ℚ x
inverse_falls c d n x y p h q =
    ⊎_elim (λ l. inverse_le_below x y (le_lt_trans y d zero_ℚ q (lt_by d zero_ℚ (λ k. n (l, k)))) h)
    (λ l. inverse_le x y (lt_le_trans zero_ℚ c x l p) h) (le_or_lt c zero_ℚ)
