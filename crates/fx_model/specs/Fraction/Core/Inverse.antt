-- Absolute values and quotients.
use mathlib.Core.Quot.{mk, sound, lift, Quot-set}
use mathlib.Core.HLevel.{→_prop}
use Rattle.std.specs.Prelude.{◌≡◌, ◌⊎◌, ℕ, ◌*◌, ◌+◌, ◌-◌, ◌<◌, Bool, true, false, cond, refl}
use Rattle.std.proofs.Common.{arith, sym, ap, ◌∙◌, lit<, inl, inr, ⊎_elim, zero, suc}
use Rattle.std.proofs.Math.Nat.{mul-pos}
use Rattle.std.proofs.lemmas.Bool.{cases_lt}
use Rattle.fx_model.specs.Fraction.Core.{Ratio, Same, Fraction, ◌*ℚ◌, neg_ℚ, le_ℚ, ◌≤ℚ◌, ◌<ℚ◌}
use Rattle.fx_model.specs.Fraction.Core.{by_ratio, Fraction-set, of_ratio, zero_ℚ, one_ℚ}
use Rattle.fx_model.specs.Fraction.Core.Order.{le_refl, le_antisymm}

-- ---- absolute value, quotient
pub abs_ℚ : Fraction → Fraction
abs_ℚ x = cond (le_ℚ zero_ℚ x) x (neg_ℚ x)

-- x is 0
pub is_zero_ℚ : Fraction → Bool
is_zero_ℚ x = cond (le_ℚ x zero_ℚ) (le_ℚ zero_ℚ x) false

-- what 1 / x is over: the square of the numerator, or 1 where x is 0
abbrev pub square_ratio : ℕ → ℕ → ℕ
square_ratio p n = p * p + n * n + (1 - (p + n))

pub square_positive : (p n : ℕ) → 0 < square_ratio p n
square_positive zero zero = omega arith
square_positive zero (suc n) = omega arith
square_positive (suc p) n = omega arith

-- 1 / x, and 0 where x is 0
abbrev pub inverse_ratio : Ratio → Ratio
inverse_ratio x = record {
  plus = x.den * (x.plus - x.minus);
  minus = x.den * (x.minus - x.plus);
  den = square_ratio (x.plus - x.minus) (x.minus - x.plus);
  positive = square_positive (x.plus - x.minus) (x.minus - x.plus);
}

-- of a difference one side is 0
one_side : (a b : ℕ) → (a - b ≡ 0) ⊎ (b - a ≡ 0)
one_side a b = ⊎_elim (λ l. inl (omega arith)) (λ l. inr (omega arith)) (cases_lt a b)

CrossInverse : (p n d q m e : ℕ) → Type 0
CrossInverse p n d q m e = (d * p) * square_ratio q m + (e * m) * square_ratio p n
    ≡ (e * q) * square_ratio p n + (d * n) * square_ratio q m

square_up : (q : ℕ) → square_ratio (suc q) 0 ≡ suc q * suc q
square_up q = let z : 1 - (suc q + 0) ≡ 0 = omega arith in
    ap (λ n. suc q * suc q + 0 * 0 + n) z ∙ omega arith

both_up : (p d q e : ℕ) → 0 < d → 0 < e → p * e ≡ q * d
    → (d * p) * square_ratio q 0 ≡ (e * q) * square_ratio p 0
both_up zero d zero e a b h = omega arith
both_up zero d (suc q) e a b h = absurd (omega (arith, mul-pos {m = suc q} {n = d} (omega arith) a))
both_up (suc p) d zero e a b h = absurd (omega (arith, mul-pos {m = suc p} {n = e} (omega arith) b))
both_up (suc p) d (suc q) e a b h =
    ap (λ n. (d * suc p) * n) (square_up q) ∙ omega (arith, ap (λ n. n * ((suc p) * (suc q))) h)
    ∙ ap (λ n. (e * suc q) * n) (sym (square_up p))

opposite_zero : (p d m e : ℕ) → 0 < d → 0 < e → p * e + m * d ≡ 0 → (p ≡ 0) × (m ≡ 0)
opposite_zero zero d zero e a b h = (refl, refl)
opposite_zero zero d (suc m) e a b h =
    absurd (omega (arith, mul-pos {m = suc m} {n = d} (omega arith) a))
opposite_zero (suc p) d m e a b h =
    absurd (omega (arith, mul-pos {m = suc p} {n = e} (omega arith) b))

swap_square : (n : ℕ) → square_ratio 0 n ≡ square_ratio n 0
swap_square n = omega arith

-- the four cases of the signs
up_up : (p d q e : ℕ) → 0 < d → 0 < e → p * e + 0 * d ≡ q * d + 0 * e → CrossInverse p 0 d q 0 e
unfolding CrossInverse
up_up p d q e a b h = let k = both_up p d q e a b (omega arith) in omega arith

down_down : (n d m e : ℕ) → 0 < d → 0 < e → 0 * e + m * d ≡ 0 * d + n * e → CrossInverse 0 n d 0 m e
unfolding CrossInverse
down_down n d m e a b h = let k = both_up n d m e a b (omega arith) in
    omega (arith, ap (λ z. (d * n) * z) (swap_square m), ap (λ z. (e * m) * z) (swap_square n))

up_down : (p d m e : ℕ) → 0 < d → 0 < e → p * e + m * d ≡ 0 * d + 0 * e → CrossInverse p 0 d 0 m e
unfolding CrossInverse
up_down p d m e a b h = let z = opposite_zero p d m e a b (omega arith) in
    rw (z.0, z.1) (omega arith)

down_up : (n d q e : ℕ) → 0 < d → 0 < e → 0 * e + 0 * d ≡ q * d + n * e → CrossInverse 0 n d q 0 e
unfolding CrossInverse
down_up n d q e a b h = let z = opposite_zero q e n d b a (omega arith) in
    rw (z.0, z.1) (omega arith)

cross_inverse : (p n d q m e : ℕ) → 0 < d → 0 < e → (p ≡ 0) ⊎ (n ≡ 0) → (q ≡ 0) ⊎ (m ≡ 0)
    → p * e + m * d ≡ q * d + n * e → CrossInverse p n d q m e
cross_inverse p n d q m e a b (inl i) (inl j) h = rw (i, j) (down_down n d m e a b (rw (i, j) at h))
cross_inverse p n d q m e a b (inl i) (inr j) h = rw (i, j) (down_up n d q e a b (rw (i, j) at h))
cross_inverse p n d q m e a b (inr i) (inl j) h = rw (i, j) (up_down p d m e a b (rw (i, j) at h))
cross_inverse p n d q m e a b (inr i) (inr j) h = rw (i, j) (up_up p d q e a b (rw (i, j) at h))

times_sub : (k a b : ℕ) → (a - b) * k + b * k ≡ a * k + (b - a) * k
times_sub k a b = let e : (a - b) + b ≡ a + (b - a) = omega arith in
    omega (arith, ap (λ n. n * k) e)

inverse_same : (x y : Ratio) → Same x y → Same (inverse_ratio x) (inverse_ratio y)
unfolding CrossInverse
inverse_same x y h = cross_inverse (x.plus - x.minus) (x.minus - x.plus) x.den (y.plus - y.minus)
    (y.minus - y.plus) y.den x.positive y.positive
    (one_side x.plus x.minus) (one_side y.plus y.minus)
    (omega (arith, h, times_sub y.den x.plus x.minus, times_sub x.den y.plus y.minus))

pub inverse_ℚ : Fraction → Fraction
inverse_ℚ x = lift (Quot-set {r = Same}) (λ a. mk (inverse_ratio a))
    (λ a b h. sound {r = Same} (inverse_same a b h)) x

infixl 7 ◌/ℚ◌
-- The quotient of two fractions, exactly; a quotient by 0 is 0.
abbrev pub ◌/ℚ◌ : Fraction → Fraction → Fraction
x /ℚ y = x *ℚ inverse_ℚ y

-- ---- x * (1 / x) = 1
product_one : (a m p n d : ℕ) → a + n ≡ m + p → p * n ≡ 0 → 0 < p + n → (a * (d * p) + m * (d * n))
    * 1 + 0 * (d * square_ratio p n) ≡ 1 * (d * square_ratio p n) + (a * (d * n) + m * (d * p)) * 1
product_one a m p n d e z h = let s : square_ratio p n ≡ p * p + n * n =
    (let k : 1 - (p + n) ≡ 0 = omega arith in ap (λ t. p * p + n * n + t) k ∙ omega arith) in
    omega
    (arith, ap (λ t. d * t) s, ap (λ t. t * (d * p)) e, ap (λ t. t * (d * n)) e, ap (λ t. d * t) z)

zero_product : (p n : ℕ) → (p ≡ 0) ⊎ (n ≡ 0) → p * n ≡ 0
zero_product p n (inl e) = ap (λ t. t * n) e ∙ omega arith
zero_product p n (inr e) = ap (λ t. p * t) e ∙ omega arith

some_gap : (a : Ratio) → ¬ (of_ratio a ≡ zero_ℚ) → 0 < (a.plus - a.minus) + (a.minus - a.plus)
unfolding zero_ℚ
some_gap a h = ⊎_elim (λ l. l) (λ l. absurd (h (sound {r = Same} {b = record {
  plus = 0;
  minus = 0;
  den = 1;
  positive = lit< tt;
}} (omega arith)))) (cases_lt 0 ((a.plus - a.minus) + (a.minus - a.plus)))

pub mul-inverse : (x : Fraction) → ¬ (x ≡ zero_ℚ) → x *ℚ inverse_ℚ x ≡ one_ℚ
unfolding ◌*ℚ◌ inverse_ℚ one_ℚ
mul-inverse = by_ratio (λ x. ¬ (x ≡ zero_ℚ) → x *ℚ inverse_ℚ x ≡ one_ℚ)
    (λ x. →_prop (Fraction-set (x *ℚ inverse_ℚ x) one_ℚ))
    (λ a h. sound {r = Same}
    (product_one a.plus a.minus (a.plus - a.minus) (a.minus - a.plus) a.den (omega arith)
    (zero_product (a.plus - a.minus) (a.minus - a.plus) (one_side a.plus a.minus)) (some_gap a h)))

pub inverse-mk : (a : Ratio) → inverse_ℚ (of_ratio a) ≡ of_ratio (inverse_ratio a)
unfolding inverse_ℚ
inverse-mk a = refl

-- ---- absolute values by the sign
pub abs-from : (x : Fraction) → zero_ℚ ≤ℚ x → abs_ℚ x ≡ x
unfolding abs_ℚ
abs-from x h = ap (λ b. cond b x (neg_ℚ x)) h.le

pub abs-below : (x : Fraction) → x <ℚ zero_ℚ → abs_ℚ x ≡ neg_ℚ x
unfolding abs_ℚ
abs-below x h = ap (λ b. cond b x (neg_ℚ x)) h.lt

-- ---- the test for zero
pub is_zero-zero : is_zero_ℚ zero_ℚ ≡ true
unfolding is_zero_ℚ
is_zero-zero = ap (λ b. cond b b false) (le_refl zero_ℚ).le

pub is_zero_out : (x : Fraction) → is_zero_ℚ x ≡ true → x ≡ zero_ℚ
unfolding is_zero_ℚ
is_zero_out x h = by (le_ℚ x zero_ℚ) (le_ℚ zero_ℚ x) refl refl h
  where
    by : (a b : Bool) → le_ℚ x zero_ℚ ≡ a → le_ℚ zero_ℚ x ≡ b → cond a b false ≡ true → x ≡ zero_ℚ
    by true true p q h = le_antisymm x zero_ℚ (record { le = p }) (record { le = q })
    by true false p q h = cc
    by false b p q h = cc
