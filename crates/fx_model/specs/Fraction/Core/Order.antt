-- The order of fractions, and what sums, products and negations do to it.
use mathlib.Core.Quot.{mk, sound}
use mathlib.Core.Bool.{Bool-set}
use mathlib.Core.HLevel.{Π_prop, →_prop}
use lib.Dec.{T, leb, le→leb, leb→le, nleb→lt}
use Rattle.std.specs.Prelude.{◌≡◌, ◌⊎◌, ℕ, ◌*◌, ◌+◌, ◌-◌, ◌≤◌, ◌<◌, Bool, true, false, IsFalse, not}
use Rattle.std.specs.Prelude.{refl}
use Rattle.std.proofs.Common.{arith, sym, ◌∙◌, subst, inl, inr}
use Rattle.std.proofs.Math.Nat.{mul-le-mul_left, mul-le-mul_right}
use Rattle.fx_model.specs.Fraction.Core.{Ratio, Same, Fraction, positive-mul, add_ratio, mul_ratio}
use Rattle.fx_model.specs.Fraction.Core.{neg_ratio, ◌+ℚ◌, ◌*ℚ◌, neg_ℚ, ◌-ℚ◌, cancel_le, le_ratio}
use Rattle.fx_model.specs.Fraction.Core.{LeRatio, le_ℚ, ◌≤ℚ◌, ◌<ℚ◌, by_ratio, Fraction-set, same_2}
use Rattle.fx_model.specs.Fraction.Core.{zero_ℚ, one_ℚ, T_true}
use Rattle.fx_model.specs.Fraction.Core.Ring.{add_comm}

-- ---- the order
pub le_in : (a b : Ratio) → LeRatio a b → mk a ≤ℚ mk b
unfolding le_ℚ
le_in a b h = record {
  le = T_true (leb (a.plus * b.den + b.minus * a.den) (b.plus * a.den + a.minus * b.den))
      (le→leb (a.plus * b.den + b.minus * a.den) (b.plus * a.den + a.minus * b.den) h);
}

pub le_out : (a b : Ratio) → mk a ≤ℚ mk b → LeRatio a b
unfolding le_ℚ
le_out a b h = leb→le (a.plus * b.den + b.minus * a.den)
    (b.plus * a.den + a.minus * b.den) (subst T (sym h.le) tt)

pub Le-prop : (x y : Fraction) → IsProp (x ≤ℚ y)
Le-prop x y p q = λ i. record { le = Bool-set (le_ℚ x y) true p.le q.le i }

pub le_refl : (x : Fraction) → x ≤ℚ x
le_refl = by_ratio (λ x. x ≤ℚ x) (λ x. Le-prop x x) (λ a. le_in a a (omega arith))

trans_ratio : (a b c : Ratio) → LeRatio a b → LeRatio b c → LeRatio a c
trans_ratio a b c h k =
    cancel_le b.den (a.plus * c.den + c.minus * a.den) (c.plus * a.den + a.minus * c.den) b.positive
    (omega (arith, mul-le-mul_right c.den h, mul-le-mul_right a.den k))

pub le_trans : (x y z : Fraction) → x ≤ℚ y → y ≤ℚ z → x ≤ℚ z
le_trans = by_ratio (λ x. (y z : Fraction) → x ≤ℚ y → y ≤ℚ z
    → x ≤ℚ z) (λ x. Π_prop (λ y. Π_prop (λ z. →_prop (→_prop (Le-prop x z)))))
    (λ a. by_ratio (λ y. (z : Fraction) → mk a ≤ℚ y → y ≤ℚ z
    → mk a ≤ℚ z) (λ y. Π_prop (λ z. →_prop (→_prop (Le-prop (mk a) z))))
    (λ b. by_ratio (λ z. mk a ≤ℚ mk b → mk b ≤ℚ z → mk a ≤ℚ z)
    (λ z. →_prop (→_prop (Le-prop (mk a) z)))
    (λ c h k. le_in a c (trans_ratio a b c (le_out a b h) (le_out b c k)))))

pub le_antisymm : (x y : Fraction) → x ≤ℚ y → y ≤ℚ x → x ≡ y
le_antisymm = by_ratio (λ x. (y : Fraction) → x ≤ℚ y → y ≤ℚ x
    → x ≡ y) (λ x. Π_prop (λ y. →_prop (→_prop (Fraction-set x y))))
    (λ a. by_ratio (λ y. mk a ≤ℚ y → y ≤ℚ mk a → mk a ≡ y)
    (λ y. →_prop (→_prop (Fraction-set (mk a) y)))
    (λ b h k. let p = le_out a b h in let q = le_out b a k in sound {r = Same} (omega arith)))

total_ratio : (a b : Ratio) → le_ratio a b ≡ false → LeRatio b a
total_ratio a b h = let p = nleb→lt (a.plus * b.den + b.minus * a.den)
    (b.plus * a.den + a.minus * b.den) (subst (λ t. T (not t)) (sym h) tt) in omega arith

pub le_total : (x y : Fraction) → le_ℚ x y ≡ false → y ≤ℚ x
unfolding le_ℚ
le_total = by_ratio (λ x. (y : Fraction) → le_ℚ x y ≡ false
    → y ≤ℚ x) (λ x. Π_prop (λ y. →_prop (Le-prop y x)))
    (λ a. by_ratio (λ y. le_ℚ (mk a) y ≡ false → y ≤ℚ mk a) (λ y. →_prop (Le-prop y (mk a)))
    (λ b h. le_in b a (total_ratio a b h)))

pub add-le : (z x y : Fraction) → x ≤ℚ y → z +ℚ x ≤ℚ z +ℚ y
unfolding ◌+ℚ◌
add-le = by_ratio (λ z. (x y : Fraction) → x ≤ℚ y
    → z +ℚ x ≤ℚ z +ℚ y) (λ z. Π_prop (λ x. Π_prop (λ y. →_prop (Le-prop (z +ℚ x) (z +ℚ y)))))
    (λ a. by_ratio (λ x. (y : Fraction) → x ≤ℚ y → mk a +ℚ x ≤ℚ mk a +ℚ y)
    (λ x. Π_prop (λ y. →_prop (Le-prop (mk a +ℚ x) (mk a +ℚ y))))
    (λ b. by_ratio (λ y. mk b ≤ℚ y → mk a +ℚ mk b ≤ℚ mk a +ℚ y)
    (λ y. →_prop (Le-prop (mk a +ℚ mk b) (mk a +ℚ y)))
    (λ c h. let p = le_out b c h in
    le_in (add_ratio a b) (add_ratio a c) (omega (arith, mul-le-mul_right (a.den * a.den) p)))))

rearranged_by : (m q l r : ℕ) → l ≤ r → (m + q) * l + m * r ≤ (m + q) * r + m * l
rearranged_by m q l r k = omega (arith, mul-le-mul_left q k)

rearranged : (p m l r : ℕ) → m ≤ p → l ≤ r → p * l + m * r ≤ p * r + m * l
rearranged p m l r h k = let e : m + (p - m) ≡ p = omega arith in
    subst (λ n. n * l + m * r ≤ n * r + m * l) e (rearranged_by m (p - m) l r k)

pub mul-le : (z x y : Fraction) → zero_ℚ ≤ℚ z → x ≤ℚ y → z *ℚ x ≤ℚ z *ℚ y
unfolding ◌*ℚ◌ zero_ℚ
mul-le = by_ratio (λ z. (x y : Fraction) → zero_ℚ ≤ℚ z → x ≤ℚ y → z *ℚ x ≤ℚ z *ℚ y)
    (λ z. Π_prop (λ x. Π_prop (λ y. →_prop (→_prop (Le-prop (z *ℚ x) (z *ℚ y))))))
    (λ a. by_ratio (λ x. (y : Fraction) → zero_ℚ ≤ℚ mk a → x ≤ℚ y → mk a *ℚ x ≤ℚ mk a *ℚ y)
    (λ x. Π_prop (λ y. →_prop (→_prop (Le-prop (mk a *ℚ x) (mk a *ℚ y)))))
    (λ b. by_ratio (λ y. zero_ℚ ≤ℚ mk a → mk b ≤ℚ y → mk a *ℚ mk b ≤ℚ mk a *ℚ y)
    (λ y. →_prop (→_prop (Le-prop (mk a *ℚ mk b) (mk a *ℚ y))))
    (λ c z h. let p = le_out b c h in let q = le_out _ a z in le_in (mul_ratio a b) (mul_ratio a c)
    (omega (arith, mul-le-mul_right a.den (rearranged a.plus a.minus _ _ (omega arith) p))))))

unrearranged_by : (m q l r : ℕ) → 0 < q → (m + q) * l + m * r ≤ (m + q) * r + m * l → l ≤ r
unrearranged_by m q l r p h = cancel_le q l r p (omega arith)

unrearranged : (p m l r : ℕ) → m < p → p * l + m * r ≤ p * r + m * l → l ≤ r
unrearranged p m l r h k = let e : p ≡ m + (p - m) = omega arith in
    unrearranged_by m (p - m) l r (omega arith) (subst (λ n. n * l + m * r ≤ n * r + m * l) e k)

-- ---- the strict order
pub lt_by : (x y : Fraction) → ¬ (y ≤ℚ x) → x <ℚ y
lt_by x y h = record { lt = not_true (le_ℚ y x) (λ t. h (record { le = t })) }
  where
    not_true : (b : Bool) → ¬ (b ≡ true) → IsFalse b
    not_true true n = absurd (n refl)
    not_true false n = refl

pub lt_not : (x y : Fraction) → x <ℚ y → ¬ (y ≤ℚ x)
lt_not x y h k = let a : le_ℚ y x ≡ false = h.lt in let b : le_ℚ y x ≡ true = k.le in
    absurd (let c : true ≡ false = sym b ∙ a in cc)

pub lt_le : (x y : Fraction) → x <ℚ y → x ≤ℚ y
lt_le x y h = le_total y x h.lt

pub le_lt_trans : (x y z : Fraction) → x ≤ℚ y → y <ℚ z → x <ℚ z
le_lt_trans x y z h k = lt_by x z (λ t. lt_not y z k (le_trans z x y t h))

pub lt_le_trans : (x y z : Fraction) → x <ℚ y → y ≤ℚ z → x <ℚ z
lt_le_trans x y z h k = lt_by x z (λ t. lt_not x y h (le_trans y z x k t))

pub le_or_lt : (x y : Fraction) → (x ≤ℚ y) ⊎ (y <ℚ x)
le_or_lt x y = by (le_ℚ x y) refl
  where
    by : (b : Bool) → le_ℚ x y ≡ b → (x ≤ℚ y) ⊎ (y <ℚ x)
    by true e = inl (record { le = e })
    by false e = inr (record { lt = e })

LtRatio : Ratio → Ratio → Type 0
LtRatio x y = x.plus * y.den + y.minus * x.den < y.plus * x.den + x.minus * y.den

lt_out_ratio : (a b : Ratio) → mk a <ℚ mk b → LtRatio a b
unfolding LtRatio
lt_out_ratio a b h = by_lt (a.plus * b.den + b.minus * a.den) (b.plus * a.den + a.minus * b.den)
    (λ k. lt_not (mk a) (mk b) h (le_in b a (omega arith)))
  where
    by_lt : (m n : ℕ) → ¬ (n ≤ m) → m < n
    by_lt m n k = omega arith

pub mul-le_cancel : (z x y : Fraction) → zero_ℚ <ℚ z → z *ℚ x ≤ℚ z *ℚ y → x ≤ℚ y
unfolding ◌*ℚ◌ zero_ℚ LtRatio
mul-le_cancel = by_ratio (λ z. (x y : Fraction) → zero_ℚ <ℚ z → z *ℚ x ≤ℚ z *ℚ y
    → x ≤ℚ y) (λ z. Π_prop (λ x. Π_prop (λ y. →_prop (→_prop (Le-prop x y)))))
    (λ a. by_ratio (λ x. (y : Fraction) → zero_ℚ <ℚ mk a → mk a *ℚ x ≤ℚ mk a *ℚ y
    → x ≤ℚ y) (λ x. Π_prop (λ y. →_prop (→_prop (Le-prop x y))))
    (λ b. by_ratio (λ y. zero_ℚ <ℚ mk a → mk a *ℚ mk b ≤ℚ mk a *ℚ y
    → mk b ≤ℚ y) (λ y. →_prop (→_prop (Le-prop (mk b) y)))
    (λ c z h. let p = le_out (mul_ratio a b) (mul_ratio a c) h in
    let q = lt_out_ratio _ a z in le_in b c
    (unrearranged a.plus a.minus _ _ (omega arith)
    (cancel_le a.den _ _ a.positive (omega arith))))))

pub neg-le : (x y : Fraction) → x ≤ℚ y → neg_ℚ y ≤ℚ neg_ℚ x
unfolding neg_ℚ
neg-le = by_ratio (λ x. (y : Fraction) → x ≤ℚ y
    → neg_ℚ y ≤ℚ neg_ℚ x) (λ x. Π_prop (λ y. →_prop (Le-prop (neg_ℚ y) (neg_ℚ x))))
    (λ a. by_ratio (λ y. mk a ≤ℚ y → neg_ℚ y ≤ℚ neg_ℚ (mk a))
    (λ y. →_prop (Le-prop (neg_ℚ y) (neg_ℚ (mk a))))
    (λ b h. let p = le_out a b h in le_in (neg_ratio b) (neg_ratio a) (omega arith)))

pub add-le-add : (a b x y : Fraction) → a ≤ℚ x → b ≤ℚ y → (a +ℚ b) ≤ℚ (x +ℚ y)
add-le-add a b x y h k =
    le_trans (a +ℚ b) (a +ℚ y) (x +ℚ y) (add-le a b y k) (subst (λ z. z ≤ℚ (x +ℚ y)) (add_comm y a)
    (subst (λ z. (y +ℚ a) ≤ℚ z) (add_comm y x) (add-le y a x h)))

pub Lt-prop : (x y : Fraction) → IsProp (x <ℚ y)
Lt-prop x y p q = λ i. record { lt = Bool-set (le_ℚ y x) false p.lt q.lt i }

pub minus_one : (h : Fraction) → (h -ℚ one_ℚ) <ℚ h
unfolding ◌+ℚ◌ neg_ℚ one_ℚ
minus_one = by_ratio (λ h. (h -ℚ one_ℚ) <ℚ h) (λ h. Lt-prop (h -ℚ one_ℚ) h)
    (λ a. lt_by (mk a -ℚ one_ℚ) (mk a) (λ k. let p = le_out a _ k in
    let q = positive-mul a.den a.den a.positive a.positive in absurd (omega arith)))

regroup : (h y : Fraction) → ((h -ℚ y) -ℚ one_ℚ) +ℚ y ≡ h -ℚ one_ℚ
unfolding ◌+ℚ◌ neg_ℚ one_ℚ
regroup = same_2 (λ h y. ((h -ℚ y) -ℚ one_ℚ) +ℚ y) (λ h y. h -ℚ one_ℚ)
    (λ a b. sound {r = Same} (omega arith))

-- h - y - 1 + y is below h
pub under : (h y : Fraction) → (((h -ℚ y) -ℚ one_ℚ) +ℚ y) <ℚ h
under h y = subst (λ z. z <ℚ h) (sym (regroup h y)) (minus_one h)

pub plus_one : (h : Fraction) → h <ℚ (h +ℚ one_ℚ)
unfolding ◌+ℚ◌ one_ℚ
plus_one = by_ratio (λ h. h <ℚ (h +ℚ one_ℚ)) (λ h. Lt-prop h (h +ℚ one_ℚ))
    (λ a. lt_by (mk a) (mk a +ℚ one_ℚ) (λ k. let p = le_out _ a k in
    let q = positive-mul a.den a.den a.positive a.positive in absurd (omega arith)))

regroup_over : (h y : Fraction) → ((h -ℚ y) +ℚ one_ℚ) +ℚ y ≡ h +ℚ one_ℚ
unfolding ◌+ℚ◌ neg_ℚ one_ℚ
regroup_over = same_2 (λ h y. ((h -ℚ y) +ℚ one_ℚ) +ℚ y) (λ h y. h +ℚ one_ℚ)
    (λ a b. sound {r = Same} (omega arith))

-- h - y + 1 + y is above h
pub over : (h y : Fraction) → h <ℚ (((h -ℚ y) +ℚ one_ℚ) +ℚ y)
over h y = subst (λ z. h <ℚ z) (sym (regroup_over h y)) (plus_one h)
