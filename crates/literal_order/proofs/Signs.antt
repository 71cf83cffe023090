-- The order of numbers with their signs, by that of their sizes.
use Rattle.std.proofs.Common.{◌≡◌, Bool, true, false, ◌&&◌, ◌||◌, IsTrue, ◌↔◌, refl, subst, ⊎_elim}
use Rattle.fx_model.specs.Fraction.{Fraction, ◌≤ℚ◌, ◌<ℚ◌, zero_ℚ, neg_ℚ, lt_by, lt_not, le_or_lt}
use Rattle.fx_model.specs.Fraction.{le_trans, le_lt_trans, lt_le_trans, neg-le, neg_zero, neg_up}
use Rattle.fx_model.specs.Fraction.{neg_down}
use Rattle.fx_model.proofs.Fraction.{neg-lt}
use Rattle.fx_model.specs.Grid.{signed}

neg-lt_out : (x y : Fraction) → neg_ℚ y <ℚ neg_ℚ x → x <ℚ y
neg-lt_out x y l = lt_by x y (λ h. lt_not (neg_ℚ y) (neg_ℚ x) l (neg-le y x h))

-- of one sign
pub both_up : (n m : Bool) (x y : Fraction) → n ≡ false → m ≡ false
    → x <ℚ y ↔ signed n x <ℚ signed m y
both_up true m x y e f = cc
both_up false true x y e f = cc
both_up false false x y e f = (λ h. h, λ h. h)

pub both_down : (n m : Bool) (x y : Fraction) → n ≡ true → m ≡ true
    → y <ℚ x ↔ signed n x <ℚ signed m y
both_down false m x y e f = cc
both_down true false x y e f = cc
both_down true true x y e f = (neg-lt y x, neg-lt_out y x)

-- of two signs
module _ (x y : Fraction) (p : zero_ℚ ≤ℚ x) (q : zero_ℚ ≤ℚ y) where
  never : ¬ (x <ℚ neg_ℚ y)
  never h = lt_not x (neg_ℚ y) h (le_trans (neg_ℚ y) zero_ℚ x (neg_down y q) p)

  first_some : zero_ℚ <ℚ x → neg_ℚ x <ℚ y
  first_some h =
      lt_le_trans (neg_ℚ x) zero_ℚ y (subst (λ z. neg_ℚ x <ℚ z) neg_zero (neg-lt zero_ℚ x h)) q

  second_some : zero_ℚ <ℚ y → neg_ℚ x <ℚ y
  second_some h = le_lt_trans (neg_ℚ x) zero_ℚ y (neg_down x p) h

  one_some : (s t : Bool) → IsTrue s ↔ zero_ℚ <ℚ x → IsTrue t ↔ zero_ℚ <ℚ y
      → neg_ℚ x <ℚ y → IsTrue (s || t)
  one_some true t a b h = refl
  one_some false true a b h = refl
  one_some false false a b h = absurd (⊎_elim
      (λ k. ⊎_elim (λ l. lt_not (neg_ℚ x) y h (le_trans y zero_ℚ (neg_ℚ x) l (neg_up x k)))
      (λ l. let e = b.1 l in cc e) (le_or_lt y zero_ℚ))
      (λ k. let e = a.1 k in cc e) (le_or_lt x zero_ℚ))

  some_one : (s t : Bool) → IsTrue s ↔ zero_ℚ <ℚ x → IsTrue t ↔ zero_ℚ <ℚ y
      → IsTrue (s || t) → neg_ℚ x <ℚ y
  some_one true t a b h = first_some (a.0 refl)
  some_one false true a b h = second_some (b.0 refl)
  some_one false false a b h = cc h

  pub apart : (n m s t : Bool) → ¬ (n ≡ m) → IsTrue s ↔ zero_ℚ <ℚ x → IsTrue t ↔ zero_ℚ <ℚ y
      → IsTrue (n && (s || t)) ↔ signed n x <ℚ signed m y
  apart true true s t e a b = absurd (e refl)
  apart true false s t e a b = (some_one s t a b, one_some s t a b)
  apart false true s t e a b = (λ h. cc h, λ h. absurd (never h))
  apart false false s t e a b = absurd (e refl)
