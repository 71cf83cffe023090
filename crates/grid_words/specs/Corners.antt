-- The least and the greatest product of numbers that lie between others: they are at corners.
use Rattle.std.specs.Prelude.{◌≡◌, Bool, true, false, cond, refl}
use Rattle.std.proofs.Common.{sym, subst, ⊎_elim}
use Rattle.fx_model.specs.Fraction.{Fraction, ◌*ℚ◌, ◌≤ℚ◌, zero_ℚ, le_ℚ, le_total, le_refl, le_trans}
use Rattle.fx_model.specs.Fraction.{le_or_lt, lt_le, mul-le}
use Rattle.fx_model.specs.Enclosure.{Range, IsEnclosure, infimum_at, supremum_at}
use Rattle.grid_words.specs.Nearest.{down, up, down_is, up_is}
use Rattle.grid_words.specs.Signs.{times_up, times_down, factor_down}

-- The lesser of two numbers, either where they are equal.
abbrev pub lesser : Fraction → Fraction → Fraction
lesser x y = cond (le_ℚ x y) x y

-- The greater of two numbers, either where they are equal.
abbrev pub greater : Fraction → Fraction → Fraction
greater x y = cond (le_ℚ x y) y x

-- The least and the greatest of the four products.
abbrev pub least_corner : Fraction → Fraction → Fraction → Fraction → Fraction
least_corner a b p q = lesser (lesser (a *ℚ p) (a *ℚ q)) (lesser (b *ℚ p) (b *ℚ q))

-- The greatest product of a or b with p or q.
abbrev pub greatest_corner : Fraction → Fraction → Fraction → Fraction → Fraction
greatest_corner a b p q = greater (greater (a *ℚ p) (a *ℚ q)) (greater (b *ℚ p) (b *ℚ q))

-- The best interval of the products of the numbers from a to b and from p to q.
abbrev pub corners : Fraction → Fraction → Fraction → Fraction → Range
corners a b p q = record { low = down (least_corner a b p q); high = up (greatest_corner a b p q) }

-- ---- the lesser and the greater of two
lesser_le : (x y : Fraction) → (lesser x y ≤ℚ x) × (lesser x y ≤ℚ y)
lesser_le x y = by (le_ℚ x y) refl
  where
    by : (t : Bool) → le_ℚ x y ≡ t → (cond t x y ≤ℚ x) × (cond t x y ≤ℚ y)
    by true h = (le_refl x, record { le = h })
    by false h = (le_total x y h, le_refl y)

le_greater : (x y : Fraction) → (x ≤ℚ greater x y) × (y ≤ℚ greater x y)
le_greater x y = by (le_ℚ x y) refl
  where
    by : (t : Bool) → le_ℚ x y ≡ t → (x ≤ℚ cond t y x) × (y ≤ℚ cond t y x)
    by true h = (record { le = h }, le_refl y)
    by false h = (le_refl x, le_total x y h)

one_of : (S : Fraction → Type 0) (t : Bool) (x y : Fraction) → S x → S y → S (cond t x y)
one_of S true x y i j = i
one_of S false x y i j = j

-- a multiple lies between those of the ends
multiple_low : (z p w q : Fraction) → p ≤ℚ w → w ≤ℚ q → lesser (z *ℚ p) (z *ℚ q) ≤ℚ (z *ℚ w)
multiple_low z p w q h k = let l = lesser_le (z *ℚ p) (z *ℚ q) in ⊎_elim
    (λ s. le_trans (lesser (z *ℚ p) (z *ℚ q)) (z *ℚ p) (z *ℚ w) l.0 (mul-le z p w s h))
    (λ s. le_trans (lesser (z *ℚ p) (z *ℚ q)) (z *ℚ q)
    (z *ℚ w) l.1 (factor_down z w q (lt_le z zero_ℚ s) k)) (le_or_lt zero_ℚ z)

multiple_high : (z p w q : Fraction) → p ≤ℚ w → w ≤ℚ q → (z *ℚ w) ≤ℚ greater (z *ℚ p) (z *ℚ q)
multiple_high z p w q h k = let l = le_greater (z *ℚ p) (z *ℚ q) in ⊎_elim
    (λ s. le_trans (z *ℚ w) (z *ℚ q) (greater (z *ℚ p) (z *ℚ q)) (mul-le z w q s k) l.1)
    (λ s. le_trans (z *ℚ w) (z *ℚ p) (greater (z *ℚ p) (z *ℚ q))
    (factor_down z p w (lt_le z zero_ℚ s) h) l.0) (le_or_lt zero_ℚ z)

module _ (a b p q u w : Fraction) (i : a ≤ℚ u) (j : u ≤ℚ b) (h : p ≤ℚ w) (k : w ≤ℚ q) where
  corner_low : least_corner a b p q ≤ℚ (u *ℚ w)
  corner_low = let l = lesser_le (lesser (a *ℚ p) (a *ℚ q)) (lesser (b *ℚ p) (b *ℚ q)) in ⊎_elim
      (λ s. le_trans (least_corner a b p q) (a *ℚ w) (u *ℚ w) (le_trans (least_corner a b p q)
      (lesser (a *ℚ p) (a *ℚ q)) (a *ℚ w) l.0 (multiple_low a p w q h k)) (times_up a u w i s))
      (λ s. le_trans (least_corner a b p q) (b *ℚ w) (u *ℚ w) (le_trans (least_corner a b p q)
      (lesser (b *ℚ p) (b *ℚ q)) (b *ℚ w) l.1 (multiple_low b p w q h k))
      (times_down u b w j (lt_le w zero_ℚ s))) (le_or_lt zero_ℚ w)

  corner_high : (u *ℚ w) ≤ℚ greatest_corner a b p q
  corner_high = let l = le_greater (greater (a *ℚ p) (a *ℚ q)) (greater (b *ℚ p) (b *ℚ q)) in ⊎_elim
      (λ s. le_trans (u *ℚ w) (b *ℚ w) (greatest_corner a b p q)
      (times_up u b w j s) (le_trans (b *ℚ w) (greater (b *ℚ p) (b *ℚ q)) (greatest_corner a b p q)
      (multiple_high b p w q h k) l.1))
      (λ s. le_trans (u *ℚ w) (a *ℚ w) (greatest_corner a b p q)
      (times_down a u w i (lt_le w zero_ℚ s)) (le_trans (a *ℚ w) (greater (a *ℚ p) (a *ℚ q))
      (greatest_corner a b p q) (multiple_high a p w q h k) l.0)) (le_or_lt zero_ℚ w)

-- z is a product of a number from a to b and one from p to q
pub record IsBetween (a b p q z : Fraction) : Type 0 where
  pub u : Fraction
  pub w : Fraction
  pub from_a : a ≤ℚ u
  pub to_b : u ≤ℚ b
  pub from_p : p ≤ℚ w
  pub to_q : w ≤ℚ q
  pub is : z ≡ u *ℚ w

-- a set of such products with the four corners in it
module _ (S : Fraction → Type 0) (a b p q : Fraction)
    (ap_in : S (a *ℚ p)) (aq_in : S (a *ℚ q)) (bp_in : S (b *ℚ p)) (bq_in : S (b *ℚ q))
    (all : (z : Fraction) → S z → IsBetween a b p q z) where
  pub corners_are : IsEnclosure S (corners a b p q)
  corners_are = record {
    low = infimum_at S (least_corner a b p q) (down (least_corner a b p q))
        (one_of S (le_ℚ (lesser (a *ℚ p) (a *ℚ q)) (lesser (b *ℚ p) (b *ℚ q))) (lesser (a *ℚ p)
        (a *ℚ q)) (lesser (b *ℚ p) (b *ℚ q)) (one_of S (le_ℚ (a *ℚ p) (a *ℚ q)) (a *ℚ p)
        (a *ℚ q) ap_in aq_in) (one_of S (le_ℚ (b *ℚ p) (b *ℚ q)) (b *ℚ p) (b *ℚ q) bp_in bq_in))
        (λ z s. let i = all z s in subst (λ y. least_corner a b p q ≤ℚ y) (sym i.is)
        (corner_low a b p q i.u i.w i.from_a i.to_b i.from_p i.to_q))
        (down_is (least_corner a b p q));
    high = supremum_at S (greatest_corner a b p q) (up (greatest_corner a b p q))
        (one_of S (le_ℚ (greater (a *ℚ p) (a *ℚ q)) (greater (b *ℚ p) (b *ℚ q))) (greater (b *ℚ p)
        (b *ℚ q)) (greater (a *ℚ p) (a *ℚ q)) (one_of S (le_ℚ (b *ℚ p) (b *ℚ q)) (b *ℚ q)
        (b *ℚ p) bq_in bp_in) (one_of S (le_ℚ (a *ℚ p) (a *ℚ q)) (a *ℚ q) (a *ℚ p) aq_in ap_in))
        (λ z s. let i = all z s in subst (λ y. y ≤ℚ greatest_corner a b p q) (sym i.is)
        (corner_high a b p q i.u i.w i.from_a i.to_b i.from_p i.to_q))
        (up_is (greatest_corner a b p q));
  }
