-- The corners at which a product is least.
use Rattle.std.specs.Prelude.{◌≡◌, ◌⊎◌}
use Rattle.std.proofs.Common.{refl, sym, subst, ap, ◌∙◌, ⊎_elim, inl, inr}
use Rattle.fx_model.specs.Fraction.{Fraction, ◌*ℚ◌, ◌≤ℚ◌, ◌<ℚ◌, zero_ℚ, neg_ℚ, le_trans, le_refl}
use Rattle.fx_model.specs.Fraction.{le_or_lt, lt_le, mul-le, neg-mul}
use Rattle.fx_model.specs.Grid.{Bound, IsDown, neg_bound}
use Rattle.fx_model.specs.Enclosure.{Range, Lies, Products, IsInfimum, IsSupremum, IsOrdered}
use Rattle.fx_model.specs.Enclosure.{BoundLe, infimum_at, member_of, mirror, lies_mirror}
use Rattle.fx_model.specs.Enclosure.{lies_mirrored, enclosure_ordered}
use Rattle.grid_words.specs.Signs.{times_up, times_down, factor_down}
use Rattle.grid_words.specs.Products.{closed}
use Rattle.dyadic.proofs.Extremes.{BoundLe-antisymm}
use Rattle.interval.proofs.Inequalities.{down-le}
use Rattle.interval.proofs.Enclosures.{supremum_neg}

least_is : (e f g : Bound) → BoundLe f g → BoundLe e f → (e ≡ f) ⊎ (e ≡ g) → e ≡ f
least_is e f g h s (inl p) = p
least_is e f g h s (inr p) = BoundLe-antisymm e f s (subst (λ y. BoundLe f y) (sym p) h)

swap : {A B : Type 0} → A ⊎ B → B ⊎ A
swap (inl p) = inr p
swap (inr p) = inl p

module _ (a b c d : Fraction) (i : a ≤ℚ b) (j : c ≤ℚ d) where
  from_corner : (x y : Fraction) (e : Bound) → Lies (closed a b) x → Lies (closed c d) y
      → ((u v : Fraction) → Lies (closed a b) u → Lies (closed c d) v → (x *ℚ y) ≤ℚ (u *ℚ v))
      → IsDown (x *ℚ y) e → IsInfimum (Products (closed a b) (closed c d)) e
  from_corner x y e l m least k =
      infimum_at (Products (closed a b) (closed c d)) (x *ℚ y) e (x, y, l, m, refl)
      (λ z t. subst (λ z. (x *ℚ y) ≤ℚ z) (sym t.4) (least t.0 t.1 t.2 t.3)) k

  at_a : Lies (closed a b) a
  at_a = (le_refl a, i)

  at_b : Lies (closed a b) b
  at_b = (i, le_refl b)

  at_c : Lies (closed c d) c
  at_c = (le_refl c, j)

  at_d : Lies (closed c d) d
  at_d = (j, le_refl d)

  pub corner_ac : (e : Bound) → zero_ℚ ≤ℚ c → zero_ℚ ≤ℚ a → IsDown (a *ℚ c) e
      → IsInfimum (Products (closed a b) (closed c d)) e
  corner_ac e p q = from_corner a c e at_a at_c (λ u v l m. le_trans (a *ℚ c) (a *ℚ v) (u *ℚ v)
      (mul-le a c v q m.0) (times_up a u v l.0 (le_trans zero_ℚ c v p m.0)))

  pub corner_ad : (e : Bound) → zero_ℚ ≤ℚ c → a ≤ℚ zero_ℚ → IsDown (a *ℚ d) e
      → IsInfimum (Products (closed a b) (closed c d)) e
  corner_ad e p q = from_corner a d e at_a at_d (λ u v l m. le_trans (a *ℚ d) (a *ℚ v) (u *ℚ v)
      (factor_down a v d q m.1) (times_up a u v l.0 (le_trans zero_ℚ c v p m.0)))

  pub corner_bc : (e : Bound) → d ≤ℚ zero_ℚ → zero_ℚ ≤ℚ b → IsDown (b *ℚ c) e
      → IsInfimum (Products (closed a b) (closed c d)) e
  corner_bc e p q = from_corner b c e at_b at_c (λ u v l m. le_trans (b *ℚ c) (b *ℚ v) (u *ℚ v)
      (mul-le b c v q m.0) (times_down u b v l.1 (le_trans v d zero_ℚ m.1 p)))

  pub corner_bd : (e : Bound) → d ≤ℚ zero_ℚ → b ≤ℚ zero_ℚ → IsDown (b *ℚ d) e
      → IsInfimum (Products (closed a b) (closed c d)) e
  corner_bd e p q = from_corner b d e at_b at_d (λ u v l m. le_trans (b *ℚ d) (b *ℚ v) (u *ℚ v)
      (factor_down b v d q m.1) (times_down u b v l.1 (le_trans v d zero_ℚ m.1 p)))

  -- the factor y has both signs: x * y for an x of one sign
  up_part : (u v : Fraction) → c ≤ℚ zero_ℚ → Lies (closed a b) u → Lies (closed c d) v
      → zero_ℚ ≤ℚ u → (b *ℚ c) ≤ℚ (u *ℚ v)
  up_part u v p l m h =
      le_trans (b *ℚ c) (u *ℚ c) (u *ℚ v) (times_down u b c l.1 p) (mul-le u c v h m.0)

  down_part : (u v : Fraction) → zero_ℚ ≤ℚ d → Lies (closed a b) u → Lies (closed c d) v
      → u ≤ℚ zero_ℚ → (a *ℚ d) ≤ℚ (u *ℚ v)
  down_part u v p l m h =
      le_trans (a *ℚ d) (u *ℚ d) (u *ℚ v) (times_up a u d l.0 p) (factor_down u v d h m.1)

  pub corner_up : (e : Bound) → c ≤ℚ zero_ℚ → zero_ℚ ≤ℚ a → IsDown (b *ℚ c) e
      → IsInfimum (Products (closed a b) (closed c d)) e
  corner_up e p q =
      from_corner b c e at_b at_c (λ u v l m. up_part u v p l m (le_trans zero_ℚ a u q l.0))

  pub corner_down : (e : Bound) → zero_ℚ ≤ℚ d → b ≤ℚ zero_ℚ → IsDown (a *ℚ d) e
      → IsInfimum (Products (closed a b) (closed c d)) e
  corner_down e p q =
      from_corner a d e at_a at_d (λ u v l m. down_part u v p l m (le_trans u b zero_ℚ l.1 q))

  both : (u v : Fraction) → c ≤ℚ zero_ℚ → zero_ℚ ≤ℚ d → Lies (closed a b) u → Lies (closed c d) v
      → ((b *ℚ c) ≤ℚ (u *ℚ v)) ⊎ ((a *ℚ d) ≤ℚ (u *ℚ v))
  both u v p q l m = ⊎_elim (λ h. inl (up_part u v p l m h))
      (λ h. inr (down_part u v q l m (lt_le u zero_ℚ h))) (le_or_lt zero_ℚ u)

  -- the lesser of the two, where x has both signs too
  pub corner_least : (e f g : Bound) → c ≤ℚ zero_ℚ → zero_ℚ ≤ℚ d
      → IsDown (a *ℚ d) f → IsDown (b *ℚ c) g → BoundLe e f → BoundLe e g → (e ≡ f) ⊎ (e ≡ g)
      → IsInfimum (Products (closed a b) (closed c d)) e
  corner_least e f g p q h k s t w = ⊎_elim first second (le_or_lt (a *ℚ d) (b *ℚ c))
    where
      first : (a *ℚ d) ≤ℚ (b *ℚ c) → IsInfimum (Products (closed a b) (closed c d)) e
      first o = from_corner a d e at_a at_d (λ u v l m.
          ⊎_elim (λ z. le_trans (a *ℚ d) (b *ℚ c) (u *ℚ v) o z) (λ z. z) (both u v p q l m))
          (subst (λ y. IsDown (a *ℚ d) y)
          (sym (least_is e f g (down-le (a *ℚ d) (b *ℚ c) f g o h k) s w)) h)

      second : (b *ℚ c) <ℚ (a *ℚ d) → IsInfimum (Products (closed a b) (closed c d)) e
      second o = from_corner b c e at_b at_c (λ u v l m. ⊎_elim (λ z. z) (λ z.
          le_trans (b *ℚ c) (a *ℚ d) (u *ℚ v) (lt_le (b *ℚ c) (a *ℚ d) o) z) (both u v p q l m))
          (subst (λ y. IsDown (b *ℚ c) y) (sym (least_is e g f
          (down-le (b *ℚ c) (a *ℚ d) g f (lt_le (b *ℚ c) (a *ℚ d) o) k h) t (swap w))) k)

-- the products with the negatives are the negatives of the products
pub products_high : (r s : Range) (b e : Bound) → IsInfimum (Products (mirror r) s) b
    → e ≡ neg_bound b → IsSupremum (Products r s) e
products_high r s b e i p = subst (λ y. IsSupremum (Products r s) y) (sym p)
    (supremum_neg (Products (mirror r) s) (Products r s) b there back i)
  where
    there : (z : Fraction) → Products r s z → Products (mirror r) s (neg_ℚ z)
    there z t = (neg_ℚ t.0, t.1, lies_mirror r t.0 t.2, t.3, ap neg_ℚ t.4 ∙ sym (neg-mul t.0 t.1))

    back : (z : Fraction) → Products (mirror r) s z → Products r s (neg_ℚ z)
    back z t = (neg_ℚ t.0, t.1, lies_mirrored r t.0 t.2, t.3, ap neg_ℚ t.4 ∙ sym (neg-mul t.0 t.1))

pub product_ordered : (r s : Range) (b c : Bound) → IsOrdered r.low r.high → IsOrdered s.low s.high
    → IsInfimum (Products r s) b → IsSupremum (Products r s) c → IsOrdered b c
product_ordered r s b c i j k l = let m = member_of r.low r.high i in
    let n = member_of s.low s.high j in
    enclosure_ordered (Products r s) (record { low = b; high = c }) (m.0 *ℚ n.0)
    (m.0, n.0, (m.1, m.2), (n.1, n.2), refl) (record { low = k; high = l })
