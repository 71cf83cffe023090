-- The least quotient, and what changes with the signs of both parts.
use Rattle.std.specs.Prelude.{◌≡◌}
use Rattle.std.proofs.Common.{refl, sym, subst, ap, ◌∙◌}
use Rattle.fx_model.specs.Fraction.{Fraction, ◌*ℚ◌, ◌/ℚ◌, ◌≤ℚ◌, ◌<ℚ◌, zero_ℚ, neg_ℚ, inverse_ℚ}
use Rattle.fx_model.specs.Fraction.{mul-le, neg-mul, neg-neg, le_trans, le_refl, lt_le_trans, lt_by}
use Rattle.fx_model.specs.Fraction.{neg_zero, mul-neg, neg_up}
use Rattle.fx_model.specs.Grid.{Bound, IsDown, neg_bound}
use Rattle.fx_model.specs.Enclosure.{Range, Lies, Quotients, IsInfimum, IsSupremum, IsEnclosure}
use Rattle.fx_model.specs.Enclosure.{IsOrdered, infimum_at, member_of, mirror, lies_mirror}
use Rattle.fx_model.specs.Enclosure.{lies_mirrored, enclosure_same, enclosure_ordered}
use Rattle.grid_words.specs.Signs.{times_up, factor_down, inverse_up, inverse_le, inverse-neg}
use Rattle.grid_words.specs.Products.{closed}
use Rattle.interval.proofs.Enclosures.{supremum_neg}

-- the divisor is above 0
module _ (a b c d : Fraction) (i : a ≤ℚ b) (j : c ≤ℚ d) (p : zero_ℚ <ℚ c) where
  from_corner : (y : Fraction) (e : Bound) → Lies (closed c d) y
      → ((v : Fraction) → Lies (closed c d) v → (a /ℚ y) ≤ℚ (a /ℚ v)) → IsDown (a /ℚ y) e
      → IsInfimum (Quotients (closed a b) (closed c d)) e
  from_corner y e l least k =
      infimum_at (Quotients (closed a b) (closed c d)) (a /ℚ y) e (a, y, (le_refl a, i), l, refl)
      (λ z t. subst (λ z. (a /ℚ y) ≤ℚ z)
      (sym t.4) (le_trans (a /ℚ y) (a /ℚ t.1) (t.0 /ℚ t.1) (least t.1 t.3)
      (times_up a t.0 (inverse_ℚ t.1) t.2.0 (inverse_up t.1 (lt_le_trans zero_ℚ c t.1 p t.3.0))))) k

  pub quotient_up : (e : Bound) → zero_ℚ ≤ℚ a → IsDown (a /ℚ d) e
      → IsInfimum (Quotients (closed a b) (closed c d)) e
  quotient_up e h = from_corner d e (j, le_refl d) (λ v l. mul-le a (inverse_ℚ d)
      (inverse_ℚ v) h (inverse_le v d (lt_le_trans zero_ℚ c v p l.0) l.1))

  pub quotient_down : (e : Bound) → a ≤ℚ zero_ℚ → IsDown (a /ℚ c) e
      → IsInfimum (Quotients (closed a b) (closed c d)) e
  quotient_down e h = from_corner c e (le_refl c, j)
      (λ v l. factor_down a (inverse_ℚ v) (inverse_ℚ c) h (inverse_le c v p l.0))

pub quotients_high : (r s : Range) (b e : Bound) → IsInfimum (Quotients (mirror r) s) b
    → e ≡ neg_bound b → IsSupremum (Quotients r s) e
quotients_high r s b e i p = subst (λ y. IsSupremum (Quotients r s) y) (sym p)
    (supremum_neg (Quotients (mirror r) s) (Quotients r s) b there back i)
  where
    there : (z : Fraction) → Quotients r s z → Quotients (mirror r) s (neg_ℚ z)
    there z t = (
      neg_ℚ t.0,
      t.1,
      lies_mirror r t.0 t.2,
      t.3,
      ap neg_ℚ t.4 ∙ sym (neg-mul t.0 (inverse_ℚ t.1)),
    )

    back : (z : Fraction) → Quotients (mirror r) s z → Quotients r s (neg_ℚ z)
    back z t = (
      neg_ℚ t.0,
      t.1,
      lies_mirrored r t.0 t.2,
      t.3,
      ap neg_ℚ t.4 ∙ sym (neg-mul t.0 (inverse_ℚ t.1)),
    )

-- ---- both parts with the other sign
neg-div : (x y : Fraction) → ¬ (y ≡ zero_ℚ) → neg_ℚ x /ℚ neg_ℚ y ≡ x /ℚ y
neg-div x y h = ap (λ z. neg_ℚ x *ℚ z) (inverse-neg y h) ∙ neg-mul x (neg_ℚ (inverse_ℚ y))
    ∙ ap neg_ℚ (mul-neg x (inverse_ℚ y)) ∙ neg-neg (x *ℚ inverse_ℚ y)

lies_not_zero : (s : Range) (y : Fraction) → ¬ (Lies s zero_ℚ) → Lies s y → ¬ (y ≡ zero_ℚ)
lies_not_zero s y n l e = n (subst (λ z. Lies s z) e l)

pub quotients_turned : (r s t : Range) → ¬ (Lies s zero_ℚ)
    → IsEnclosure (Quotients (mirror r) (mirror s)) t → IsEnclosure (Quotients r s) t
quotients_turned r s t n = enclosure_same (Quotients (mirror r) (mirror s)) (Quotients r s) t
    (λ z q. (
      neg_ℚ q.0,
      neg_ℚ q.1,
      lies_mirrored r q.0 q.2,
      lies_mirrored s q.1 q.3,
      q.4 ∙ sym (neg-div q.0 q.1
          (λ e. n (subst (λ y. Lies s y) (ap neg_ℚ e ∙ neg_zero) (lies_mirrored s q.1 q.3)))),
    ))
    (λ z q. (
      neg_ℚ q.0,
      neg_ℚ q.1,
      lies_mirror r q.0 q.2,
      lies_mirror s q.1 q.3,
      q.4 ∙ sym (neg-div q.0 q.1 (lies_not_zero s q.1 n q.3)),
    ))

-- ---- where the divisor lies
pub above_zero : (c : Fraction) → ¬ (c ≤ℚ zero_ℚ) → zero_ℚ <ℚ c
above_zero c n = lt_by zero_ℚ c n

pub turned_above : (c d : Fraction) → c ≤ℚ zero_ℚ → ¬ (Lies (closed c d) zero_ℚ) → zero_ℚ <ℚ neg_ℚ d
turned_above c d h n =
    lt_by zero_ℚ (neg_ℚ d) (λ l. n (h, subst (λ y. zero_ℚ ≤ℚ y) (neg-neg d) (neg_up (neg_ℚ d) l)))

pub quotients_ordered : (r s : Range) (b c : Bound)
    → IsOrdered r.low r.high → IsOrdered s.low s.high → IsInfimum (Quotients r s) b
    → IsSupremum (Quotients r s) c → IsOrdered b c
quotients_ordered r s b c i j k l = let m = member_of r.low r.high i in
    let n = member_of s.low s.high j in
    enclosure_ordered (Quotients r s) (record { low = b; high = c }) (m.0 /ℚ n.0)
    (m.0, n.0, (m.1, m.2), (n.1, n.2), refl) (record { low = k; high = l })
