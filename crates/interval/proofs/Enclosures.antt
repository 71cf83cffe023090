-- Enclosures of negatives, and of sets that are intervals with ends on the grid.
use Rattle.std.specs.Prelude.{◌≡◌}
use Rattle.std.proofs.Common.{refl, sym, subst}
use Rattle.fx_model.specs.Fraction.{Fraction, ◌-ℚ◌, one_ℚ, neg_ℚ, le_trans, lt_not, neg-neg}
use Rattle.fx_model.specs.Fraction.{minus_one}
use Rattle.fx_model.specs.Grid.{Bound, Below, At, Above, IsOnGrid-neg, neg_bound, neg_over}
use Rattle.fx_model.specs.Grid.{neg_under, neg_bound-neg}
use Rattle.fx_model.specs.Enclosure.{Range, IsFrom, Lies, IsInfimum, IsSupremum, IsEnclosure}
use Rattle.fx_model.specs.Enclosure.{IsOrdered, Negations, member_of, mirror, enclosure_same}
use Rattle.fx_model.specs.Enclosure.{lies_mirror, lies_mirrored, mirror_ordered, low_lies, deep}
use Rattle.dyadic.specs.Made.{IsGridBound}
use Rattle.interval.specs.Exact.{IsExact}

range_eq : (r s : Range) → r.low ≡ s.low → r.high ≡ s.high → r ≡ s
range_eq r s p q = λ i. record { low = p i; high = q i }

-- ---- negatives
-- S has the negatives of T
pub supremum_neg : (S T : Fraction → Type 0) (b : Bound) → ((x : Fraction) → T x → S (neg_ℚ x))
    → ((x : Fraction) → S x → T (neg_ℚ x)) → IsInfimum S b → IsSupremum T (neg_bound b)
supremum_neg S T Below f g i =
    λ h o k. i (neg_ℚ h) (IsOnGrid-neg h o) (λ x s. neg_under h x (k (neg_ℚ x) (g x s)))
supremum_neg S T (At a) f g i = (
  IsOnGrid-neg a i.0,
  λ x t. neg_over a x (i.1 (neg_ℚ x) (f x t)),
  λ h o k. neg_under a h (i.2 (neg_ℚ h) (IsOnGrid-neg h o)
      (λ x s. neg_under h x (k (neg_ℚ x) (g x s)))),
)
supremum_neg S T Above f g i = i

-- ---- a set that is an interval with ends on the grid
module _ (r : Range) (o : IsOrdered r.low r.high) where
  interval_low : (b : Bound) → b ≡ r.low → IsGridBound b → IsInfimum (Lies r) b
  interval_low Below p g = λ h q k. let m = member_of r.low r.high o in
      let d = deep r m.0 (h -ℚ one_ℚ) (sym p) (m.1, m.2) in
      lt_not (h -ℚ one_ℚ) h (minus_one h) (le_trans h d.0 (h -ℚ one_ℚ) (k d.0 d.1) d.2)
  interval_low (At a) p g =
      (g, λ x l. subst (λ e. IsFrom e x) (sym p) l.0, λ h q k. k a (low_lies r a o (sym p)))
  interval_low Above p g = subst (λ e. IsOrdered e r.high) (sym p) o

  pub interval_infimum : IsGridBound r.low → IsInfimum (Lies r) r.low
  interval_infimum = interval_low r.low refl

grid-neg : (b : Bound) → IsGridBound b → IsGridBound (neg_bound b)
grid-neg Below g = tt
grid-neg (At a) g = IsOnGrid-neg a g
grid-neg Above g = tt

pub interval_enclosure : (r : Range) → IsOrdered r.low r.high → IsGridBound r.low
    → IsGridBound r.high → IsEnclosure (Lies r) r
interval_enclosure r o g h = record {
  low = interval_infimum r o g;
  high = subst (λ b. IsSupremum (Lies r) b) (neg_bound-neg r.high)
      (supremum_neg (Lies (mirror r)) (Lies r) (neg_bound r.high) (lies_mirror r) (lies_mirrored r)
      (interval_infimum (mirror r) (mirror_ordered r o) (grid-neg r.high h)));
}

-- ---- the negatives of an interval
module _ (r t : Range) (o : IsOrdered r.low r.high) (p : t.low ≡ neg_bound r.high)
    (q : t.high ≡ neg_bound r.low) where
  is_mirror : t ≡ mirror r
  is_mirror = range_eq t (mirror r) p q

  pub negation_ordered : IsOrdered t.low t.high
  negation_ordered = subst (λ s. IsOrdered s.low s.high) (sym is_mirror) (mirror_ordered r o)

  pub negation_exact : IsExact (Negations r) t
  negation_exact z = (
    λ l. (neg_ℚ z, lies_mirrored r z (subst (λ s. Lies s z) is_mirror l), sym (neg-neg z)),
    λ n. subst (λ s. Lies s z) (sym is_mirror)
        (subst (λ y. Lies (mirror r) y) (sym n.2) (lies_mirror r n.0 n.1)),
  )

-- an interval that is just a set
pub exact_enclosure : (S : Fraction → Type 0) (r : Range) → IsExact S r → IsOrdered r.low r.high
    → IsGridBound r.low → IsGridBound r.high → IsEnclosure S r
exact_enclosure S r e o g h =
    enclosure_same (Lies r) S r (λ x l. (e x).0 l) (λ x s. (e x).1 s) (interval_enclosure r o g h)
