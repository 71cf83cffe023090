-- The sum and the difference of two intervals, by their ends.
use Rattle.std.specs.Prelude.{◌≡◌}
use Rattle.std.proofs.Common.{refl, sym, subst, ap, ◌∙◌}
use Rattle.fx_model.specs.Fraction.{◌+ℚ◌, neg_ℚ, neg-neg}
use Rattle.fx_model.specs.Grid.{Bound, neg_bound}
use Rattle.fx_model.specs.Enclosure.{Range, IsOrdered, Sums, IsSum, Differences, IsDifference}
use Rattle.fx_model.specs.Enclosure.{LowSum, HighSum, sum_is, member_of, mirror, enclosure_ordered}
use Rattle.fx_model.specs.Enclosure.{enclosure_same, mirror_ordered, lies_mirror, lies_mirrored}

module _ (r s t : Range) (i : IsOrdered r.low r.high) (j : IsOrdered s.low s.high) where
  pub ends_sum : LowSum r.low s.low t.low → HighSum r.high s.high t.high → IsSum r s t
  ends_sum l h = let m = member_of r.low r.high i in let n = member_of s.low s.high j in
      sum_is r s t m.0 n.0 (m.1, m.2) (n.1, n.2) l h

  pub sum_ordered : IsSum r s t → IsOrdered t.low t.high
  sum_ordered e = let m = member_of r.low r.high i in let n = member_of s.low s.high j in
      enclosure_ordered (Sums r s) t (m.0 +ℚ n.0) (m.0, n.0, (m.1, m.2), (n.1, n.2), refl) e

  pub difference_ordered : IsDifference r s t → IsOrdered t.low t.high
  difference_ordered e = let m = member_of r.low r.high i in
      let n = member_of s.low s.high j in enclosure_ordered (Differences r s) t (m.0 +ℚ neg_ℚ n.0)
      (m.0, n.0, (m.1, m.2), (n.1, n.2), refl) e

-- a difference is a sum with a negative
pub ends_difference : (r s t : Range) (b c : Bound) → IsOrdered r.low r.high
    → IsOrdered s.low s.high → b ≡ neg_bound s.high → c ≡ neg_bound s.low → LowSum r.low b t.low
    → HighSum r.high c t.high → IsDifference r s t
ends_difference r s t b c i j p q l h = enclosure_same (Sums r (mirror s)) (Differences r s) t
    (λ z d.
    (d.0, neg_ℚ d.1, d.2, lies_mirrored s d.1 d.3, d.4 ∙ ap (λ y. d.0 +ℚ y) (sym (neg-neg d.1))))
    (λ z d. (d.0, neg_ℚ d.1, d.2, lies_mirror s d.1 d.3, d.4))
    (ends_sum r (mirror s) t i (mirror_ordered s j) (subst (λ y. LowSum r.low y t.low) p l)
    (subst (λ y. HighSum r.high y t.high) q h))
