-- The best intervals of sums, differences and negatives.
use Rattle.std.proofs.Common.{refl, sym, subst, ap, ◌∙◌}
use Rattle.fx_model.specs.Fraction.{◌+ℚ◌, ◌-ℚ◌, neg_ℚ, neg-neg}
use Rattle.fx_model.specs.Grid.{Bound, Below, At, Above}
use Rattle.fx_model.specs.Enclosure.{Range, Lies, IsOrdered, Negations, Sums, Differences}
use Rattle.fx_model.specs.Enclosure.{IsNegation, IsSum, IsDifference, LowSum, HighSum, sum_is}
use Rattle.fx_model.specs.Enclosure.{member_of, enclosure_ordered, enclosure_same, mirror}
use Rattle.fx_model.specs.Enclosure.{lies_mirror, lies_mirrored, mirror_ordered}
use Rattle.grid_words.specs.Nearest.{down, up, down_is, up_is}
use Rattle.grid_words.specs.Outward.{outward, outward_exact}

-- The lower end of the sums, and the upper.
abbrev pub low_sum : Bound → Bound → Bound
low_sum (At g) (At h) = down (g +ℚ h)
low_sum (At g) Below = Below
low_sum (At g) Above = Below
low_sum Below c = Below
low_sum Above c = Below

-- The upper end of the sums, rounded up; infinite where an end is.
abbrev pub high_sum : Bound → Bound → Bound
high_sum (At g) (At h) = up (g +ℚ h)
high_sum (At g) Below = Above
high_sum (At g) Above = Above
high_sum Below c = Above
high_sum Above c = Above

-- The best interval of the sums.
pub sum_range : Range → Range → Range
sum_range r s = record { low = low_sum r.low s.low; high = high_sum r.high s.high }

-- The best interval of the differences.
pub difference_range : Range → Range → Range
difference_range r s = sum_range r (mirror s)

-- The best interval of the negatives.
pub negation_range : Range → Range
negation_range r = outward (mirror r)

-- ---- sums
low_sum_is : (b c : Bound) → LowSum b c (low_sum b c)
low_sum_is (At g) (At h) = down_is (g +ℚ h)
low_sum_is (At g) Below = refl
low_sum_is (At g) Above = refl
low_sum_is Below c = refl
low_sum_is Above c = refl

high_sum_is : (b c : Bound) → HighSum b c (high_sum b c)
high_sum_is (At g) (At h) = up_is (g +ℚ h)
high_sum_is (At g) Below = refl
high_sum_is (At g) Above = refl
high_sum_is Below c = refl
high_sum_is Above c = refl

module _ (r s : Range) (i : IsOrdered r.low r.high) (j : IsOrdered s.low s.high) where
  pub sum_range_is : IsSum r s (sum_range r s)
  unfolding sum_range
  sum_range_is = let m = member_of r.low r.high i in let n = member_of s.low s.high j in
      sum_is r s (sum_range r s) m.0 n.0 (m.1, m.2) (n.1, n.2) (low_sum_is r.low s.low)
      (high_sum_is r.high s.high)

  pub sum_range_ordered : IsOrdered (sum_range r s).low (sum_range r s).high
  sum_range_ordered = let m = member_of r.low r.high i in let n = member_of s.low s.high j in
      enclosure_ordered (Sums r s) (sum_range r s) (m.0 +ℚ n.0)
      (m.0, n.0, (m.1, m.2), (n.1, n.2), refl) sum_range_is

-- ---- differences: the sums with the negatives
module _ (r s : Range) (i : IsOrdered r.low r.high) (j : IsOrdered s.low s.high) where
  pub difference_range_is : IsDifference r s (difference_range r s)
  unfolding difference_range
  difference_range_is = enclosure_same (Sums r (mirror s)) (Differences r s) (difference_range r s)
      (λ z d.
      (d.0, neg_ℚ d.1, d.2, lies_mirrored s d.1 d.3, d.4 ∙ ap (λ y. d.0 +ℚ y) (sym (neg-neg d.1))))
      (λ z d. (d.0, neg_ℚ d.1, d.2, lies_mirror s d.1 d.3, d.4))
      (sum_range_is r (mirror s) i (mirror_ordered s j))

  pub difference_range_ordered : IsOrdered (difference_range r s).low (difference_range r s).high
  difference_range_ordered = let m = member_of r.low r.high i in let n = member_of s.low s.high j in
      enclosure_ordered (Differences r s) (difference_range r s) (m.0 -ℚ n.0)
      (m.0, n.0, (m.1, m.2), (n.1, n.2), refl) difference_range_is

-- ---- negatives
module _ (r : Range) (o : IsOrdered r.low r.high) where
  pub negation_range_is : IsNegation r (negation_range r)
  unfolding negation_range
  negation_range_is = outward_exact (Negations r) (mirror r) (mirror_ordered r o)
      (λ z l. (neg_ℚ z, lies_mirrored r z l, sym (neg-neg z)))
      (λ z n. subst (λ y. Lies (mirror r) y) (sym n.2) (lies_mirror r n.0 n.1))

  pub negation_range_ordered : IsOrdered (negation_range r).low (negation_range r).high
  negation_range_ordered = let m = member_of r.low r.high o in
      enclosure_ordered (Negations r) (negation_range r) (neg_ℚ m.0)
      (m.0, (m.1, m.2), refl) negation_range_is
