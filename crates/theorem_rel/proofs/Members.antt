-- What lies in the intervals that the rules build.
use Rattle.std.specs.Prelude.{refl}
use Rattle.fx_model.specs.Fraction.{Fraction, ◌+ℚ◌, ◌-ℚ◌, ◌*ℚ◌, one_ℚ}
use Rattle.fx_model.specs.Enclosure.{Lies, Sums, Differences, in_enclosure, product_holds}
use Rattle.interval.specs.declared.interval.Interval.{Interval}
use Rattle.interval.specs.Intervals.{range_of}
use Rattle.interval.proofs.Members.{alone_lies}
use Rattle.interval.specs.Results.{sum_of, sum_of-is, difference_of, difference_of-is, product_of}
use Rattle.interval.specs.Results.{product_of-is}
use Rattle.theorem_rel.specs.Values.{unit}
use Rattle.theorem_rel.specs.Operations.{weighted}

-- 1 + t lies in [1, 1] + I
pub unit_plus : (i : Interval) (t : Fraction) → Lies (range_of i) t
    → Lies (range_of (sum_of unit i)) (one_ℚ +ℚ t)
unit_plus i t l = in_enclosure (Sums (range_of unit) (range_of i)) (range_of (sum_of unit i))
    (one_ℚ +ℚ t) (sum_of-is unit i) (one_ℚ, t, alone_lies one_ℚ, l, refl)

-- sl + t(1 - l) lies in I * L + K * ([1, 1] - L)
pub weighted_lies : (i k l : Interval) (s t z : Fraction)
    → Lies (range_of i) s → Lies (range_of k) t → Lies (range_of l) z
    → Lies (range_of (weighted i k l)) ((s *ℚ z) +ℚ (t *ℚ (one_ℚ -ℚ z)))
weighted_lies i k l s t z p q r =
    let d : Interval = difference_of unit l in
    in_enclosure (Sums (range_of (product_of i l)) (range_of (product_of k d)))
    (range_of (weighted i k l)) ((s *ℚ z) +ℚ (t *ℚ (one_ℚ -ℚ z)))
    (sum_of-is (product_of i l) (product_of k d)) (
      s *ℚ z,
      t *ℚ (one_ℚ -ℚ z),
      product_holds (range_of i) (range_of l)
          (range_of (product_of i l)) s z (product_of-is i l) p r,
      product_holds (range_of k)
          (range_of d) (range_of (product_of k d)) t (one_ℚ -ℚ z) (product_of-is k d) q
          (in_enclosure (Differences (range_of unit) (range_of l)) (range_of d) (one_ℚ -ℚ z)
          (difference_of-is unit l) (one_ℚ, z, alone_lies one_ℚ, r, refl)),
      refl,
    )
