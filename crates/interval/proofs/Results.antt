-- Laws of what specs/Results defines.
use Rattle.std.specs.Prelude.{◌≡◌, Some, refl}
use Rattle.std.proofs.Common.{sym, ap, ◌∙◌, subst, ⊎_elim}
use Rattle.fx_model.specs.Fraction.{Fraction, ◌≤ℚ◌, le_refl}
use Rattle.fx_model.specs.Grid.{At}
use Rattle.fx_model.specs.Enclosure.{Range, IsEnclosure, Sums, Differences, Negations, Sizes}
use Rattle.fx_model.specs.Enclosure.{Quotients, IsNegation, IsSize, IsSum, IsDifference, IsProduct}
use Rattle.fx_model.specs.Enclosure.{IsQuotient}
use Rattle.fx_model.proofs.Enclosure.{enclosure_unique, product_unique}
use Rattle.fx_model.specs.Enclosure.Unique.{both_or}
use Rattle.dyadic.specs.Values.{value_of}
use Rattle.dyadic.proofs.Values.{on_grid}
use Rattle.dyadic.specs.declared.number.Dyadic.{Dyadic}
use Rattle.interval.specs.declared.interval.Interval.{Interval}
use Rattle.interval.specs.Intervals.{range_of}
use Rattle.interval.proofs.Intervals.{same_range}
use Rattle.interval.specs.Literals.{Alone}
use Rattle.interval.specs.Results.{from_bounds, negation_of, negation_of-is, sum_of, sum_of-is}
use Rattle.interval.specs.Results.{difference_of, difference_of-is, size_of, size_of-is, product_of}
use Rattle.interval.specs.Results.{product_of-is, quotient_of, quotient_of-some, quotient_of-is}
use Rattle.interval.specs.Results.{point_of, point_of-is}

-- ---- negatives, sums, differences, absolute values
pub negation_only : (i k : Interval) → IsNegation (range_of i) (range_of k) → k ≡ negation_of i
negation_only i k p = same_range k (negation_of i) (enclosure_unique (Negations (range_of i))
    (range_of k) (range_of (negation_of i)) p (negation_of-is i))

pub sum_only : (i j k : Interval) → IsSum (range_of i) (range_of j) (range_of k) → k ≡ sum_of i j
sum_only i j k p = same_range k (sum_of i j) (enclosure_unique (Sums (range_of i) (range_of j))
    (range_of k) (range_of (sum_of i j)) p (sum_of-is i j))

pub difference_only : (i j k : Interval)
    → IsDifference (range_of i) (range_of j) (range_of k) → k ≡ difference_of i j
difference_only i j k p =
    same_range k (difference_of i j) (enclosure_unique (Differences (range_of i) (range_of j))
    (range_of k) (range_of (difference_of i j)) p (difference_of-is i j))

pub size_only : (i k : Interval) → IsSize (range_of i) (range_of k) → k ≡ size_of i
size_only i k p = same_range k (size_of i)
    (enclosure_unique (Sizes (range_of i)) (range_of k) (range_of (size_of i)) p (size_of-is i))

-- ---- products, and quotients where 0 isn't in the divisor
pub product_only : (i j k : Interval)
    → IsProduct (range_of i) (range_of j) (range_of k) → k ≡ product_of i j
product_only i j k p = same_range k (product_of i j) (product_unique (range_of i) (range_of j)
    (range_of k) (range_of (product_of i j)) p (product_of-is i j))

pub quotient_unique : (r s t u : Range) → IsQuotient r s t → IsQuotient r s u → t ≡ u
quotient_unique r s t u i j = ⊎_elim (λ f. enclosure_unique (Quotients r s) t u (i.finite f.0 f.1)
    (j.finite f.0 f.1)) (λ n. i.infinite n ∙ sym (j.infinite n)) (both_or r s)

pub quotient_only : (i j k : Interval) → IsQuotient (range_of i) (range_of j) (range_of k)
    → quotient_of i j ≡ Some k
quotient_only i j k p = let q = quotient_of-some i j p.nonzero in
    q.1 ∙ ap Some (same_range q.0 k (quotient_unique (range_of i) (range_of j) (range_of q.0)
    (range_of k) (quotient_of-is i j q.0 q.1) p))

-- ---- one fraction
pub point_only : (x : Fraction) (k : Interval) → IsEnclosure (Alone x) (range_of k) → k ≡ point_of x
point_only x k p = same_range k (point_of x)
    (enclosure_unique (Alone x) (range_of k) (range_of (point_of x)) p (point_of-is x))

-- ---- single intervals
-- a number of the grid alone
pub alone_is : (d : Dyadic)
    → IsEnclosure (Alone (value_of d)) (from_bounds (At (value_of d)) (At (value_of d)))
alone_is d = record {
  low = (
    on_grid d,
    λ x e. subst (λ y. value_of d ≤ℚ y) (sym e) (le_refl (value_of d)),
    λ h o f. f (value_of d) refl,
  );
  high = (
    on_grid d,
    λ x e. subst (λ y. y ≤ℚ value_of d) (sym e) (le_refl (value_of d)),
    λ h o f. f (value_of d) refl,
  );
}
