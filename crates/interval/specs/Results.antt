-- The results of operations as intervals: functions, each with the law that it is the best
-- interval.
use Rattle.std.specs.Prelude.{◌≡◌, Bool, true, false, not, ◌&&◌, Option, Some, None, refl}
use Rattle.std.proofs.Common.{sym, ap, ◌∙◌, subst, ⊎_elim}
use Rattle.fx_model.specs.Fraction.{Fraction, zero_ℚ, ◌≤ℚ◌, le_refl, le_antisymm}
use Rattle.fx_model.specs.Grid.{Bound, Below, At, Above, le_bound}
use Rattle.fx_model.specs.Enclosure.{Range, IsOrdered, IsFrom, IsUpTo, Lies, BoundLe, IsEnclosure}
use Rattle.fx_model.specs.Enclosure.{IsInfimum, IsSupremum, Sums, Differences, Negations, Sizes}
use Rattle.fx_model.specs.Enclosure.{Products, Quotients, whole_line, IsNegation, IsSize, IsSum}
use Rattle.fx_model.specs.Enclosure.{IsDifference, IsProduct, IsQuotient, enclosure_ordered}
use Rattle.fx_model.specs.Enclosure.Unique.{both_or}
use Rattle.grid_words.specs.Sums.{sum_range, sum_range_is, sum_range_ordered, difference_range}
use Rattle.grid_words.specs.Sums.{difference_range_is, difference_range_ordered, negation_range}
use Rattle.grid_words.specs.Sums.{negation_range_is, negation_range_ordered}
use Rattle.grid_words.specs.Sizes.{size_range, size_range_is, size_range_ordered}
use Rattle.grid_words.specs.Outward.{outward, outward_exact}
use Rattle.grid_words.specs.Products.{product_range, product_range_is, product_range_ordered}
use Rattle.grid_words.specs.Products.{quotient_range, quotient_range_is, quotient_range_ordered}
use Rattle.dyadic.specs.Ends.{bound_of}
use Rattle.dyadic.specs.Compared.{BoundLe_in, BoundLe_out}
use Rattle.dyadic.specs.Values.{zero_number}
use Rattle.dyadic.specs.declared.number.End.TheVariants as end
use Rattle.dyadic.specs.Made.{IsGridBound, end_of, end_of-bound}
use Rattle.interval.specs.declared.interval.Interval.{Interval}
use Rattle.interval.specs.Intervals.{range_of}
use Rattle.interval.specs.Literals.{Alone}
use Rattle.interval.specs.Decided.{made, made-some, made-none, made_out}

-- the ends of a range are in order, and of the grid where they are finite
pub record IsGridRange (r : Range) : Type 0 where
  pub ordered : IsOrdered r.low r.high
  pub low : IsGridBound r.low
  pub high : IsGridBound r.high

-- the interval with this range
pub interval_of : (r : Range) → IsGridRange r → Interval
interval_of r g = record {
  lo = end_of r.low g.low;
  hi = end_of r.high g.high;
  ordered =
      subst (λ b. IsOrdered b (bound_of (end_of r.high g.high))) (sym (end_of-bound r.low g.low))
      (subst (λ b. IsOrdered r.low b) (sym (end_of-bound r.high g.high)) g.ordered);
}

abbrev pub from_bounds : Bound → Bound → Range
from_bounds b c = record { low = b; high = c }

pub interval_of-range : (r : Range) (g : IsGridRange r) → range_of (interval_of r g) ≡ r
unfolding interval_of
interval_of-range r g =
    ap (λ b. from_bounds b (bound_of (end_of r.high g.high))) (end_of-bound r.low g.low)
    ∙ ap (from_bounds r.low) (end_of-bound r.high g.high)

-- ---- enclosures have ends of the grid
infimum_grid : (S : Fraction → Type 0) (b : Bound) → IsInfimum S b → IsGridBound b
infimum_grid S Below i = tt
infimum_grid S (At g) i = i.0
infimum_grid S Above i = absurd i

supremum_grid : (S : Fraction → Type 0) (b : Bound) → IsSupremum S b → IsGridBound b
supremum_grid S Below i = absurd i
supremum_grid S (At g) i = i.0
supremum_grid S Above i = tt

enclosed : (S : Fraction → Type 0) (r : Range) → IsOrdered r.low r.high
    → IsEnclosure S r → IsGridRange r
enclosed S r o e =
    record { ordered = o; low = infimum_grid S r.low e.low; high = supremum_grid S r.high e.high }

whole_grid : (r : Range) → r ≡ whole_line → IsGridRange r
whole_grid r e = subst IsGridRange (sym e) (record { ordered = tt; low = tt; high = tt })

-- ---- negatives, sums, differences, absolute values
negation_grid : (i : Interval) → IsGridRange (negation_range (range_of i))
negation_grid i = enclosed (Negations (range_of i)) (negation_range (range_of i))
    (negation_range_ordered (range_of i) i.ordered) (negation_range_is (range_of i) i.ordered)

pub negation_of : Interval → Interval
negation_of i = interval_of (negation_range (range_of i)) (negation_grid i)

pub negation_of-is : (i : Interval) → IsNegation (range_of i) (range_of (negation_of i))
unfolding negation_of
negation_of-is i = subst (IsNegation (range_of i))
    (sym (interval_of-range (negation_range (range_of i)) (negation_grid i)))
    (negation_range_is (range_of i) i.ordered)

sum_grid : (i j : Interval) → IsGridRange (sum_range (range_of i) (range_of j))
sum_grid i j = enclosed (Sums (range_of i) (range_of j)) (sum_range (range_of i) (range_of j))
    (sum_range_ordered (range_of i) (range_of j) i.ordered j.ordered)
    (sum_range_is (range_of i) (range_of j) i.ordered j.ordered)

pub sum_of : Interval → Interval → Interval
sum_of i j = interval_of (sum_range (range_of i) (range_of j)) (sum_grid i j)

pub sum_of-is : (i j : Interval) → IsSum (range_of i) (range_of j) (range_of (sum_of i j))
unfolding sum_of
sum_of-is i j = subst (IsSum (range_of i) (range_of j))
    (sym (interval_of-range (sum_range (range_of i) (range_of j)) (sum_grid i j)))
    (sum_range_is (range_of i) (range_of j) i.ordered j.ordered)

difference_grid : (i j : Interval) → IsGridRange (difference_range (range_of i) (range_of j))
difference_grid i j =
    enclosed (Differences (range_of i) (range_of j)) (difference_range (range_of i) (range_of j))
    (difference_range_ordered (range_of i) (range_of j) i.ordered j.ordered)
    (difference_range_is (range_of i) (range_of j) i.ordered j.ordered)

pub difference_of : Interval → Interval → Interval
difference_of i j = interval_of (difference_range (range_of i) (range_of j)) (difference_grid i j)

pub difference_of-is : (i j : Interval)
    → IsDifference (range_of i) (range_of j) (range_of (difference_of i j))
unfolding difference_of
difference_of-is i j = subst (IsDifference (range_of i) (range_of j))
    (sym (interval_of-range (difference_range (range_of i) (range_of j)) (difference_grid i j)))
    (difference_range_is (range_of i) (range_of j) i.ordered j.ordered)

size_grid : (i : Interval) → IsGridRange (size_range (range_of i))
size_grid i = enclosed (Sizes (range_of i)) (size_range (range_of i))
    (size_range_ordered (range_of i) i.ordered) (size_range_is (range_of i) i.ordered)

pub size_of : Interval → Interval
size_of i = interval_of (size_range (range_of i)) (size_grid i)

pub size_of-is : (i : Interval) → IsSize (range_of i) (range_of (size_of i))
unfolding size_of
size_of-is i =
    subst (IsSize (range_of i)) (sym (interval_of-range (size_range (range_of i)) (size_grid i)))
    (size_range_is (range_of i) i.ordered)

-- ---- products, and quotients where 0 isn't in the divisor
product_grid : (i j : Interval) → IsGridRange (product_range (range_of i) (range_of j))
product_grid i j =
    let p = product_range_is (range_of i) (range_of j) i.ordered j.ordered in
    ⊎_elim (λ f. enclosed (Products (range_of i) (range_of j))
    (product_range (range_of i) (range_of j))
    (product_range_ordered (range_of i) (range_of j) i.ordered j.ordered) (p.finite f.0 f.1))
    (λ n. whole_grid (product_range (range_of i) (range_of j)) (p.infinite n))
    (both_or (range_of i) (range_of j))

pub product_of : Interval → Interval → Interval
product_of i j = interval_of (product_range (range_of i) (range_of j)) (product_grid i j)

pub product_of-is : (i j : Interval)
    → IsProduct (range_of i) (range_of j) (range_of (product_of i j))
unfolding product_of
product_of-is i j = subst (IsProduct (range_of i) (range_of j))
    (sym (interval_of-range (product_range (range_of i) (range_of j)) (product_grid i j)))
    (product_range_is (range_of i) (range_of j) i.ordered j.ordered)

-- whether 0 lies in the interval
abbrev pub has_zero : Range → Bool
has_zero r = le_bound r.low (At zero_ℚ) && le_bound (At zero_ℚ) r.high

zero_out : (r : Range) → has_zero r ≡ true → Lies r zero_ℚ
zero_out r e = let a = and_both (le_bound r.low (At zero_ℚ)) (le_bound (At zero_ℚ) r.high) e in (
  from_zero_in r.low (BoundLe_in r.low (At zero_ℚ) a.0),
  up_to_zero_in r.high (BoundLe_in (At zero_ℚ) r.high a.1),
)
  where
    and_both : (a b : Bool) → (a && b) ≡ true → (a ≡ true) × (b ≡ true)
    and_both true b e = (refl, e)
    and_both false b e = cc

    from_zero_in : (b : Bound) → BoundLe b (At zero_ℚ) → IsFrom b zero_ℚ
    from_zero_in Below l = tt
    from_zero_in (At g) l = l
    from_zero_in Above l = l

    up_to_zero_in : (b : Bound) → BoundLe (At zero_ℚ) b → IsUpTo b zero_ℚ
    up_to_zero_in Below l = l
    up_to_zero_in (At g) l = l
    up_to_zero_in Above l = tt

zero_in : (r : Range) → Lies r zero_ℚ → has_zero r ≡ true
zero_in r l = rw (BoundLe_out r.low (At zero_ℚ) (from_zero_out r.low l.0))
    (BoundLe_out (At zero_ℚ) r.high (up_to_zero_out r.high l.1))
  where
    from_zero_out : (b : Bound) → IsFrom b zero_ℚ → BoundLe b (At zero_ℚ)
    from_zero_out Below l = tt
    from_zero_out (At g) l = l
    from_zero_out Above l = l

    up_to_zero_out : (b : Bound) → IsUpTo b zero_ℚ → BoundLe (At zero_ℚ) b
    up_to_zero_out Below l = l
    up_to_zero_out (At g) l = l
    up_to_zero_out Above l = tt

-- 0 doesn't lie in the second of two intervals
abbrev IsNonzero : Interval × Interval → Type 0
IsNonzero p = ¬ Lies (range_of p.1) zero_ℚ

nonzero_prop : (p : Interval × Interval) → IsProp (IsNonzero p)
nonzero_prop p = hlevel

abbrev nonzero_test : Interval × Interval → Bool
nonzero_test p = not (has_zero (range_of p.1))

nonzero_in : (p : Interval × Interval) → nonzero_test p ≡ true → IsNonzero p
nonzero_in p e = λ l. let h : has_zero (range_of p.1) ≡ true = zero_in (range_of p.1) l in
    not_both (has_zero (range_of p.1)) h e
  where
    not_both : (b : Bool) → b ≡ true → not b ≡ true → ⊥
    not_both true h e = cc
    not_both false h e = cc

nonzero_out : (p : Interval × Interval) → IsNonzero p → nonzero_test p ≡ true
nonzero_out p n = by_case (has_zero (range_of p.1)) (λ h. n (zero_out (range_of p.1) h))
  where
    by_case : (b : Bool) → (b ≡ true → ⊥) → not b ≡ true
    by_case true h = absurd (h refl)
    by_case false h = refl

quotient_grid : (p : Interval × Interval) → IsNonzero p
    → IsGridRange (quotient_range (range_of p.0) (range_of p.1))
quotient_grid p n =
    let r = range_of p.0 in let s = range_of p.1 in
    let q = quotient_range_is r s p.0.ordered p.1.ordered n in
    ⊎_elim (λ f. enclosed (Quotients r s) (quotient_range r s)
    (quotient_range_ordered r s p.0.ordered p.1.ordered n) (q.finite f.0 f.1))
    (λ n. whole_grid (quotient_range r s) (q.infinite n)) (both_or r s)

quotient_with : (p : Interval × Interval) → IsNonzero p → Interval
quotient_with p n = interval_of (quotient_range (range_of p.0) (range_of p.1)) (quotient_grid p n)

quotient_with-is : (p : Interval × Interval) (n : IsNonzero p)
    → IsQuotient (range_of p.0) (range_of p.1) (range_of (quotient_with p n))
unfolding quotient_with
quotient_with-is p n = subst (IsQuotient (range_of p.0) (range_of p.1))
    (sym (interval_of-range (quotient_range (range_of p.0) (range_of p.1)) (quotient_grid p n)))
    (quotient_range_is (range_of p.0) (range_of p.1) p.0.ordered p.1.ordered n)

-- the quotient; none where 0 lies in the divisor
pub quotient_of : Interval → Interval → Option Interval
quotient_of i j =
    made IsNonzero nonzero_prop nonzero_test nonzero_in nonzero_out quotient_with (i, j)

pub quotient_of-none : (i j : Interval) → Lies (range_of j) zero_ℚ → quotient_of i j ≡ None
unfolding quotient_of
quotient_of-none i j l = made-none IsNonzero nonzero_prop nonzero_test nonzero_in nonzero_out
    quotient_with (i, j) (λ n. n l)

pub quotient_of-some : (i j : Interval) → ¬ Lies (range_of j) zero_ℚ
    → (k : Interval) × (quotient_of i j ≡ Some k)
unfolding quotient_of
quotient_of-some i j n = (
  quotient_with (i, j) n,
  made-some IsNonzero nonzero_prop nonzero_test nonzero_in nonzero_out quotient_with (i, j) n,
)

pub quotient_of-is : (i j k : Interval) → quotient_of i j ≡ Some k
    → IsQuotient (range_of i) (range_of j) (range_of k)
unfolding quotient_of
quotient_of-is i j k e = let q =
    made_out IsNonzero nonzero_prop nonzero_test nonzero_in nonzero_out quotient_with (i, j) k e in
    subst (λ k. IsQuotient (range_of i) (range_of j) (range_of k)) q.1 (quotient_with-is (i, j) q.0)

-- ---- one fraction
alone_range : Fraction → Range
alone_range x = record { low = At x; high = At x }

alone_range_is : (x : Fraction) → IsEnclosure (Alone x) (outward (alone_range x))
unfolding alone_range
alone_range_is x =
    outward_exact (Alone x) (alone_range x) (le_refl x) (λ y l. le_antisymm y x l.1 l.0)
    (λ y e. (subst (λ z. x ≤ℚ z) (sym e) (le_refl x), subst (λ z. z ≤ℚ x) (sym e) (le_refl x)))

alone_grid : (x : Fraction) → IsGridRange (outward (alone_range x))
alone_grid x = enclosed (Alone x) (outward (alone_range x)) (enclosure_ordered (Alone x)
    (outward (alone_range x)) x refl (alone_range_is x)) (alone_range_is x)

-- the least interval that holds x
pub point_of : Fraction → Interval
point_of x = interval_of (outward (alone_range x)) (alone_grid x)

pub point_of-is : (x : Fraction) → IsEnclosure (Alone x) (range_of (point_of x))
unfolding point_of
point_of-is x = subst (IsEnclosure (Alone x))
    (sym (interval_of-range (outward (alone_range x)) (alone_grid x))) (alone_range_is x)

-- ---- single intervals
-- from minus to plus infinity
abbrev pub whole_interval : Interval
whole_interval = record { lo = end.Low; hi = end.High; ordered = tt }

-- 0 and above
abbrev pub half_line : Interval
half_line = record { lo = end.At zero_number; hi = end.High; ordered = tt }
