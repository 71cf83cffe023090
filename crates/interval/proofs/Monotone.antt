-- Smaller intervals have smaller results.
use Rattle.std.specs.Prelude.{◌≡◌, Some, refl}
use Rattle.std.proofs.Common.{sym, subst, ⊎_elim}
use Rattle.fx_model.specs.Fraction.{Fraction, neg-le}
use Rattle.fx_model.specs.Grid.{Bound, Below, At, Above, neg_bound}
use Rattle.fx_model.specs.Enclosure.{Range, IsOrdered, IsFinite, BoundLe, Within, within_in}
use Rattle.fx_model.specs.Enclosure.{Negations, Sizes, Sums, Differences, Products, Quotients}
use Rattle.fx_model.specs.Enclosure.{whole_line, from_ends}
use Rattle.fx_model.proofs.Enclosure.{enclosure_isotone}
use Rattle.fx_model.specs.Enclosure.Unique.{both_or}
use Rattle.dyadic.specs.declared.number.End.{End}
use Rattle.dyadic.specs.Ends.{bound_of}
use Rattle.dyadic.proofs.Extremes.{BoundLe-trans, greater_least}
use Rattle.dyadic.specs.Extremes.{greater_end, greater_above}
use Rattle.interval.specs.declared.interval.Interval.{Interval}
use Rattle.interval.specs.Ends.{AreEnds}
use Rattle.interval.specs.Intervals.{range_of}
use Rattle.interval.specs.Meets.{interval_from, interval_from-some, interval_from_out}
use Rattle.interval.specs.Results.{negation_of, negation_of-is, size_of, size_of-is, sum_of}
use Rattle.interval.specs.Results.{sum_of-is, difference_of, difference_of-is, product_of}
use Rattle.interval.specs.Results.{product_of-is, quotient_of, quotient_of-some, quotient_of-is}

-- ---- ends
pub neg_bound-falls : (b c : Bound) → BoundLe b c → BoundLe (neg_bound c) (neg_bound b)
neg_bound-falls Below Below l = tt
neg_bound-falls Below (At h) l = tt
neg_bound-falls Below Above l = tt
neg_bound-falls (At g) Below l = absurd l
neg_bound-falls (At g) (At h) l = neg-le g h l
neg_bound-falls (At g) Above l = tt
neg_bound-falls Above Below l = absurd l
neg_bound-falls Above (At h) l = absurd l
neg_bound-falls Above Above l = tt

-- greater ends have a greater greater end
pub greater_end-rises : (a b c d : End)
    → BoundLe (bound_of a) (bound_of c) → BoundLe (bound_of b) (bound_of d)
    → BoundLe (bound_of (greater_end a b)) (bound_of (greater_end c d))
greater_end-rises a b c d p q = let g = greater_above c d in
    greater_least a b (bound_of (greater_end c d))
    (BoundLe-trans (bound_of a) (bound_of c) (bound_of (greater_end c d)) p g.0)
    (BoundLe-trans (bound_of b) (bound_of d) (bound_of (greater_end c d)) q g.1)

-- of ends further in, where they make an interval
pub interval_from-within : (a b c d : End) (k : Interval) → BoundLe (bound_of c) (bound_of a)
    → BoundLe (bound_of b) (bound_of d) → AreEnds a b → interval_from c d ≡ Some k
    → (i : Interval) × (interval_from a b ≡ Some i) × Within (range_of i) (range_of k)
interval_from-within a b c d k p q o e = let h = interval_from_out c d k e in (
  record { lo = a; hi = b; ordered = o },
  interval_from-some a b o,
  (
    subst (λ l. BoundLe (bound_of l) (bound_of a)) (sym h.0) p,
    subst (λ l. BoundLe (bound_of b) (bound_of l)) (sym h.1) q,
  ),
)

-- ---- negatives, absolute values, sums, differences
pub negation_of-within : (i j : Interval) → Within (range_of i) (range_of j)
    → Within (range_of (negation_of i)) (range_of (negation_of j))
negation_of-within i j w = enclosure_isotone (Negations (range_of j)) (Negations (range_of i))
    (range_of (negation_of j)) (range_of (negation_of i))
    (λ z k. (k.0, within_in (range_of i) (range_of j) k.0 w k.1, k.2))
    (negation_of-is j) (negation_of-is i)

pub size_of-within : (i j : Interval) → Within (range_of i) (range_of j)
    → Within (range_of (size_of i)) (range_of (size_of j))
size_of-within i j w = enclosure_isotone (Sizes (range_of j)) (Sizes (range_of i))
    (range_of (size_of j)) (range_of (size_of i))
    (λ z k. (k.0, within_in (range_of i) (range_of j) k.0 w k.1, k.2)) (size_of-is j) (size_of-is i)

pub sum_of-within : (i j k l : Interval) → Within (range_of i) (range_of k)
    → Within (range_of j) (range_of l) → Within (range_of (sum_of i j)) (range_of (sum_of k l))
sum_of-within i j k l v w = enclosure_isotone (Sums (range_of k) (range_of l))
    (Sums (range_of i) (range_of j)) (range_of (sum_of k l)) (range_of (sum_of i j))
    (λ z t. (
      t.0,
      t.1,
      within_in (range_of i) (range_of k) t.0 v t.2,
      within_in (range_of j) (range_of l) t.1 w t.3,
      t.4,
    )) (sum_of-is k l) (sum_of-is i j)

pub difference_of-within : (i j k l : Interval)
    → Within (range_of i) (range_of k) → Within (range_of j) (range_of l)
    → Within (range_of (difference_of i j)) (range_of (difference_of k l))
difference_of-within i j k l v w = enclosure_isotone (Differences (range_of k) (range_of l))
    (Differences (range_of i) (range_of j)) (range_of (difference_of k l))
    (range_of (difference_of i j))
    (λ z t. (
      t.0,
      t.1,
      within_in (range_of i) (range_of k) t.0 v t.2,
      within_in (range_of j) (range_of l) t.1 w t.3,
      t.4,
    )) (difference_of-is k l) (difference_of-is i j)

-- ---- products and quotients: where the greater intervals are finite, so are the smaller; else the
-- whole line holds everything
finite_ends : (b c : Bound) (g h : Fraction) → IsOrdered b c → BoundLe (At g) b → BoundLe c (At h)
    → IsFinite (from_ends b c)
finite_ends (At x) (At y) g h o l m = (x, y, refl, refl)
finite_ends (At x) Below g h o l m = absurd o
finite_ends (At x) Above g h o l m = absurd m
finite_ends Below c g h o l m = absurd l
finite_ends Above c g h o l m = absurd o

-- within finite ends an interval is finite
pub finite_within : (i j : Interval) → Within (range_of i) (range_of j)
    → IsFinite (range_of j) → IsFinite (range_of i)
finite_within i j w f = finite_ends (bound_of i.lo) (bound_of i.hi) f.0 f.1 i.ordered (subst
    (λ b. BoundLe b (bound_of i.lo)) f.2 w.0) (subst (λ b. BoundLe (bound_of i.hi) b) f.3 w.1)

to_above : (b : Bound) → BoundLe b Above
to_above Below = tt
to_above (At g) = tt
to_above Above = tt

in_whole_line : (r s : Range) → s ≡ whole_line → Within r s
in_whole_line r s e = subst (Within r) (sym e) (tt, to_above r.high)

pub product_of-within : (i j k l : Interval)
    → Within (range_of i) (range_of k) → Within (range_of j) (range_of l)
    → Within (range_of (product_of i j)) (range_of (product_of k l))
product_of-within i j k l v w =
    let p = product_of-is i j in let q = product_of-is k l in
    ⊎_elim (λ f. enclosure_isotone (Products (range_of k) (range_of l))
    (Products (range_of i) (range_of j)) (range_of (product_of k l)) (range_of (product_of i j))
    (λ z t. (
      t.0,
      t.1,
      within_in (range_of i) (range_of k) t.0 v t.2,
      within_in (range_of j) (range_of l) t.1 w t.3,
      t.4,
    ))
    (q.finite f.0 f.1) (p.finite (finite_within i k v f.0) (finite_within j l w f.1)))
    (λ n. in_whole_line (range_of (product_of i j)) (range_of (product_of k l)) (q.infinite n))
    (both_or (range_of k) (range_of l))

-- where 0 doesn't lie in the greater divisor, it doesn't in the smaller
pub quotient_of-within : (i j k l q : Interval)
    → Within (range_of i) (range_of k) → Within (range_of j) (range_of l) → quotient_of k l ≡ Some q
    → (p : Interval) × (quotient_of i j ≡ Some p) × Within (range_of p) (range_of q)
quotient_of-within i j k l q v w e =
    let b = quotient_of-is k l q e in
    let h = quotient_of-some i j (λ z. b.nonzero (within_in (range_of j) (range_of l) _ w z)) in
    let a = quotient_of-is i j h.0 h.1 in (
      h.0,
      h.1,
      ⊎_elim (λ f. enclosure_isotone (Quotients (range_of k) (range_of l))
          (Quotients (range_of i) (range_of j)) (range_of q) (range_of h.0)
          (λ z t. (
            t.0,
            t.1,
            within_in (range_of i) (range_of k) t.0 v t.2,
            within_in (range_of j) (range_of l) t.1 w t.3,
            t.4,
          ))
          (b.finite f.0 f.1) (a.finite (finite_within i k v f.0) (finite_within j l w f.1)))
          (λ n. in_whole_line (range_of h.0) (range_of q) (b.infinite n))
          (both_or (range_of k) (range_of l)),
    )
