-- Laws of what specs/Meets defines.
use Rattle.std.specs.Prelude.{◌≡◌, Some}
use Rattle.std.proofs.Common.{sym, subst}
use Rattle.fx_model.specs.Fraction.{Fraction}
use Rattle.fx_model.specs.Grid.{le_bound}
use Rattle.fx_model.specs.Enclosure.{IsFrom, IsUpTo, Lies, BoundLe, Within, ordered_by, within_in}
use Rattle.dyadic.specs.declared.number.End.{End}
use Rattle.dyadic.specs.Ends.{bound_of}
use Rattle.dyadic.specs.Extremes.{greater_end, lesser_end, greater_above, lesser_below, chosen}
use Rattle.dyadic.proofs.Extremes.{greater_least, lesser_most}
use Rattle.interval.specs.declared.interval.Interval.{Interval}
use Rattle.interval.specs.Ends.{AreEnds}
use Rattle.interval.specs.Intervals.{range_of}
use Rattle.interval.specs.Meets.{with_ends, interval_from, interval_from-some, interval_from_out}
use Rattle.interval.specs.Meets.{common_of, ordered_between, hull_of}

pub interval_from_self : (i : Interval) → Some i ≡ interval_from i.lo i.hi
interval_from_self i = sym (interval_from-some i.lo i.hi i.ordered)

-- ---- the common part
pub common-within : (i j c : Interval) → common_of i j ≡ Some c
    → Within (range_of c) (range_of i) × Within (range_of c) (range_of j)
common-within i j c e =
    let q = interval_from_out (greater_end i.lo j.lo) (lesser_end i.hi j.hi) c e in
    let g = greater_above i.lo j.lo in
    let l = lesser_below i.hi j.hi in
    let L : End → Type 0 = λ k. BoundLe (bound_of i.lo) (bound_of k)
    × BoundLe (bound_of j.lo) (bound_of k) in
    let H : End → Type 0 = λ k. BoundLe (bound_of k) (bound_of i.hi)
    × BoundLe (bound_of k) (bound_of j.hi) in
    let lo : L c.lo = subst L (sym q.0) g in
    let hi : H c.hi = subst H (sym q.1) l in
    ((lo.0, hi.0), (lo.1, hi.1))

-- an interval within two others shows that they have a common part, and lies within it
pub within-common : (k i j : Interval)
    → Within (range_of k) (range_of i) → Within (range_of k) (range_of j)
    → (c : Interval) × (common_of i j ≡ Some c) × Within (range_of k) (range_of c)
within-common k i j p q =
    let lo : BoundLe (bound_of (greater_end i.lo j.lo)) (bound_of k.lo) =
    greater_least i.lo j.lo (bound_of k.lo) p.0 q.0 in
    let hi : BoundLe (bound_of k.hi) (bound_of (lesser_end i.hi j.hi)) =
    lesser_most i.hi j.hi (bound_of k.hi) p.1 q.1 in
    let o : AreEnds (greater_end i.lo j.lo) (lesser_end i.hi j.hi) =
    ordered_between (bound_of (greater_end i.lo j.lo)) (bound_of k.lo) (bound_of k.hi)
    (bound_of (lesser_end i.hi j.hi)) lo k.ordered hi in (
      with_ends (greater_end i.lo j.lo, lesser_end i.hi j.hi) o,
      interval_from-some (greater_end i.lo j.lo) (lesser_end i.hi j.hi) o,
      (lo, hi),
    )

-- what lies in both lies in the common part
pub from_greater : (a b : End) (x : Fraction) → IsFrom (bound_of a) x → IsFrom (bound_of b) x
    → IsFrom (bound_of (greater_end a b)) x
from_greater a b x p q =
    chosen (le_bound (bound_of a) (bound_of b)) b a (λ e. IsFrom (bound_of e) x) (λ t. q) (λ f. p)

to_lesser : (a b : End) (x : Fraction) → IsUpTo (bound_of a) x → IsUpTo (bound_of b) x
    → IsUpTo (bound_of (lesser_end a b)) x
to_lesser a b x p q =
    chosen (le_bound (bound_of a) (bound_of b)) a b (λ e. IsUpTo (bound_of e) x) (λ t. p) (λ f. q)

-- a fraction in both shows that there is a common part, and lies in it
pub lies-common : (i j : Interval) (x : Fraction) → Lies (range_of i) x → Lies (range_of j) x
    → (c : Interval) × (common_of i j ≡ Some c) × Lies (range_of c) x
lies-common i j x p q =
    let lo : IsFrom (bound_of (greater_end i.lo j.lo)) x = from_greater i.lo j.lo x p.0 q.0 in
    let hi : IsUpTo (bound_of (lesser_end i.hi j.hi)) x = to_lesser i.hi j.hi x p.1 q.1 in
    let o : AreEnds (greater_end i.lo j.lo) (lesser_end i.hi j.hi) =
    ordered_by (bound_of (greater_end i.lo j.lo)) (bound_of (lesser_end i.hi j.hi)) x lo hi in (
      with_ends (greater_end i.lo j.lo, lesser_end i.hi j.hi) o,
      interval_from-some (greater_end i.lo j.lo) (lesser_end i.hi j.hi) o,
      (lo, hi),
    )

-- ---- the hull
-- it holds what lies in either
pub lies-hull_left : (i j : Interval) (x : Fraction) → Lies (range_of i) x
    → Lies (range_of (hull_of i j)) x
lies-hull_left i j x l = within_in (range_of i)
    (range_of (hull_of i j)) x ((lesser_below i.lo j.lo).0, (greater_above i.hi j.hi).0) l

pub lies-hull_right : (i j : Interval) (x : Fraction) → Lies (range_of j) x
    → Lies (range_of (hull_of i j)) x
lies-hull_right i j x l = within_in (range_of j)
    (range_of (hull_of i j)) x ((lesser_below i.lo j.lo).1, (greater_above i.hi j.hi).1) l
