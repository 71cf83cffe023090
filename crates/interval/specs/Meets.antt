-- What lies in two intervals, by their ends.
use Rattle.std.specs.Prelude.{◌≡◌, Bool, true, false, Option, Some, None, refl}
use Rattle.std.proofs.Common.{sym, ap}
use Rattle.fx_model.specs.Fraction.{le_ℚ}
use Rattle.fx_model.specs.Grid.{Bound, Below, At, Above}
use Rattle.fx_model.specs.Enclosure.{IsOrdered, BoundLe, member_of, ordered_by, within_in}
use Rattle.dyadic.specs.declared.number.End.{End}
use Rattle.dyadic.specs.Ends.{bound_of}
use Rattle.dyadic.specs.Extremes.{greater_end, lesser_end, greater_above, lesser_below}
use Rattle.interval.specs.declared.interval.Interval.{Interval}
use Rattle.interval.specs.Ends.{AreEnds, AreEnds-prop}
use Rattle.interval.specs.Decided.{made, made-some, made-none, made_out}

-- whether two bounds are the ends of an interval
abbrev pub are_ordered : Bound → Bound → Bool
are_ordered Below Below = false
are_ordered Below (At h) = true
are_ordered Below Above = true
are_ordered (At g) Below = false
are_ordered (At g) (At h) = le_ℚ g h
are_ordered (At g) Above = true
are_ordered Above c = false

pub are_ordered_in : (b c : Bound) → are_ordered b c ≡ true → IsOrdered b c
are_ordered_in Below Below e = cc
are_ordered_in Below (At h) e = tt
are_ordered_in Below Above e = tt
are_ordered_in (At g) Below e = cc
are_ordered_in (At g) (At h) e = record { le = e }
are_ordered_in (At g) Above e = tt
are_ordered_in Above c e = cc

pub are_ordered_out : (b c : Bound) → IsOrdered b c → are_ordered b c ≡ true
are_ordered_out Below Below o = absurd o
are_ordered_out Below (At h) o = refl
are_ordered_out Below Above o = refl
are_ordered_out (At g) Below o = absurd o
are_ordered_out (At g) (At h) o = o.le
are_ordered_out (At g) Above o = refl
are_ordered_out Above c o = absurd o

abbrev pub with_ends : (ends : End × End) → AreEnds ends.0 ends.1 → Interval
with_ends ends o = record { lo = ends.0; hi = ends.1; ordered = o }

ends_prop : (ends : End × End) → IsProp (AreEnds ends.0 ends.1)
ends_prop ends = AreEnds-prop ends.0 ends.1

ends_test : End × End → Bool
ends_test ends = are_ordered (bound_of ends.0) (bound_of ends.1)

ends_in : (ends : End × End) → ends_test ends ≡ true → AreEnds ends.0 ends.1
unfolding ends_test
ends_in ends e = are_ordered_in (bound_of ends.0) (bound_of ends.1) e

ends_out : (ends : End × End) → AreEnds ends.0 ends.1 → ends_test ends ≡ true
unfolding ends_test
ends_out ends o = are_ordered_out (bound_of ends.0) (bound_of ends.1) o

-- the interval with these ends; none where they make no interval
pub interval_from : End → End → Option Interval
interval_from lo hi = made (λ (ends : End × End). AreEnds ends.0 ends.1) ends_prop ends_test ends_in
    ends_out with_ends (lo, hi)

pub interval_from-some : (lo hi : End) (o : AreEnds lo hi)
    → interval_from lo hi ≡ Some (record { lo = lo; hi = hi; ordered = o })
unfolding interval_from
interval_from-some lo hi o = made-some (λ (ends : End × End). AreEnds ends.0 ends.1) ends_prop
    ends_test ends_in ends_out with_ends (lo, hi) o

pub interval_from-none : (lo hi : End) → ¬ AreEnds lo hi → interval_from lo hi ≡ None
unfolding interval_from
interval_from-none lo hi n = made-none (λ (ends : End × End). AreEnds ends.0 ends.1) ends_prop
    ends_test ends_in ends_out with_ends (lo, hi) n

pub interval_from_out : (lo hi : End) (i : Interval) → interval_from lo hi ≡ Some i
    → (i.lo ≡ lo) × (i.hi ≡ hi)
unfolding interval_from
interval_from_out lo hi i m =
    let q = made_out (λ (ends : End × End). AreEnds ends.0 ends.1) ends_prop ends_test ends_in
    ends_out with_ends (lo, hi) i m in
    (sym (ap (λ (k : Interval). k.lo) q.1), sym (ap (λ (k : Interval). k.hi) q.1))

-- the common part of two intervals; none where there is none
abbrev pub common_of : Interval → Interval → Option Interval
common_of i j = interval_from (greater_end i.lo j.lo) (lesser_end i.hi j.hi)

-- ---- the common part
-- between a lower end at most x and an upper end at least x there is an interval
pub ordered_between : (b c d e : Bound) → BoundLe b c → IsOrdered c d → BoundLe d e → IsOrdered b e
ordered_between b c d e p o q = let m = member_of c d o in
    let w = within_in (record { low = c; high = d }) (record { low = b; high = e }) m.0 (p, q)
    (m.1, m.2) in ordered_by b e m.0 w.0 w.1

-- ---- the hull
pub hull_ends : (i j : Interval) → AreEnds (lesser_end i.lo j.lo) (greater_end i.hi j.hi)
hull_ends i j = ordered_between (bound_of (lesser_end i.lo j.lo))
    (bound_of i.lo) (bound_of i.hi) (bound_of (greater_end i.hi j.hi))
    (lesser_below i.lo j.lo).0 i.ordered (greater_above i.hi j.hi).0

-- the least interval that holds two others
abbrev pub hull_of : Interval → Interval → Interval
hull_of i j =
    record { lo = lesser_end i.lo j.lo; hi = greater_end i.hi j.hi; ordered = hull_ends i j }
