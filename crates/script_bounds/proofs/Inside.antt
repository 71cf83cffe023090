-- An interval lies between written bounds exactly where it lies in the one rounded inward.
use Rattle.std.specs.Prelude.{◌≡◌, Some}
use Rattle.std.proofs.Common.{subst, ⊎_elim}
use Rattle.fx_model.specs.Fraction.{Fraction, ◌≤ℚ◌, ◌+ℚ◌, ◌-ℚ◌, one_ℚ, le_refl, le_trans, lt_le}
use Rattle.fx_model.specs.Fraction.{lt_not, le_or_lt, minus_one, plus_one}
use Rattle.fx_model.specs.Grid.{Bound, Below, At, Above, IsOnGrid, IsDown, IsUp}
use Rattle.fx_model.specs.Enclosure.{Range, IsFrom, IsUpTo, Lies, IsOrdered, BoundLe, Within}
use Rattle.fx_model.specs.Enclosure.{within_in, member_of, ordered_by, lower_up_to, higher_from}
use Rattle.fx_model.specs.Enclosure.{end_up_to, end_from}
use Rattle.dyadic.specs.declared.number.End.{End}
use Rattle.dyadic.specs.declared.number.End.TheVariants as end
use Rattle.dyadic.specs.Ends.{bound_of}
use Rattle.dyadic.specs.Values.{value_of}
use Rattle.dyadic.proofs.Values.{on_grid}
use Rattle.interval.specs.declared.interval.Interval.{Interval}
use Rattle.interval.specs.Intervals.{range_of}
use Rattle.interval.specs.Ends.{AreEnds, range_from}
use Rattle.interval.specs.Results.{point_of}
use Rattle.interval.specs.Meets.{interval_from-some, interval_from_out}
use Rattle.script_bounds.specs.Bounds.{down_end, up_end, inward_of}
use Rattle.script_bounds.proofs.Rounded.{down_at, up_at}

-- ---- what lies in the interval lies between the bounds
from_number : (y : Fraction) (c : Bound) → IsUp y c → (x : Fraction) → IsFrom c x → y ≤ℚ x
from_number y Below u x l = absurd u
from_number y (At g) u x l = le_trans y g x u.1 l
from_number y Above u x l = absurd l

up_to_number : (y : Fraction) (c : Bound) → IsDown y c → (x : Fraction) → IsUpTo c x → x ≤ℚ y
up_to_number y Below u x l = absurd l
up_to_number y (At g) u x l = le_trans x g y l u.1
up_to_number y Above u x l = absurd u

from_end : (b : Bound) (x : Fraction) → IsFrom (bound_of (up_end b)) x → IsFrom b x
from_end Below x l = tt
from_end (At y) x l = from_number y (bound_of (point_of y).hi) (up_at y) x l
from_end Above x l = l

up_to_end : (b : Bound) (x : Fraction) → IsUpTo (bound_of (down_end b)) x → IsUpTo b x
up_to_end Below x l = l
up_to_end (At y) x l = up_to_number y (bound_of (point_of y).lo) (down_at y) x l
up_to_end Above x l = tt

pub inward-within : (r : Range) (i : Interval) → inward_of r ≡ Some i → (x : Fraction)
    → Lies (range_of i) x → Lies r x
inward-within r i e x l = let q = interval_from_out (up_end r.low) (down_end r.high) i e in (
  from_end r.low x (subst (λ n. IsFrom (bound_of n) x) q.0 l.0),
  up_to_end r.high x (subst (λ n. IsUpTo (bound_of n) x) q.1 l.1),
)

-- ---- an interval between the bounds has its ends there
above_number : (p : Fraction) (c : Bound) (g : Fraction) → IsUp p c → IsOnGrid g
    → p ≤ℚ g → BoundLe c (At g)
above_number p Below g u o l = absurd u
above_number p (At a) g u o l = u.2 g o l
above_number p Above g u o l = absurd (u g o l)

below_number : (p : Fraction) (c : Bound) (g : Fraction) → IsDown p c → IsOnGrid g
    → g ≤ℚ p → BoundLe (At g) c
below_number p Below g u o l = absurd (u g o l)
below_number p (At a) g u o l = u.2 g o l
below_number p Above g u o l = absurd u

low_end : (p : Fraction) (lo : End) (c : Bound)
    → IsOrdered (bound_of lo) c → ((x : Fraction) → IsFrom (bound_of lo) x → IsUpTo c x → p ≤ℚ x)
    → BoundLe (bound_of (point_of p).hi) (bound_of lo)
low_end p end.Low c o f = let m = member_of Below c o in
    absurd (⊎_elim (λ l. lt_not (p -ℚ one_ℚ) p (minus_one p) (f (p -ℚ one_ℚ) tt (lower_up_to c
    (p -ℚ one_ℚ) m.0 (le_trans (p -ℚ one_ℚ) p m.0 (lt_le (p -ℚ one_ℚ) p (minus_one p)) l) m.2)))
    (λ l. lt_not m.0 p l (f m.0 m.1 m.2)) (le_or_lt p m.0))
low_end p (end.At d) c o f = above_number p (bound_of (point_of p).hi) (value_of d) (up_at p)
    (on_grid d) (f (value_of d) (le_refl (value_of d)) (end_up_to (value_of d) c o))
low_end p end.High c o f = absurd o

high_end : (p : Fraction) (c : Bound) (hi : End)
    → IsOrdered c (bound_of hi) → ((x : Fraction) → IsFrom c x → IsUpTo (bound_of hi) x → x ≤ℚ p)
    → BoundLe (bound_of hi) (bound_of (point_of p).lo)
high_end p c end.Low o f = tt
high_end p c (end.At d) o f = below_number p (bound_of (point_of p).lo) (value_of d) (down_at p)
    (on_grid d) (f (value_of d) (end_from c (value_of d) o) (le_refl (value_of d)))
high_end p c end.High o f = let m = member_of c Above o in
    absurd (⊎_elim (λ l. lt_not p (p +ℚ one_ℚ) (plus_one p) (f (p +ℚ one_ℚ) (higher_from c
    (p +ℚ one_ℚ) m.0 (le_trans m.0 p (p +ℚ one_ℚ) l (lt_le p (p +ℚ one_ℚ) (plus_one p))) m.1) tt))
    (λ l. lt_not p m.0 l (f m.0 m.1 m.2)) (le_or_lt m.0 p))

low_within : (b : Bound) (k : Interval) → ((x : Fraction) → Lies (range_of k) x → IsFrom b x)
    → BoundLe (bound_of (up_end b)) (bound_of k.lo)
low_within Below k f = tt
low_within (At p) k f = low_end p k.lo (bound_of k.hi) k.ordered (λ x l u. f x (l, u))
low_within Above k f = let m = member_of (bound_of k.lo) (bound_of k.hi) k.ordered in
    absurd (f m.0 (m.1, m.2))

high_within : (b : Bound) (k : Interval) → ((x : Fraction) → Lies (range_of k) x → IsUpTo b x)
    → BoundLe (bound_of k.hi) (bound_of (down_end b))
high_within Below k f = let m = member_of (bound_of k.lo) (bound_of k.hi) k.ordered in
    absurd (f m.0 (m.1, m.2))
high_within (At p) k f = high_end p (bound_of k.lo) k.hi k.ordered (λ x l u. f x (l, u))
high_within Above k f = most (bound_of k.hi)
  where
    most : (b : Bound) → BoundLe b Above
    most Below = tt
    most (At g) = tt
    most Above = tt

pub inward-greatest : (r : Range) (k : Interval) → ((x : Fraction) → Lies (range_of k) x → Lies r x)
    → (i : Interval) × (inward_of r ≡ Some i) × Within (range_of k) (range_of i)
inward-greatest r k f =
    let w : Within (range_of k) (range_from (up_end r.low) (down_end r.high)) = (
      low_within r.low k (λ x l. let q = f x l in q.0),
      high_within r.high k (λ x l. let q = f x l in q.1),
    ) in
    let m = member_of (bound_of k.lo) (bound_of k.hi) k.ordered in
    let l = within_in (range_of k) (range_from (up_end r.low) (down_end r.high)) m.0 w (m.1, m.2) in
    let o : AreEnds (up_end r.low) (down_end r.high) =
    ordered_by (bound_of (up_end r.low)) (bound_of (down_end r.high)) m.0 l.0 l.1 in (
      record { lo = up_end r.low; hi = down_end r.high; ordered = o },
      interval_from-some (up_end r.low) (down_end r.high) o,
      w,
    )
