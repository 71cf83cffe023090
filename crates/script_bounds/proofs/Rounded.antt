-- The ends around a written bound are its roundings to the grid.
use Rattle.std.specs.Prelude.{◌≡◌, Some, refl}
use Rattle.std.proofs.Common.{sym, subst, ap, ◌∙◌}
use Rattle.fx_model.specs.Fraction.{Fraction, ◌≤ℚ◌, le_refl, le_antisymm}
use Rattle.fx_model.specs.Grid.{Bound, Below, At, Above, IsDown, IsUp}
use Rattle.fx_model.specs.Enclosure.{Range, Lies, IsEnclosure, IsOrdered, member_of}
use Rattle.fx_model.specs.Enclosure.{enclosure_ordered}
use Rattle.fx_model.proofs.Enclosure.{enclosure_unique}
use Rattle.grid_words.specs.Nearest.{down, up}
use Rattle.grid_words.specs.Outward as grid
use Rattle.grid_words.specs.Outward.{outward, outward_is, outward_exact}
use Rattle.dyadic.specs.Ends.{bound_of}
use Rattle.interval.specs.declared.interval.Interval.{Interval}
use Rattle.interval.specs.Intervals.{range_of}
use Rattle.interval.specs.Literals.{Alone}
use Rattle.interval.specs.Ends.{AreEnds}
use Rattle.interval.specs.Results.{point_of, point_of-is}
use Rattle.interval.specs.Meets.{interval_from-some}
use Rattle.interval.proofs.Members.{alone_down, alone_up}
use Rattle.script_bounds.specs.Bounds.{down_end, up_end, outward_of}

abbrev between : Bound → Bound → Range
between b c = record { low = b; high = c }

-- ---- one number
pub down_at : (x : Fraction) → IsDown x (bound_of (point_of x).lo)
down_at x = let e = point_of-is x in alone_down x (bound_of (point_of x).lo) e.low

pub up_at : (x : Fraction) → IsUp x (bound_of (point_of x).hi)
up_at x = let e = point_of-is x in alone_up x (bound_of (point_of x).hi) e.high

point_range : (x : Fraction) → range_of (point_of x) ≡ between (down x) (up x)
point_range x =
    enclosure_unique (Alone x) (range_of (point_of x)) (between (down x) (up x)) (point_of-is x)
    (outward_exact (Alone x) (between (At x) (At x)) (le_refl x) (λ y l. le_antisymm y x l.1 l.0)
    (λ y e. (subst (λ z. x ≤ℚ z) (sym e) (le_refl x), subst (λ z. z ≤ℚ x) (sym e) (le_refl x))))

down_end-bound : (b : Bound) → bound_of (down_end b) ≡ grid.down_end b
down_end-bound Below = refl
down_end-bound (At x) = ap (λ (r : Range). r.low) (point_range x)
down_end-bound Above = refl

up_end-bound : (b : Bound) → bound_of (up_end b) ≡ grid.up_end b
up_end-bound Below = refl
up_end-bound (At x) = ap (λ (r : Range). r.high) (point_range x)
up_end-bound Above = refl

-- ---- bounds in order
outward-range : (r : Range)
    → between (bound_of (down_end r.low)) (bound_of (up_end r.high)) ≡ outward r
outward-range r = ap (λ b. between b (bound_of (up_end r.high))) (down_end-bound r.low)
    ∙ ap (between (grid.down_end r.low)) (up_end-bound r.high)

pub outward-least : (r : Range) → IsOrdered r.low r.high
    → (i : Interval) × (outward_of r ≡ Some i) × IsEnclosure (Lies r) (range_of i)
outward-least r o =
    let e : IsEnclosure (Lies r) (between (bound_of (down_end r.low)) (bound_of (up_end r.high))) =
    subst (IsEnclosure (Lies r)) (sym (outward-range r)) (outward_is r o) in
    let m = member_of r.low r.high o in
    let w : AreEnds (down_end r.low) (up_end r.high) = enclosure_ordered (Lies r)
    (between (bound_of (down_end r.low)) (bound_of (up_end r.high))) m.0 (m.1, m.2) e in (
      record { lo = down_end r.low; hi = up_end r.high; ordered = w },
      interval_from-some (down_end r.low) (up_end r.high) w,
      e,
    )
