-- Laws of what specs/Outward defines.
use Rattle.std.specs.Prelude.{◌≡◌, Some, refl}
use Rattle.std.proofs.Common.{sym, ap, subst, ◌∙◌}
use Rattle.fx_model.specs.Fraction.{Fraction}
use Rattle.fx_model.specs.Grid.{Bound, Below, At, Above}
use Rattle.fx_model.specs.Enclosure.{Range, Lies, IsEnclosure, IsOrdered, Within, member_of}
use Rattle.fx_model.specs.Enclosure.{ordered_by, in_enclosure, enclosure_ordered}
use Rattle.fx_model.proofs.Enclosure.{enclosure_isotone, enclosure_unique}
use Rattle.grid_words.proofs.Nearest.{down_grid, up_grid}
use Rattle.grid_words.specs.Outward.{down_end, up_end, outward, outward_is}
use Rattle.dyadic.specs.declared.number.End.{End}
use Rattle.dyadic.specs.Ends.{bound_of}
use Rattle.dyadic.proofs.Ends.{same_bound}
use Rattle.dyadic.specs.Made.{IsGridBound}
use Rattle.dyadic.proofs.Made.{grid_bound}
use Rattle.interval.specs.declared.interval.Interval.{Interval}
use Rattle.interval.specs.Ends.{AreEnds, range_from}
use Rattle.interval.specs.Intervals.{range_of}
use Rattle.interval.proofs.Intervals.{same_range}
use Rattle.interval.specs.Meets.{interval_from, interval_from-some}
use Rattle.interval.specs.Outward.{low_end, high_end, outward_of, low_end-bound, high_end-bound}

-- ---- the ends
grid_down : (b : Bound) → IsGridBound b → down_end b ≡ b
grid_down Below g = refl
grid_down (At x) g = down_grid x g
grid_down Above g = refl

grid_up : (b : Bound) → IsGridBound b → up_end b ≡ b
grid_up Below g = refl
grid_up (At x) g = up_grid x g
grid_up Above g = refl

-- an end of the grid stays
pub low_end_self : (e : End) → e ≡ low_end (bound_of e)
low_end_self e = sym (same_bound (low_end (bound_of e)) e (low_end-bound (bound_of e)
    ∙ grid_down (bound_of e) (grid_bound e)))

pub high_end_self : (e : End) → e ≡ high_end (bound_of e)
high_end_self e = sym (same_bound (high_end (bound_of e)) e (high_end-bound (bound_of e)
    ∙ grid_up (bound_of e) (grid_bound e)))

pub low_bound_self : (b : Bound) → IsGridBound b → bound_of (low_end b) ≡ b
low_bound_self b g = low_end-bound b ∙ grid_down b g

pub high_bound_self : (b : Bound) → IsGridBound b → bound_of (high_end b) ≡ b
high_bound_self b g = high_end-bound b ∙ grid_up b g

-- ---- the interval
-- ends that stand for those of a range make its interval
pub outward_of_ends : (r : Range) (lo hi : End) → bound_of lo ≡ r.low → bound_of hi ≡ r.high
    → interval_from lo hi ≡ outward_of r
outward_of_ends r lo hi p q =
    let a : lo ≡ low_end r.low = low_end_self lo ∙ ap low_end p in
    let b : hi ≡ high_end r.high = high_end_self hi ∙ ap high_end q in
    λ k. interval_from (a k) (b k)

rounded_outward : (r : Range) → outward r ≡ range_from (low_end r.low) (high_end r.high)
rounded_outward r =
    λ k. record { low = sym (low_end-bound r.low) k; high = sym (high_end-bound r.high) k }

-- a range in order has one, which is the best that holds the range
pub outward_of-some : (r : Range) → IsOrdered r.low r.high
    → (i : Interval) × (outward_of r ≡ Some i) × IsEnclosure (Lies r) (range_of i)
outward_of-some r o =
    let e : IsEnclosure (Lies r) (range_from (low_end r.low) (high_end r.high)) =
    subst (IsEnclosure (Lies r)) (rounded_outward r) (outward_is r o) in
    let m = member_of r.low r.high o in
    let w : AreEnds (low_end r.low) (high_end r.high) =
    enclosure_ordered (Lies r) (range_from (low_end r.low) (high_end r.high)) m.0 (m.1, m.2) e in (
      record { lo = low_end r.low; hi = high_end r.high; ordered = w },
      interval_from-some (low_end r.low) (high_end r.high) w,
      e,
    )

-- the best interval that holds a range in order is that
pub outward_of_only : (r : Range) (i : Interval) → IsOrdered r.low r.high
    → IsEnclosure (Lies r) (range_of i) → Some i ≡ outward_of r
outward_of_only r i o e = let s = outward_of-some r o in ap Some
    (same_range i s.0 (enclosure_unique (Lies r) (range_of i) (range_of s.0) e s.2)) ∙ sym s.1

same : (i j : Interval) → Some i ≡ Some j → i ≡ j
same i j e = cc

pub outward_of-is : (r : Range) (i : Interval) → IsOrdered r.low r.high → outward_of r ≡ Some i
    → IsEnclosure (Lies r) (range_of i)
outward_of-is r i o e = let s = outward_of-some r o in
    subst (λ (j : Interval). IsEnclosure (Lies r) (range_of j)) (same s.0 i (sym s.1 ∙ e)) s.2

-- what lies in the range lies in its interval
pub outward_of_lies : (r : Range) (i : Interval) (x : Fraction) → outward_of r ≡ Some i
    → Lies r x → Lies (range_of i) x
outward_of_lies r i x e l =
    in_enclosure (Lies r) (range_of i) x (outward_of-is r i (ordered_by r.low r.high x l.0 l.1) e) l

-- a range of less has a smaller interval
pub outward_of-within : (r s : Range) (i : Interval) → IsOrdered r.low r.high
    → IsOrdered s.low s.high → ((x : Fraction) → Lies s x → Lies r x) → outward_of r ≡ Some i
    → (j : Interval) × (outward_of s ≡ Some j) × Within (range_of j) (range_of i)
outward_of-within r s i o p h e = let t = outward_of-some s p in (
  t.0,
  t.1,
  enclosure_isotone (Lies r) (Lies s) (range_of i) (range_of t.0) h (outward_of-is r i o e) t.2,
)
