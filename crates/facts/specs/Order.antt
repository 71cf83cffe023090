-- Slots, the order of facts, and their meet.
use Rattle.std.specs.Prelude.{◌≡◌, ◌==◌, ◌&&◌, ◌≤ℤ◌, Bool, Option, Some, None, if◌then◌else◌}
use Rattle.fx_model.specs.declared.ExprId.{ExprId}
use Rattle.fx_model.specs.Enclosure.{Within}
use Rattle.interval.specs.declared.interval.Interval.{Interval}
use Rattle.interval.specs.Intervals.{range_of}
use Rattle.interval.specs.Meets.{common_of}
use Rattle.facts.specs.Parts.{common_size, common_error, greater_place}
use Rattle.facts.specs.declared.size.Size.{Size}
use Rattle.facts.specs.declared.relative.RelativeError.{RelativeError}
use Rattle.facts.specs.declared.fact.Fact.{Fact}
use Rattle.facts.specs.declared.fact.Slot.{Slot}
use Rattle.facts.specs.declared.fact.Fact.TheVariants as fact
use Rattle.facts.specs.declared.fact.Slot.TheVariants as slot

-- the slot that a fact stands on
abbrev pub slot_of : Fact → Slot
slot_of (fact.Bnd x i) = slot.Bnd x
slot_of (fact.Abs x s) = slot.Abs x
slot_of (fact.Rel x y e) = slot.Rel x y
slot_of (fact.Fix x k) = slot.Fix x
slot_of (fact.Nzr x) = slot.Nzr x
slot_of fact.Void = slot.Void

-- The first interval lies within the second.
abbrev pub IsWithin : Interval → Interval → Type 0
IsWithin i j = Within (range_of i) (range_of j)

-- Of relative errors: that both sides are 0 is stronger than each interval.
abbrev pub IsWithinError : Option RelativeError → Option RelativeError → Type 0
IsWithinError None e = Unit {0}
IsWithinError (Some d) None = ⊥
IsWithinError (Some d) (Some e) = IsWithin d.interval e.interval

-- The first fact is stronger than the second, or they are equal: on one slot a smaller or equal
-- interval, a greater or equal k. VOID is stronger than everything.
abbrev pub IsStronger : Fact → Fact → Type 0
IsStronger fact.Void f = Unit {0}
IsStronger (fact.Bnd x i) (fact.Bnd y j) = (x ≡ y) × IsWithin i j
IsStronger (fact.Abs x s) (fact.Abs y t) = (x ≡ y) × IsWithin s.interval t.interval
IsStronger (fact.Rel x z d) (fact.Rel y w e) = (x ≡ y) × (z ≡ w) × IsWithinError d e
IsStronger (fact.Fix x k) (fact.Fix y n) = (x ≡ y) × (n.exponent ≤ℤ k.exponent)
IsStronger (fact.Nzr x) (fact.Nzr y) = x ≡ y
IsStronger _ _ = ⊥

-- ---- the meet
abbrev pub is_same : ExprId → ExprId → Bool
is_same x y = x.0 == y.0

-- with no common interval nothing is left
abbrev pub bounded : ExprId → Option Interval → Fact
bounded x (Some i) = fact.Bnd x i
bounded x None = fact.Void

-- The ABS fact of two facts' common sizes; with none in common nothing is left, which is VOID.
abbrev pub sized : ExprId → Option Size → Fact
sized x (Some s) = fact.Abs x s
sized x None = fact.Void

-- The meet of two facts on one slot: the common interval, or the greater k. Where BND or ABS
-- intervals have none it is VOID, where relative errors have none that both sides are 0. With VOID
-- it is VOID. Facts of two slots have none.
abbrev pub meet_of : Fact → Fact → Option Fact
meet_of fact.Void g = Some fact.Void
meet_of f fact.Void = Some fact.Void
meet_of (fact.Bnd x i) (fact.Bnd y j) =
    if is_same x y then Some (bounded x (common_of i j)) else None
meet_of (fact.Abs x s) (fact.Abs y t) =
    if is_same x y then Some (sized x (common_size s t)) else None
meet_of (fact.Rel x z d) (fact.Rel y w e) =
    if is_same x y && is_same z w then Some (fact.Rel x z (common_error d e)) else None
meet_of (fact.Fix x k) (fact.Fix y n) =
    if is_same x y then Some (fact.Fix x (greater_place k n)) else None
meet_of (fact.Nzr x) (fact.Nzr y) = if is_same x y then Some (fact.Nzr x) else None
meet_of _ _ = None

-- Neither is VOID, and they stand on two slots.
abbrev pub AreUnlike : Fact → Fact → Type 0
AreUnlike a b = (¬ (a ≡ fact.Void)) × (¬ (b ≡ fact.Void)) × (¬ (slot_of a ≡ slot_of b))
