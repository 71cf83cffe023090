-- Rules on the multiples in an interval, numbers 28 and 90 of the list: each row as a function from
-- premises and a target to its conclusion. What fits no row gives nothing.
use Rattle.std.specs.Prelude.{◌&&◌, ℤ, List, [], ◌∷◌, Option, Some, None}
use Rattle.fx_model.specs.Enclosure.{Range}
use Rattle.fx_model.specs.declared.Node.{Node}
use Rattle.fx_model.specs.declared.Direction.TheVariants.{Dn, Up}
use Rattle.interval.specs.declared.interval.Interval.{Interval}
use Rattle.interval.specs.Intervals.{range_of}
use Rattle.interval.specs.Outward.{outward_of}
use Rattle.facts.specs.declared.fact.Fact.{Fact}
use Rattle.facts.specs.declared.fact.Slot.{Slot}
use Rattle.facts.specs.declared.fact.Fact.TheVariants as fact
use Rattle.facts.specs.declared.fact.Slot.TheVariants as slot
use Rattle.facts.specs.declared.place.FixPlace.{FixPlace}
use Rattle.facts.specs.Order.{is_same}
use Rattle.facts.specs.Conclusions.{bnd_of, given_if}
use Rattle.theorem_arith.specs.Shapes.{is_one}
use Rattle.theorem_fix.specs.Roundings.{rounded_end}

-- the lower end rounded up to a multiple of 2^k, the upper one down; infinite ends stay
abbrev pub shrunk_range : ℤ → Range → Range
shrunk_range k r = record {
  low = rounded_end (record { lsb = k; dir = Up }) r.low;
  high = rounded_end (record { lsb = k; dir = Dn }) r.high;
}

-- the least interval that holds the multiples of 2^k in an interval; none where it has none
abbrev pub shrunk_of : Interval → FixPlace → Option Interval
shrunk_of i k = outward_of (shrunk_range k.exponent (range_of i))

-- 28: from BND(x, I), FIX(x, k): BND(x, I shrunk to its multiples of 2^k), where it has one
abbrev pub shrinking_rule : List Node → List Fact → Slot → Option Fact
shrinking_rule nodes (fact.Bnd x i ∷ fact.Fix y k ∷ []) (slot.Bnd e) =
    given_if (is_one nodes x y && is_same x e) (bnd_of e (shrunk_of i k))
shrinking_rule nodes _ _ = None

-- VOID, where there is no interval
abbrev pub void_without : Option Interval → Option Fact
void_without None = Some fact.Void
void_without (Some i) = None

-- 90: from BND(x, I), FIX(x, k), I has no multiple of 2^k: VOID
abbrev pub no_multiple_rule : List Node → List Fact → Slot → Option Fact
no_multiple_rule nodes (fact.Bnd x i ∷ fact.Fix y k ∷ []) slot.Void =
    given_if (is_one nodes x y) (void_without (shrunk_of i k))
no_multiple_rule nodes _ _ = None
