-- Rules that conclude VOID alone, numbers 91 and 92 of the list: each row as a function from
-- premises and a target to its conclusion. What fits no row gives nothing.
use Rattle.std.specs.Prelude.{◌&&◌, Bool, List, [], ◌∷◌, Option, Some, None}
use Rattle.fx_model.specs.Fraction.{zero_ℚ}
use Rattle.fx_model.specs.Grid.{At, le_bound}
use Rattle.fx_model.specs.Enclosure.{Range}
use Rattle.fx_model.specs.declared.Node.{Node}
use Rattle.interval.specs.Intervals.{range_of}
use Rattle.expr_dag.specs.Shapes.{is_known, are_known}
use Rattle.facts.specs.declared.relative.RelativeError.{RelativeError}
use Rattle.facts.specs.declared.fact.Fact.{Fact}
use Rattle.facts.specs.declared.fact.Slot.{Slot}
use Rattle.facts.specs.declared.fact.Fact.TheVariants as fact
use Rattle.facts.specs.declared.fact.Slot.TheVariants as slot
use Rattle.facts.specs.Order.{is_same}
use Rattle.facts.specs.Conclusions.{given_if, only_if}

-- the interval is [0, 0]
abbrev pub is_zero : Range → Bool
is_zero r = le_bound (At zero_ℚ) r.low && le_bound r.high (At zero_ℚ)

-- 91: from BND(x, [0, 0]), NZR(x): VOID
abbrev pub zero_and_not_rule : List Node → List Fact → Slot → Option Fact
zero_and_not_rule nodes (fact.Bnd x i ∷ fact.Nzr y ∷ []) slot.Void =
    only_if (is_known nodes x && (is_same x y && is_zero (range_of i))) fact.Void
zero_and_not_rule nodes _ _ = None

-- VOID, where both sides are 0
abbrev pub void_of : Option RelativeError → Option Fact
void_of (Some d) = None
void_of None = Some fact.Void

-- 92: from REL(x, y) that says that both are 0, NZR(y): VOID
abbrev pub both_zero_and_not_rule : List Node → List Fact → Slot → Option Fact
both_zero_and_not_rule nodes (fact.Rel x y d ∷ fact.Nzr z ∷ []) slot.Void =
    given_if (are_known nodes x y && is_same z y) (void_of d)
both_zero_and_not_rule nodes _ _ = None
