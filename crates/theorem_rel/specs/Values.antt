-- Rules from bounds to relative errors and back, numbers 51 to 55 of the list: each row as a
-- function from premises and a target to its conclusion. What fits no row gives nothing. "Both are
-- 0" is what a REL fact says without an interval.
use Rattle.std.specs.Prelude.{◌&&◌, List, [], ◌∷◌, Option, Some, None, if◌then◌else◌}
use Rattle.fx_model.specs.Fraction.{zero_ℚ, one_ℚ}
use Rattle.fx_model.specs.declared.ExprId.{ExprId}
use Rattle.fx_model.specs.declared.Node.{Node}
use Rattle.fx_model.specs.declared.Node.TheVariants as node
use Rattle.interval.specs.declared.interval.Interval.{Interval}
use Rattle.interval.specs.Intervals.{range_of}
use Rattle.interval.specs.Results.{sum_of, product_of, quotient_of, point_of, has_zero}
use Rattle.expr_dag.specs.Shapes.{is_at, is_known, are_known}
use Rattle.facts.specs.declared.relative.RelativeError.{RelativeError}
use Rattle.facts.specs.declared.fact.Fact.{Fact}
use Rattle.facts.specs.declared.fact.Slot.{Slot}
use Rattle.facts.specs.declared.fact.Fact.TheVariants as fact
use Rattle.facts.specs.declared.fact.Slot.TheVariants as slot
use Rattle.facts.specs.Order.{is_same}
use Rattle.facts.specs.Parts.{error_from, error_of_part}
use Rattle.facts.specs.Conclusions.{given_if, only_if}
use Rattle.facts.specs.RelativeConclusions.{rel_of, void_only}

-- [1, 1]
abbrev pub unit : Interval
unit = point_of one_ℚ

-- ---- rules
-- 51: from BND(x): REL(x, x, [0, 0])   (Gappa: `rel_refl`)
abbrev pub relative_to_itself_rule : List Node → List Fact → Slot → Option Fact
relative_to_itself_rule nodes (fact.Bnd x i ∷ []) (slot.Rel y z) = given_if
    (is_known nodes x && (is_same x y && is_same x z)) (rel_of y z (error_from (point_of zero_ℚ)))
relative_to_itself_rule nodes _ _ = None

-- 52: from BND(x - y, I), BND(y, J), where 0 isn't in J: REL(x, y, I / J)
abbrev pub relative_difference_rule : List Node → List Fact → Slot → Option Fact
relative_difference_rule nodes (fact.Bnd p i ∷ fact.Bnd z j ∷ []) (slot.Rel x y) = given_if
    (is_at nodes p (node.Sub x y) && is_same z y) (rel_of x y (error_of_part (quotient_of i j)))
relative_difference_rule nodes _ _ = None

-- 0 where y, in J, is 0: BND of [0, 0], or VOID where 0 isn't in J
abbrev pub zero_or_void : ExprId → Interval → Fact
zero_or_void e j = if has_zero (range_of j) then fact.Bnd e (point_of zero_ℚ) else fact.Void

-- x - y, for y in J
abbrev pub difference_fact : ExprId → Option RelativeError → Interval → Fact
difference_fact e None j = zero_or_void e j
difference_fact e (Some d) j = fact.Bnd e (product_of j d.interval)

-- 53: from REL(x, y, I), BND(y, J): BND(x - y, J * I); where both are 0: BND(x - y, [0, 0]), or
-- VOID where 0 isn't in J
abbrev pub difference_by_error_rule : List Node → List Fact → Slot → Option Fact
difference_by_error_rule nodes (fact.Rel x y d ∷ fact.Bnd z j ∷ []) (slot.Bnd e) =
    only_if (is_at nodes e (node.Sub x y) && is_same z y) (difference_fact e d j)
difference_by_error_rule nodes (fact.Rel x y d ∷ fact.Bnd z j ∷ []) slot.Void =
    given_if (are_known nodes x y && is_same z y) (void_only (Some (difference_fact x d j)))
difference_by_error_rule nodes _ _ = None

-- x, for y in J
abbrev pub value_fact : ExprId → Option RelativeError → Interval → Fact
value_fact e None j = zero_or_void e j
value_fact e (Some d) j = fact.Bnd e (product_of j (sum_of unit d.interval))

-- 54: from REL(x, y, I), BND(y, J): BND(x, J * ([1, 1] + I)); where both are 0: BND(x, [0, 0]), or
-- VOID where 0 isn't in J
abbrev pub value_by_error_rule : List Node → List Fact → Slot → Option Fact
value_by_error_rule nodes (fact.Rel x y d ∷ fact.Bnd z j ∷ []) (slot.Bnd e) =
    only_if (are_known nodes x y && (is_same z y && is_same x e)) (value_fact e d j)
value_by_error_rule nodes (fact.Rel x y d ∷ fact.Bnd z j ∷ []) slot.Void =
    given_if (are_known nodes x y && is_same z y) (void_only (Some (value_fact x d j)))
value_by_error_rule nodes _ _ = None

-- x / y, for y other than 0
abbrev pub quotient_fact : ExprId → Option RelativeError → Fact
quotient_fact e None = fact.Void
quotient_fact e (Some d) = fact.Bnd e (sum_of unit d.interval)

-- 55: from REL(x, y, I), NZR(y): BND(x / y, [1, 1] + I); VOID where both are 0
abbrev pub quotient_by_error_rule : List Node → List Fact → Slot → Option Fact
quotient_by_error_rule nodes (fact.Rel x y d ∷ fact.Nzr z ∷ []) (slot.Bnd e) =
    only_if (is_at nodes e (node.Div x y) && is_same z y) (quotient_fact e d)
quotient_by_error_rule nodes (fact.Rel x y d ∷ fact.Nzr z ∷ []) slot.Void =
    given_if (are_known nodes x y && is_same z y) (void_only (Some (quotient_fact x d)))
quotient_by_error_rule nodes _ _ = None
