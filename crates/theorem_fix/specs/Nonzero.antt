-- Rules on values other than 0, numbers 31 to 36 of the list: each row as a function from premises
-- and a target to its conclusion. What fits no row gives nothing.
use Rattle.std.specs.Prelude.{◌&&◌, ◌||◌, not, Bool, List, [], ◌∷◌, Option, Some, None}
use Rattle.fx_model.specs.Fraction.{zero_ℚ}
use Rattle.fx_model.specs.declared.ExprId.{ExprId}
use Rattle.fx_model.specs.declared.Node.{Node}
use Rattle.fx_model.specs.declared.Node.TheVariants as node
use Rattle.interval.specs.Intervals.{range_of}
use Rattle.interval.specs.Results.{has_zero}
use Rattle.expr_dag.specs.Shapes.{is_at, are_known}
use Rattle.facts.specs.declared.relative.RelativeError.{RelativeError}
use Rattle.facts.specs.declared.fact.Fact.{Fact}
use Rattle.facts.specs.declared.fact.Slot.{Slot}
use Rattle.facts.specs.declared.fact.Fact.TheVariants as fact
use Rattle.facts.specs.declared.fact.Slot.TheVariants as slot
use Rattle.facts.specs.Order.{is_same}
use Rattle.facts.specs.Ranges.{is_below}
use Rattle.facts.specs.Conclusions.{given_if, only_if}
use Rattle.facts.specs.RelativeConclusions.{void_only}
use Rattle.theorem_arith.specs.Shapes.{is_one}

-- 31: from BND(x, I), where 0 isn't in I: NZR(x)   (Gappa: `nzr_of_bnd`)
abbrev pub nonzero_bound_rule : List Node → List Fact → Slot → Option Fact
nonzero_bound_rule nodes (fact.Bnd x i ∷ []) (slot.Nzr e) =
    only_if (is_one nodes x e && not (has_zero (range_of i))) (fact.Nzr e)
nonzero_bound_rule nodes _ _ = None

-- 32: from ABS(x, I), the lower end above 0: NZR(x)   (`nzr_of_abs`)
abbrev pub nonzero_size_rule : List Node → List Fact → Slot → Option Fact
nonzero_size_rule nodes (fact.Abs x s ∷ []) (slot.Nzr e) =
    only_if (is_one nodes x e && is_below zero_ℚ (range_of s.interval).low) (fact.Nzr e)
nonzero_size_rule nodes _ _ = None

-- from NZR(a), NZR(b): NZR of what `make` makes of a and b
abbrev pub nonzero_binary_rule : (ExprId → ExprId → Node) → List Node
    → List Fact → Slot → Option Fact
nonzero_binary_rule make nodes (fact.Nzr a ∷ fact.Nzr b ∷ []) (slot.Nzr e) =
    only_if (is_at nodes e (make a b)) (fact.Nzr e)
nonzero_binary_rule make nodes _ _ = None

-- 33: NZR(a * b)   (`mul_nzr`)
abbrev pub nonzero_product_rule : List Node → List Fact → Slot → Option Fact
nonzero_product_rule = nonzero_binary_rule node.Mul

-- 34: NZR(a / b)   (`div_nzr`)
abbrev pub nonzero_quotient_rule : List Node → List Fact → Slot → Option Fact
nonzero_quotient_rule = nonzero_binary_rule node.Div

-- 35: from NZR(a): NZR(-a)   (`neg_nzr`)
abbrev pub nonzero_negation_rule : List Node → List Fact → Slot → Option Fact
nonzero_negation_rule nodes (fact.Nzr a ∷ []) (slot.Nzr e) =
    only_if (is_at nodes e (node.Neg a)) (fact.Nzr e)
nonzero_negation_rule nodes _ _ = None

-- z is one of x and y, and e the other
abbrev pub are_sides : ExprId → ExprId → ExprId → ExprId → Bool
are_sides x y z e = (is_same z x && is_same e y) || (is_same z y && is_same e x)

-- NZR where there is a relative error; VOID where both are 0
abbrev pub nonzero_or_void : ExprId → Option RelativeError → Fact
nonzero_or_void e (Some d) = fact.Nzr e
nonzero_or_void e None = fact.Void

-- 36: from REL(x, y, I), NZR of one of x, y: NZR of the other; VOID where I is `none`
-- (`nzr_of_nzr_rel`, `nzr_of_nzr_rel_rev`)
abbrev pub nonzero_side_rule : List Node → List Fact → Slot → Option Fact
nonzero_side_rule nodes (fact.Rel x y d ∷ fact.Nzr z ∷ []) (slot.Nzr e) =
    only_if (are_known nodes x y && are_sides x y z e) (nonzero_or_void e d)
nonzero_side_rule nodes (fact.Rel x y d ∷ fact.Nzr z ∷ []) slot.Void = given_if
    (are_known nodes x y && (is_same z x || is_same z y)) (void_only (Some (nonzero_or_void z d)))
nonzero_side_rule nodes _ _ = None
