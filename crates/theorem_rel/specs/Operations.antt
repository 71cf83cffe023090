-- Rules on relative errors of operations, numbers 56 to 61 of the list: each row as a function from
-- premises and a target to its conclusion. What fits no row gives nothing. A conclusion whose lower
-- end isn't above -1 isn't drawn. "Both are 0" is what a REL fact says without an interval.
use Rattle.std.specs.Prelude.{◌&&◌, Bool, false, List, [], ◌∷◌, Option, Some, None, if◌then◌else◌}
use Rattle.std.specs.Prelude.{slice_get}
use Rattle.fx_model.specs.declared.ExprId.{ExprId}
use Rattle.fx_model.specs.declared.Node.{Node}
use Rattle.fx_model.specs.declared.Node.TheVariants as node
use Rattle.interval.specs.declared.interval.Interval.{Interval}
use Rattle.interval.specs.Intervals.{range_of}
use Rattle.interval.specs.Members.{has_one}
use Rattle.interval.specs.Results.{sum_of, difference_of, product_of, quotient_of, has_zero}
use Rattle.expr_dag.specs.Shapes.{is_at, are_known}
use Rattle.facts.specs.declared.relative.RelativeError.{RelativeError}
use Rattle.facts.specs.declared.fact.Fact.{Fact}
use Rattle.facts.specs.declared.fact.Slot.{Slot}
use Rattle.facts.specs.declared.fact.Fact.TheVariants as fact
use Rattle.facts.specs.declared.fact.Slot.TheVariants as slot
use Rattle.facts.specs.Order.{is_same}
use Rattle.facts.specs.Parts.{error_from, error_of_part}
use Rattle.facts.specs.Conclusions.{given_if, only_if}
use Rattle.facts.specs.RelativeConclusions.{rel_of, void_only}
use Rattle.theorem_rel.specs.Values.{unit}

-- ---- products and chains
-- (I + K) + I * K: the t of (1 + i) * (1 + k) = 1 + t
abbrev pub joint : Interval → Interval → Interval
joint i k = sum_of (sum_of i k) (product_of i k)

-- with the errors of both; both sides are 0 where those of one are
abbrev pub joint_fact : ExprId → ExprId → Option RelativeError → Option RelativeError → Option Fact
joint_fact x y (Some i) (Some k) = rel_of x y (error_from (joint i.interval k.interval))
joint_fact x y _ _ = Some (fact.Rel x y None)

-- 56: from REL(a, c, I), REL(b, d, K): REL(a * b, c * d, (I + K) + I * K); both are 0 where those
-- of a premise are (Gappa: `mul_rr`)
abbrev pub relative_product_rule : List Node → List Fact → Slot → Option Fact
relative_product_rule nodes (fact.Rel a c i ∷ fact.Rel b d k ∷ []) (slot.Rel x y) =
    given_if (is_at nodes x (node.Mul a b) && is_at nodes y (node.Mul c d)) (joint_fact x y i k)
relative_product_rule nodes _ _ = None

-- 58: from REL(a, b, I), REL(b, c, K): REL(a, c, (I + K) + I * K); both are 0 where those of a
-- premise are (`compose`)
abbrev pub relative_chain_rule : List Node → List Fact → Slot → Option Fact
relative_chain_rule nodes (fact.Rel a b i ∷ fact.Rel m c k ∷ []) (slot.Rel x y) =
    given_if ((are_known nodes a b && are_known nodes m c)
    && (is_same m b && (is_same a x && is_same c y))) (joint_fact x y i k)
relative_chain_rule nodes _ _ = None

-- ---- quotients
-- Q - [1, 1]
abbrev pub less_one : Option Interval → Option Interval
less_one None = None
less_one (Some q) = Some (difference_of q unit)

-- I / ([1, 1] + K) - [1, 1], where 0 isn't in [1, 1] + K
abbrev pub over_one : Interval → RelativeError → Option Interval
over_one i k = less_one (quotient_of i (sum_of unit k.interval))

-- with the errors of dividends and divisors, which aren't 0; both sides are 0 where the dividends
-- are
abbrev pub ratio_fact : ExprId → ExprId → Option RelativeError → Option RelativeError → Option Fact
ratio_fact x y i None = Some fact.Void
ratio_fact x y None (Some k) = Some (fact.Rel x y None)
ratio_fact x y (Some i) (Some k) = rel_of x y (error_of_part (over_one (sum_of unit i.interval) k))

-- 57: from REL(a, c, I), REL(b, d, K), NZR(d): REL(a / b, c / d, ([1, 1] + I) / ([1, 1] + K) - [1,
-- 1]), where 0 isn't in [1, 1] + K; VOID where b and d are both 0, else both are 0 where a and c
-- are (`div_rr`)
abbrev pub relative_quotient_rule : List Node → List Fact → Slot → Option Fact
relative_quotient_rule nodes (fact.Rel a c i ∷ fact.Rel b d k ∷ fact.Nzr z ∷ []) (slot.Rel x y) =
    given_if ((is_at nodes x (node.Div a b) && is_at nodes y (node.Div c d)) && is_same z d)
    (ratio_fact x y i k)
relative_quotient_rule nodes (fact.Rel a c i ∷ fact.Rel b d k ∷ fact.Nzr z ∷ []) slot.Void =
    given_if ((are_known nodes a c && are_known nodes b d) && is_same z d)
    (void_only (ratio_fact a c i k))
relative_quotient_rule nodes _ _ = None

-- the other way round
abbrev pub turned_fact : ExprId → ExprId → Option RelativeError → Option Fact
turned_fact x y None = Some (fact.Rel x y None)
turned_fact x y (Some i) = rel_of x y (error_of_part (over_one unit i))

-- 59: from REL(x, y, I): REL(y, x, [1, 1] / ([1, 1] + I) - [1, 1]), where 0 isn't in [1, 1] + I;
-- both are 0 where they are
abbrev pub relative_turned_rule : List Node → List Fact → Slot → Option Fact
relative_turned_rule nodes (fact.Rel x y i ∷ []) (slot.Rel z w) =
    given_if (are_known nodes x y && (is_same y z && is_same x w)) (turned_fact z w i)
relative_turned_rule nodes _ _ = None

-- ---- negations
-- 60: from REL(a, b, I): REL(-a, -b, I); both are 0 where they are
abbrev pub relative_negation_rule : List Node → List Fact → Slot → Option Fact
relative_negation_rule nodes (fact.Rel a b i ∷ []) (slot.Rel x y) =
    only_if (is_at nodes x (node.Neg a) && is_at nodes y (node.Neg b)) (fact.Rel x y i)
relative_negation_rule nodes _ _ = None

-- ---- sums
-- I * L + K * ([1, 1] - L)
abbrev pub weighted : Interval → Interval → Interval → Interval
weighted i k l = sum_of (product_of i l) (product_of k (difference_of unit l))

-- the REL fact, or VOID
abbrev pub rel_or_void : Bool → ExprId → ExprId → RelativeError → Fact
rel_or_void b x y e = if b then fact.Rel x y (Some e) else fact.Void

-- with the errors of both and the first's share in L; where one's sides are both 0, with that of
-- the other
abbrev pub sum_fact : ExprId → ExprId → Option RelativeError → Option RelativeError
    → Interval → Option Fact
sum_fact x y (Some i) (Some k) l = rel_of x y (error_from (weighted i.interval k.interval l))
sum_fact x y None (Some k) l = Some (rel_or_void (has_zero (range_of l)) x y k)
sum_fact x y (Some i) None l = Some (rel_or_void (has_one (range_of l)) x y i)
sum_fact x y None None l = Some fact.Void

-- the node is c / (c + d)
abbrev pub is_share : List Node → Option Node → ExprId → ExprId → Bool
is_share nodes (Some (node.Div n m)) c d = is_same n c && is_at nodes m (node.Add c d)
is_share nodes _ c d = false

-- 61: from REL(a, c, I), REL(b, d, K), BND(c / (c + d), L): REL(a + b, c + d, I * L + K * ([1, 1] -
-- L)). Where a and c alone are both 0: REL with K if 0 is in L, else VOID. Where b and d alone are:
-- REL with I if 1 is in L, else VOID. VOID where all are (`add_rr`)
abbrev pub relative_sum_rule : List Node → List Fact → Slot → Option Fact
relative_sum_rule nodes (fact.Rel a c i ∷ fact.Rel b d k ∷ fact.Bnd q l ∷ []) (slot.Rel x y) =
    given_if ((is_at nodes x (node.Add a b) && is_at nodes y (node.Add c d))
    && is_at nodes q (node.Div c y)) (sum_fact x y i k l)
relative_sum_rule nodes (fact.Rel a c i ∷ fact.Rel b d k ∷ fact.Bnd q l ∷ []) slot.Void =
    given_if ((are_known nodes a c && are_known nodes b d)
    && is_share nodes (slice_get nodes q.0) c d) (void_only (sum_fact a c i k l))
relative_sum_rule nodes _ _ = None
