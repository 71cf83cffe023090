-- What a rule gives stands on its target, or is VOID.
use Rattle.std.specs.Prelude.{◌≡◌, ◌⊎◌, ◌&&◌, Bool, true, false, [], ◌∷◌, Option, Some, None}
use Rattle.std.specs.Prelude.{if◌then◌else◌, slice_get, refl}
use Rattle.std.proofs.Common.{inl, inr}
use Rattle.fx_model.specs.Fraction.{zero_ℚ}
use Rattle.fx_model.specs.declared.ExprId.{ExprId}
use Rattle.fx_model.specs.declared.Node.TheVariants as node
use Rattle.interval.specs.declared.interval.Interval.{Interval}
use Rattle.interval.specs.Intervals.{range_of}
use Rattle.interval.specs.Results.{sum_of, quotient_of, point_of, has_zero}
use Rattle.interval.specs.Members.{has_one}
use Rattle.expr_dag.specs.Shapes.{is_at, is_known, are_known}
use Rattle.facts.specs.declared.relative.RelativeError.{RelativeError}
use Rattle.facts.specs.declared.fact.Fact.{Fact}
use Rattle.facts.specs.declared.fact.Slot.{Slot}
use Rattle.facts.specs.declared.fact.Fact.TheVariants as fact
use Rattle.facts.specs.declared.fact.Slot.TheVariants as slot
use Rattle.facts.specs.Order.{slot_of, is_same}
use Rattle.facts.specs.Parts.{error_from, error_of_part}
use Rattle.facts.specs.Promises.{IsOnTarget}
use Rattle.facts.proofs.Conclusions.{StandsOn, fact_stands, given_stands, only_stands}
use Rattle.facts.specs.RelativeConclusions.{rel_of, void_only}
use Rattle.facts.proofs.RelativeConclusions.{rel_stands, void_only_stands}
use Rattle.theorem_rel.specs.Values.{unit, relative_to_itself_rule, relative_difference_rule}
use Rattle.theorem_rel.specs.Values.{zero_or_void, difference_fact, difference_by_error_rule}
use Rattle.theorem_rel.specs.Values.{value_fact, value_by_error_rule, quotient_fact}
use Rattle.theorem_rel.specs.Values.{quotient_by_error_rule}
use Rattle.theorem_rel.specs.Operations.{joint, joint_fact, relative_product_rule}
use Rattle.theorem_rel.specs.Operations.{relative_chain_rule, over_one, ratio_fact}
use Rattle.theorem_rel.specs.Operations.{relative_quotient_rule, turned_fact, relative_turned_rule}
use Rattle.theorem_rel.specs.Operations.{relative_negation_rule, weighted, rel_or_void, sum_fact}
use Rattle.theorem_rel.specs.Operations.{is_share, relative_sum_rule}

-- the fact stands on the slot, or is VOID
abbrev Stands : Slot → Fact → Type 0
Stands t g = (slot_of g ≡ t) ⊎ (g ≡ fact.Void)

-- ---- from bounds and back
pub relative_to_itself_rule-target : IsOnTarget relative_to_itself_rule
relative_to_itself_rule-target nodes (fact.Bnd x i ∷ []) (slot.Rel y z) f q =
    given_stands (slot.Rel y z) (is_known nodes x && (is_same x y && is_same x z))
    (rel_of y z (error_from (point_of zero_ℚ))) (rel_stands y z (error_from (point_of zero_ℚ))) f q
relative_to_itself_rule-target nodes _ _ f q = cc

pub relative_difference_rule-target : IsOnTarget relative_difference_rule
relative_difference_rule-target nodes (fact.Bnd p i ∷ fact.Bnd z j ∷ []) (slot.Rel x y) f q =
    given_stands (slot.Rel x y) (is_at nodes p (node.Sub x y) && is_same z y) (rel_of x y
    (error_of_part (quotient_of i j))) (rel_stands x y (error_of_part (quotient_of i j))) f q
relative_difference_rule-target nodes _ _ f q = cc

zero_or_void_stands : (e : ExprId) (j : Interval) → Stands (slot.Bnd e) (zero_or_void e j)
zero_or_void_stands e j = by_test (has_zero (range_of j))
  where
    by_test : (b : Bool)
        → Stands (slot.Bnd e) (if b then fact.Bnd e (point_of zero_ℚ) else fact.Void)
    by_test true = inl refl
    by_test false = inr refl

difference_stands : (e : ExprId) (d : Option RelativeError) (j : Interval)
    → Stands (slot.Bnd e) (difference_fact e d j)
difference_stands e None j = zero_or_void_stands e j
difference_stands e (Some d) j = inl refl

pub difference_by_error_rule-target : IsOnTarget difference_by_error_rule
difference_by_error_rule-target nodes (fact.Rel x y d ∷ fact.Bnd z j ∷ []) (slot.Bnd e) f q =
    only_stands (slot.Bnd e) (is_at nodes e (node.Sub x y) && is_same z y) (difference_fact e d j)
    (difference_stands e d j) f q
difference_by_error_rule-target nodes (fact.Rel x y d ∷ fact.Bnd z j ∷ []) slot.Void f q =
    given_stands slot.Void (are_known nodes x y && is_same z y)
    (void_only (Some (difference_fact x d j))) (void_only_stands (Some (difference_fact x d j))) f q
difference_by_error_rule-target nodes _ _ f q = cc

value_stands : (e : ExprId) (d : Option RelativeError) (j : Interval)
    → Stands (slot.Bnd e) (value_fact e d j)
value_stands e None j = zero_or_void_stands e j
value_stands e (Some d) j = inl refl

pub value_by_error_rule-target : IsOnTarget value_by_error_rule
value_by_error_rule-target nodes (fact.Rel x y d ∷ fact.Bnd z j ∷ []) (slot.Bnd e) f q =
    only_stands (slot.Bnd e) (are_known nodes x y && (is_same z y && is_same x e))
    (value_fact e d j) (value_stands e d j) f q
value_by_error_rule-target nodes (fact.Rel x y d ∷ fact.Bnd z j ∷ []) slot.Void f q =
    given_stands slot.Void (are_known nodes x y && is_same z y)
    (void_only (Some (value_fact x d j))) (void_only_stands (Some (value_fact x d j))) f q
value_by_error_rule-target nodes _ _ f q = cc

quotient_stands : (e : ExprId) (d : Option RelativeError) → Stands (slot.Bnd e) (quotient_fact e d)
quotient_stands e None = inr refl
quotient_stands e (Some d) = inl refl

pub quotient_by_error_rule-target : IsOnTarget quotient_by_error_rule
quotient_by_error_rule-target nodes (fact.Rel x y d ∷ fact.Nzr z ∷ []) (slot.Bnd e) f q =
    only_stands (slot.Bnd e) (is_at nodes e (node.Div x y) && is_same z y) (quotient_fact e d)
    (quotient_stands e d) f q
quotient_by_error_rule-target nodes (fact.Rel x y d ∷ fact.Nzr z ∷ []) slot.Void f q =
    given_stands slot.Void (are_known nodes x y && is_same z y)
    (void_only (Some (quotient_fact x d))) (void_only_stands (Some (quotient_fact x d))) f q
quotient_by_error_rule-target nodes _ _ f q = cc

-- ---- operations
joint_stands : (x y : ExprId) (i k : Option RelativeError)
    → StandsOn (slot.Rel x y) (joint_fact x y i k)
joint_stands x y (Some i) (Some k) f q =
    rel_stands x y (error_from (joint i.interval k.interval)) f q
joint_stands x y (Some i) None f q = fact_stands (slot.Rel x y) (fact.Rel x y None) (inl refl) f q
joint_stands x y None k f q = fact_stands (slot.Rel x y) (fact.Rel x y None) (inl refl) f q

pub relative_product_rule-target : IsOnTarget relative_product_rule
relative_product_rule-target nodes (fact.Rel a c i ∷ fact.Rel b d k ∷ []) (slot.Rel x y) f q =
    given_stands (slot.Rel x y) (is_at nodes x (node.Mul a b) && is_at nodes y (node.Mul c d))
    (joint_fact x y i k) (joint_stands x y i k) f q
relative_product_rule-target nodes _ _ f q = cc

pub relative_chain_rule-target : IsOnTarget relative_chain_rule
relative_chain_rule-target nodes (fact.Rel a b i ∷ fact.Rel m c k ∷ []) (slot.Rel x y) f q =
    given_stands (slot.Rel x y)
    ((are_known nodes a b && are_known nodes m c) && (is_same m b && (is_same a x && is_same c y)))
    (joint_fact x y i k) (joint_stands x y i k) f q
relative_chain_rule-target nodes _ _ f q = cc

ratio_stands : (x y : ExprId) (i k : Option RelativeError)
    → StandsOn (slot.Rel x y) (ratio_fact x y i k)
ratio_stands x y i None f q = fact_stands (slot.Rel x y) fact.Void (inr refl) f q
ratio_stands x y None (Some k) f q = fact_stands (slot.Rel x y) (fact.Rel x y None) (inl refl) f q
ratio_stands x y (Some i) (Some k) f q =
    rel_stands x y (error_of_part (over_one (sum_of unit i.interval) k)) f q

pub relative_quotient_rule-target : IsOnTarget relative_quotient_rule
relative_quotient_rule-target nodes
    (fact.Rel a c i ∷ fact.Rel b d k ∷ fact.Nzr z ∷ []) (slot.Rel x y) f q =
    given_stands (slot.Rel x y) ((is_at nodes x (node.Div a b) && is_at nodes y (node.Div c d))
    && is_same z d) (ratio_fact x y i k) (ratio_stands x y i k) f q
relative_quotient_rule-target nodes
    (fact.Rel a c i ∷ fact.Rel b d k ∷ fact.Nzr z ∷ []) slot.Void f q =
    given_stands slot.Void ((are_known nodes a c && are_known nodes b d) && is_same z d)
    (void_only (ratio_fact a c i k)) (void_only_stands (ratio_fact a c i k)) f q
relative_quotient_rule-target nodes _ _ f q = cc

turned_stands : (x y : ExprId) (i : Option RelativeError)
    → StandsOn (slot.Rel x y) (turned_fact x y i)
turned_stands x y None f q = fact_stands (slot.Rel x y) (fact.Rel x y None) (inl refl) f q
turned_stands x y (Some i) f q = rel_stands x y (error_of_part (over_one unit i)) f q

pub relative_turned_rule-target : IsOnTarget relative_turned_rule
relative_turned_rule-target nodes (fact.Rel x y i ∷ []) (slot.Rel z w) f q =
    given_stands (slot.Rel z w) (are_known nodes x y && (is_same y z && is_same x w))
    (turned_fact z w i) (turned_stands z w i) f q
relative_turned_rule-target nodes _ _ f q = cc

pub relative_negation_rule-target : IsOnTarget relative_negation_rule
relative_negation_rule-target nodes (fact.Rel a b i ∷ []) (slot.Rel x y) f q =
    only_stands (slot.Rel x y) (is_at nodes x (node.Neg a) && is_at nodes y (node.Neg b))
    (fact.Rel x y i) (inl refl) f q
relative_negation_rule-target nodes _ _ f q = cc

rel_or_void_stands : (b : Bool) (x y : ExprId) (e : RelativeError)
    → Stands (slot.Rel x y) (rel_or_void b x y e)
rel_or_void_stands true x y e = inl refl
rel_or_void_stands false x y e = inr refl

sum_stands : (x y : ExprId) (i k : Option RelativeError) (l : Interval)
    → StandsOn (slot.Rel x y) (sum_fact x y i k l)
sum_stands x y None None l f q = fact_stands (slot.Rel x y) fact.Void (inr refl) f q
sum_stands x y None (Some k) l f q =
    fact_stands (slot.Rel x y) (rel_or_void (has_zero (range_of l)) x y k)
    (rel_or_void_stands (has_zero (range_of l)) x y k) f q
sum_stands x y (Some i) None l f q = fact_stands (slot.Rel x y)
    (rel_or_void (has_one (range_of l)) x y i) (rel_or_void_stands (has_one (range_of l)) x y i) f q
sum_stands x y (Some i) (Some k) l f q =
    rel_stands x y (error_from (weighted i.interval k.interval l)) f q

pub relative_sum_rule-target : IsOnTarget relative_sum_rule
relative_sum_rule-target nodes
    (fact.Rel a c i ∷ fact.Rel b d k ∷ fact.Bnd q l ∷ []) (slot.Rel x y) f e =
    given_stands (slot.Rel x y) ((is_at nodes x (node.Add a b) && is_at nodes y (node.Add c d))
    && is_at nodes q (node.Div c y)) (sum_fact x y i k l) (sum_stands x y i k l) f e
relative_sum_rule-target nodes (fact.Rel a c i ∷ fact.Rel b d k ∷ fact.Bnd q l ∷ []) slot.Void f e =
    given_stands slot.Void ((are_known nodes a c && are_known nodes b d)
    && is_share nodes (slice_get nodes q.0) c d) (void_only (sum_fact a c i k l))
    (void_only_stands (sum_fact a c i k l)) f e
relative_sum_rule-target nodes _ _ f e = cc
