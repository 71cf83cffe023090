-- What a rule gives stands on its target, or is VOID.
use Rattle.std.specs.Prelude.{◌&&◌, nat_lt, length, [], ◌∷◌, Option, Some, None, refl}
use Rattle.std.proofs.Common.{inl, inr}
use Rattle.fx_model.specs.declared.ExprId.{ExprId}
use Rattle.fx_model.specs.declared.Node.{Node}
use Rattle.fx_model.specs.declared.Node.TheVariants as node
use Rattle.interval.specs.declared.interval.Interval.{Interval}
use Rattle.interval.specs.Intervals.{range_of}
use Rattle.interval.specs.Results.{negation_of, sum_of, difference_of, product_of}
use Rattle.expr_dag.specs.Shapes.{is_at, is_known, are_known}
use Rattle.facts.specs.declared.hint.HintRow.{HintRow}
use Rattle.facts.specs.declared.relative.RelativeError.{RelativeError}
use Rattle.facts.specs.declared.fact.Fact.{Fact}
use Rattle.facts.specs.declared.fact.Slot.{Slot}
use Rattle.facts.specs.declared.fact.Fact.TheVariants as fact
use Rattle.facts.specs.declared.fact.Slot.TheVariants as slot
use Rattle.facts.specs.Order.{is_same}
use Rattle.facts.specs.Promises.{IsOnTarget}
use Rattle.facts.proofs.Conclusions.{StandsOn, fact_stands, given_stands, only_stands}
use Rattle.rewrite_rules.specs.Differences.{sides_at, are_made, by_sides_rule}
use Rattle.rewrite_rules.specs.Differences.{difference_of_sums_rule, difference_of_differences_rule}
use Rattle.rewrite_rules.specs.Differences.{are_products, difference_of_products_rule}
use Rattle.rewrite_rules.specs.Differences.{are_negations, difference_of_negations_rule, is_through}
use Rattle.rewrite_rules.specs.Differences.{difference_through_rule, is_against}
use Rattle.rewrite_rules.specs.Differences.{difference_against_rule, first_by_difference_rule}
use Rattle.rewrite_rules.specs.Differences.{second_by_difference_rule}
use Rattle.rewrite_rules.specs.Nothing.{is_zero, zero_and_not_rule, void_of, both_zero_and_not_rule}
use Rattle.rewrite_rules.specs.Rewriting.{show_row, rewritten, rewriting_rule}

by_sides_rule-target : (make : ExprId → ExprId → Node) (op : Interval → Interval → Interval)
    → IsOnTarget (by_sides_rule make op)
by_sides_rule-target make op nodes (fact.Bnd p i ∷ fact.Bnd q j ∷ []) (slot.Bnd e) f g =
    only_stands (slot.Bnd e) (are_made make nodes (sides_at nodes e) (sides_at nodes p)
    (sides_at nodes q)) (fact.Bnd e (op i j)) (inl refl) f g
by_sides_rule-target make op nodes _ _ f g = cc

pub difference_of_sums_rule-target : IsOnTarget difference_of_sums_rule
difference_of_sums_rule-target = by_sides_rule-target node.Add sum_of

pub difference_of_differences_rule-target : IsOnTarget difference_of_differences_rule
difference_of_differences_rule-target = by_sides_rule-target node.Sub difference_of

pub difference_of_products_rule-target : IsOnTarget difference_of_products_rule
difference_of_products_rule-target nodes
    (fact.Bnd a i ∷ fact.Bnd q j ∷ fact.Bnd p k ∷ fact.Bnd d l ∷ []) (slot.Bnd e) f g =
    only_stands (slot.Bnd e) (are_products nodes (sides_at nodes e) (sides_at nodes p)
    (sides_at nodes q) a d) (fact.Bnd e (sum_of (product_of i j) (product_of k l))) (inl refl) f g
difference_of_products_rule-target nodes _ _ f g = cc

pub difference_of_negations_rule-target : IsOnTarget difference_of_negations_rule
difference_of_negations_rule-target nodes (fact.Bnd p i ∷ []) (slot.Bnd e) f g =
    only_stands (slot.Bnd e) (are_negations nodes (sides_at nodes e) (sides_at nodes p))
    (fact.Bnd e (negation_of i)) (inl refl) f g
difference_of_negations_rule-target nodes _ _ f g = cc

pub difference_through_rule-target : IsOnTarget difference_through_rule
difference_through_rule-target nodes (fact.Bnd p i ∷ fact.Bnd q j ∷ []) (slot.Bnd e) f g =
    only_stands (slot.Bnd e) (is_through nodes e (sides_at nodes p) (sides_at nodes q))
    (fact.Bnd e (sum_of i j)) (inl refl) f g
difference_through_rule-target nodes _ _ f g = cc

pub difference_against_rule-target : IsOnTarget difference_against_rule
difference_against_rule-target nodes (fact.Bnd p i ∷ fact.Bnd q j ∷ []) (slot.Bnd e) f g =
    only_stands (slot.Bnd e) (is_against nodes e (sides_at nodes p) (sides_at nodes q))
    (fact.Bnd e (difference_of i j)) (inl refl) f g
difference_against_rule-target nodes _ _ f g = cc

pub first_by_difference_rule-target : IsOnTarget first_by_difference_rule
first_by_difference_rule-target nodes (fact.Bnd b i ∷ fact.Bnd p j ∷ []) (slot.Bnd a) f g =
    only_stands (slot.Bnd a) (is_at nodes p (node.Sub a b)) (fact.Bnd a (sum_of i j)) (inl refl) f g
first_by_difference_rule-target nodes _ _ f g = cc

pub second_by_difference_rule-target : IsOnTarget second_by_difference_rule
second_by_difference_rule-target nodes (fact.Bnd a i ∷ fact.Bnd p j ∷ []) (slot.Bnd b) f g =
    only_stands (slot.Bnd b) (is_at nodes p (node.Sub a b))
    (fact.Bnd b (difference_of i j)) (inl refl) f g
second_by_difference_rule-target nodes _ _ f g = cc

-- ---- VOID
pub zero_and_not_rule-target : IsOnTarget zero_and_not_rule
zero_and_not_rule-target nodes (fact.Bnd x i ∷ fact.Nzr y ∷ []) slot.Void f g = only_stands
    slot.Void (is_known nodes x && (is_same x y && is_zero (range_of i))) fact.Void (inr refl) f g
zero_and_not_rule-target nodes _ _ f g = cc

void_stands : (d : Option RelativeError) → StandsOn slot.Void (void_of d)
void_stands (Some d) f e = cc
void_stands None f e = fact_stands slot.Void fact.Void (inr refl) f e

pub both_zero_and_not_rule-target : IsOnTarget both_zero_and_not_rule
both_zero_and_not_rule-target nodes (fact.Rel x y d ∷ fact.Nzr z ∷ []) slot.Void f g =
    given_stands slot.Void (are_known nodes x y && is_same z y) (void_of d) (void_stands d) f g
both_zero_and_not_rule-target nodes _ _ f g = cc

-- ---- hints
rewritten_stands : (a b : ExprId) (p : Fact) (t : Slot) → StandsOn t (rewritten a b p t)
rewritten_stands a b (fact.Bnd x i) (slot.Bnd e) f g =
    only_stands (slot.Bnd e) (is_same x b && is_same e a) (fact.Bnd e i) (inl refl) f g
rewritten_stands a b (fact.Abs x i) (slot.Abs e) f g =
    only_stands (slot.Abs e) (is_same x b && is_same e a) (fact.Abs e i) (inl refl) f g
rewritten_stands a b (fact.Fix x k) (slot.Fix e) f g =
    only_stands (slot.Fix e) (is_same x b && is_same e a) (fact.Fix e k) (inl refl) f g
rewritten_stands a b (fact.Nzr x) (slot.Nzr e) f g =
    only_stands (slot.Nzr e) (is_same x b && is_same e a) (fact.Nzr e) (inl refl) f g
rewritten_stands a b _ _ f g = cc

pub rewriting_rule-target : (row : HintRow) → IsOnTarget (rewriting_rule row)
rewriting_rule-target row nodes [] t f g = cc
rewriting_rule-target row nodes (p ∷ ps) t f g =
    given_stands t (nat_lt (length ps) 65535
    && (are_known nodes row.left row.right && show_row nodes row.divisors row.needs ps))
    (rewritten row.left row.right p t) (rewritten_stands row.left row.right p t) f g
