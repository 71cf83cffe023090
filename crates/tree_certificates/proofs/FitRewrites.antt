-- What rules give can be written as steps.
use Rattle.std.specs.Prelude.{length, ◌&&◌, nat_lt, [], ◌∷◌, Some, ◌≡◌}
use Rattle.std.proofs.Common.{◌∙◌, ap, arith}
use Rattle.fx_model.specs.declared.ExprId.{ExprId}
use Rattle.fx_model.specs.declared.Node.{Node}
use Rattle.fx_model.specs.declared.Node.TheVariants as node
use Rattle.interval.specs.declared.interval.Interval.{Interval}
use Rattle.interval.specs.Results.{negation_of, sum_of, difference_of, product_of}
use Rattle.expr_dag.specs.Shapes.{is_at, are_known}
use Rattle.facts.specs.declared.hint.HintRow.{HintRow}
use Rattle.facts.specs.declared.fact.Fact.{Fact}
use Rattle.facts.specs.declared.fact.Slot.{Slot}
use Rattle.facts.specs.declared.fact.Fact.TheVariants as fact
use Rattle.facts.specs.declared.fact.Slot.TheVariants as slot
use Rattle.facts.specs.Order.{is_same}
use Rattle.rewrite_rules.specs.Differences.{sides_at, are_made, by_sides_rule}
use Rattle.rewrite_rules.specs.Differences.{difference_of_sums_rule, difference_of_differences_rule}
use Rattle.rewrite_rules.specs.Differences.{are_products, difference_of_products_rule}
use Rattle.rewrite_rules.specs.Differences.{are_negations, difference_of_negations_rule, is_through}
use Rattle.rewrite_rules.specs.Differences.{difference_through_rule, is_against}
use Rattle.rewrite_rules.specs.Differences.{difference_against_rule, first_by_difference_rule}
use Rattle.rewrite_rules.specs.Differences.{second_by_difference_rule}
use Rattle.rewrite_rules.specs.Nothing.{zero_and_not_rule, both_zero_and_not_rule}
use Rattle.rewrite_rules.specs.Rewriting.{show_row, rewritten, rewriting_rule}
use Rattle.tree_certificates.proofs.Fitting.{FitsSteps, only_never, given_never, few_by}

by_sides_rule-fits : (make : ExprId → ExprId → Node) (op : Interval → Interval → Interval)
    → FitsSteps (by_sides_rule make op)
by_sides_rule-fits make op nodes (fact.Bnd p i ∷ fact.Bnd q j ∷ []) (slot.Bnd e) f o g = (
  omega arith,
  λ v. absurd (only_never (are_made make nodes (sides_at nodes e) (sides_at nodes p)
      (sides_at nodes q)) (fact.Bnd e (op i j)) (λ w. cc) (g ∙ ap Some v)),
)
by_sides_rule-fits make op nodes _ _ f o g = cc

pub difference_of_sums_rule-fits : FitsSteps difference_of_sums_rule
difference_of_sums_rule-fits = by_sides_rule-fits node.Add sum_of

pub difference_of_differences_rule-fits : FitsSteps difference_of_differences_rule
difference_of_differences_rule-fits = by_sides_rule-fits node.Sub difference_of

pub difference_of_products_rule-fits : FitsSteps difference_of_products_rule
difference_of_products_rule-fits nodes
    (fact.Bnd a i ∷ fact.Bnd q j ∷ fact.Bnd p k ∷ fact.Bnd d l ∷ []) (slot.Bnd e) f o g = (
      omega arith,
      λ v. absurd (only_never (are_products nodes (sides_at nodes e) (sides_at nodes p)
          (sides_at nodes q) a d) (fact.Bnd e (sum_of (product_of i j) (product_of k l)))
          (λ w. cc) (g ∙ ap Some v)),
    )
difference_of_products_rule-fits nodes _ _ f o g = cc

pub difference_of_negations_rule-fits : FitsSteps difference_of_negations_rule
difference_of_negations_rule-fits nodes (fact.Bnd p i ∷ []) (slot.Bnd e) f o g = (
  omega arith,
  λ v. absurd (only_never (are_negations nodes (sides_at nodes e) (sides_at nodes p))
      (fact.Bnd e (negation_of i)) (λ w. cc) (g ∙ ap Some v)),
)
difference_of_negations_rule-fits nodes _ _ f o g = cc

pub difference_through_rule-fits : FitsSteps difference_through_rule
difference_through_rule-fits nodes (fact.Bnd p i ∷ fact.Bnd q j ∷ []) (slot.Bnd e) f o g = (
  omega arith,
  λ v. absurd (only_never (is_through nodes e (sides_at nodes p) (sides_at nodes q))
      (fact.Bnd e (sum_of i j)) (λ w. cc) (g ∙ ap Some v)),
)
difference_through_rule-fits nodes _ _ f o g = cc

pub difference_against_rule-fits : FitsSteps difference_against_rule
difference_against_rule-fits nodes (fact.Bnd p i ∷ fact.Bnd q j ∷ []) (slot.Bnd e) f o g = (
  omega arith,
  λ v. absurd (only_never (is_against nodes e (sides_at nodes p) (sides_at nodes q))
      (fact.Bnd e (difference_of i j)) (λ w. cc) (g ∙ ap Some v)),
)
difference_against_rule-fits nodes _ _ f o g = cc

pub first_by_difference_rule-fits : FitsSteps first_by_difference_rule
first_by_difference_rule-fits nodes (fact.Bnd b i ∷ fact.Bnd p j ∷ []) (slot.Bnd a) f o g = (
  omega arith,
  λ v. absurd (only_never (is_at nodes p (node.Sub a b)) (fact.Bnd a (sum_of i j))
      (λ w. cc) (g ∙ ap Some v)),
)
first_by_difference_rule-fits nodes _ _ f o g = cc

pub second_by_difference_rule-fits : FitsSteps second_by_difference_rule
second_by_difference_rule-fits nodes (fact.Bnd a i ∷ fact.Bnd p j ∷ []) (slot.Bnd b) f o g = (
  omega arith,
  λ v. absurd (only_never (is_at nodes p (node.Sub a b)) (fact.Bnd b (difference_of i j))
      (λ w. cc) (g ∙ ap Some v)),
)
second_by_difference_rule-fits nodes _ _ f o g = cc

pub zero_and_not_rule-fits : FitsSteps zero_and_not_rule
zero_and_not_rule-fits nodes (fact.Bnd x i ∷ fact.Nzr y ∷ []) slot.Void f o q =
    (omega arith, λ v. q ∙ ap Some v)
zero_and_not_rule-fits nodes _ _ f o q = cc

pub both_zero_and_not_rule-fits : FitsSteps both_zero_and_not_rule
both_zero_and_not_rule-fits nodes (fact.Rel x y d ∷ fact.Nzr z ∷ []) slot.Void f o q =
    (omega arith, λ v. q ∙ ap Some v)
both_zero_and_not_rule-fits nodes _ _ f o q = cc

rewritten_never : (a b : ExprId) (p : Fact) (t : Slot) → rewritten a b p t ≡ Some fact.Void → ⊥
rewritten_never a b (fact.Bnd x i) (slot.Bnd e) q =
    only_never (is_same x b && is_same e a) (fact.Bnd e i) (λ w. cc) q
rewritten_never a b (fact.Abs x i) (slot.Abs e) q =
    only_never (is_same x b && is_same e a) (fact.Abs e i) (λ w. cc) q
rewritten_never a b (fact.Fix x k) (slot.Fix e) q =
    only_never (is_same x b && is_same e a) (fact.Fix e k) (λ w. cc) q
rewritten_never a b (fact.Nzr x) (slot.Nzr e) q =
    only_never (is_same x b && is_same e a) (fact.Nzr e) (λ w. cc) q
rewritten_never a b _ _ q = cc

pub rewriting_rule-fits : (row : HintRow) → FitsSteps (rewriting_rule row)
rewriting_rule-fits row nodes [] t f o q = cc
rewriting_rule-fits row nodes (p ∷ ps) t f o q = (
  few_by (length ps) (are_known nodes row.left row.right
      && show_row nodes row.divisors row.needs ps) (rewritten row.left row.right p t) f q,
  λ v.
      let here = q ∙ ap Some v in
      absurd (given_never (nat_lt (length ps) 65535
      && (are_known nodes row.left row.right && show_row nodes row.divisors row.needs ps))
      (rewritten row.left row.right p t) (rewritten_never row.left row.right p t) here),
)
