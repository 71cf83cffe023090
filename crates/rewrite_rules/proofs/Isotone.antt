-- The rules on differences, and those that find nothing left: from stronger premises they give a
-- fact as strong, or stronger.
use Rattle.std.specs.Prelude.{◌≡◌, ◌&&◌, true, [], ◌∷◌, Option, Some, None, refl}
use Rattle.std.proofs.Common.{sym, subst}
use Rattle.std.proofs.lemmas.Bool.{and_parts}
use Rattle.fx_model.specs.Fraction.{zero_ℚ}
use Rattle.fx_model.specs.Grid.{At, le_bound}
use Rattle.fx_model.specs.declared.ExprId.{ExprId}
use Rattle.fx_model.specs.declared.Node.{Node}
use Rattle.fx_model.specs.declared.Node.TheVariants as node
use Rattle.dyadic.specs.Order.{bound_trans}
use Rattle.dyadic.specs.Compared.{BoundLe_out}
use Rattle.interval.specs.declared.interval.Interval.{Interval}
use Rattle.interval.specs.Intervals.{range_of}
use Rattle.interval.specs.Results.{negation_of, sum_of, difference_of, product_of}
use Rattle.interval.proofs.Monotone.{negation_of-within, sum_of-within, difference_of-within}
use Rattle.interval.proofs.Monotone.{product_of-within}
use Rattle.expr_dag.specs.Shapes.{is_at, is_known, are_known}
use Rattle.facts.specs.declared.relative.RelativeError.{RelativeError}
use Rattle.facts.specs.declared.fact.Fact.TheVariants as fact
use Rattle.facts.specs.declared.fact.Slot.TheVariants as slot
use Rattle.facts.specs.Order.{IsWithin, IsWithinError, is_same}
use Rattle.facts.proofs.CommonParts.{and_rises}
use Rattle.facts.proofs.Laws.{IsStronger-refl}
use Rattle.facts.specs.Promises.{IsIsotone}
use Rattle.facts.specs.Premises.{Gives}
use Rattle.facts.proofs.Premises.{one_bnd, two_bnd, four_bnd, bnd_then_nzr}
use Rattle.facts.proofs.Conclusions.{IsRising, Improves, improves_given, improves_if, improves_only}
use Rattle.facts.proofs.RelativePremises.{rel_then_nzr}
use Rattle.rewrite_rules.specs.Differences.{sides_at, are_made, by_sides_rule}
use Rattle.rewrite_rules.specs.Differences.{difference_of_sums_rule, difference_of_differences_rule}
use Rattle.rewrite_rules.specs.Differences.{are_products, difference_of_products_rule}
use Rattle.rewrite_rules.specs.Differences.{are_negations, difference_of_negations_rule, is_through}
use Rattle.rewrite_rules.specs.Differences.{difference_through_rule, is_against}
use Rattle.rewrite_rules.specs.Differences.{difference_against_rule, first_by_difference_rule}
use Rattle.rewrite_rules.specs.Differences.{second_by_difference_rule}
use Rattle.rewrite_rules.specs.Nothing.{is_zero, zero_and_not_rule, void_of, both_zero_and_not_rule}

by_sides_rule-isotone : (make : ExprId → ExprId → Node) (op : Interval → Interval → Interval)
    → IsRising op → IsIsotone (by_sides_rule make op)
by_sides_rule-isotone make op w nodes (fact.Bnd p i ∷ fact.Bnd q j ∷ []) (slot.Bnd e) ps c s g =
    let a = two_bnd ps p i q j s in
    subst (λ l. Gives (by_sides_rule make op nodes l (slot.Bnd e)) c) (sym a.2)
    (improves_only (are_made make nodes (sides_at nodes e) (sides_at nodes p) (sides_at nodes q))
    (fact.Bnd e (op i j)) (fact.Bnd e (op a.0 a.1)) (refl, w a.0 a.1 i j a.3 a.4) c g)
by_sides_rule-isotone make op w nodes _ _ ps c s g = cc

pub difference_of_sums_rule-isotone : IsIsotone difference_of_sums_rule
difference_of_sums_rule-isotone = by_sides_rule-isotone node.Add sum_of sum_of-within

pub difference_of_differences_rule-isotone : IsIsotone difference_of_differences_rule
difference_of_differences_rule-isotone =
    by_sides_rule-isotone node.Sub difference_of difference_of-within

pub difference_of_products_rule-isotone : IsIsotone difference_of_products_rule
difference_of_products_rule-isotone nodes
    (fact.Bnd b i ∷ fact.Bnd q j ∷ fact.Bnd p k ∷ fact.Bnd d l ∷ []) (slot.Bnd e) ps c s g =
    let a = four_bnd ps b q p d i j k l s in
    subst (λ r. Gives (difference_of_products_rule nodes r (slot.Bnd e)) c) (sym a.4)
    (improves_only (are_products nodes (sides_at nodes e) (sides_at nodes p) (sides_at nodes q) b d)
    (fact.Bnd e (sum_of (product_of i j) (product_of k l)))
    (fact.Bnd e (sum_of (product_of a.0 a.1) (product_of a.2 a.3))) (
      refl,
      sum_of-within (product_of a.0 a.1) (product_of a.2 a.3) (product_of i j) (product_of k l)
          (product_of-within a.0 a.1 i j a.5 a.6) (product_of-within a.2 a.3 k l a.7 a.8),
    ) c g)
difference_of_products_rule-isotone nodes _ _ ps c s g = cc

pub difference_of_negations_rule-isotone : IsIsotone difference_of_negations_rule
difference_of_negations_rule-isotone nodes (fact.Bnd p i ∷ []) (slot.Bnd e) ps c s g =
    let a = one_bnd ps p i s in
    subst (λ l. Gives (difference_of_negations_rule nodes l (slot.Bnd e)) c) (sym a.1)
    (improves_only (are_negations nodes (sides_at nodes e) (sides_at nodes p)) (fact.Bnd e
    (negation_of i)) (fact.Bnd e (negation_of a.0)) (refl, negation_of-within a.0 i a.2) c g)
difference_of_negations_rule-isotone nodes _ _ ps c s g = cc

pub difference_through_rule-isotone : IsIsotone difference_through_rule
difference_through_rule-isotone nodes (fact.Bnd p i ∷ fact.Bnd q j ∷ []) (slot.Bnd e) ps c s g =
    let a = two_bnd ps p i q j s in
    subst (λ l. Gives (difference_through_rule nodes l (slot.Bnd e)) c) (sym a.2)
    (improves_only (is_through nodes e (sides_at nodes p) (sides_at nodes q))
    (fact.Bnd e (sum_of i j)) (fact.Bnd e (sum_of a.0 a.1)) (
      refl,
      sum_of-within a.0 a.1 i j a.3 a.4,
    ) c g)
difference_through_rule-isotone nodes _ _ ps c s g = cc

pub difference_against_rule-isotone : IsIsotone difference_against_rule
difference_against_rule-isotone nodes (fact.Bnd p i ∷ fact.Bnd q j ∷ []) (slot.Bnd e) ps c s g =
    let a = two_bnd ps p i q j s in
    subst (λ l. Gives (difference_against_rule nodes l (slot.Bnd e)) c) (sym a.2)
    (improves_only (is_against nodes e (sides_at nodes p) (sides_at nodes q))
    (fact.Bnd e (difference_of i j)) (fact.Bnd e (difference_of a.0 a.1))
    (refl, difference_of-within a.0 a.1 i j a.3 a.4) c g)
difference_against_rule-isotone nodes _ _ ps c s g = cc

pub first_by_difference_rule-isotone : IsIsotone first_by_difference_rule
first_by_difference_rule-isotone nodes (fact.Bnd b i ∷ fact.Bnd p j ∷ []) (slot.Bnd d) ps c s g =
    let a = two_bnd ps b i p j s in
    subst (λ l. Gives (first_by_difference_rule nodes l (slot.Bnd d)) c) (sym a.2)
    (improves_only (is_at nodes p (node.Sub d b)) (fact.Bnd d (sum_of i j))
    (fact.Bnd d (sum_of a.0 a.1)) (refl, sum_of-within a.0 a.1 i j a.3 a.4) c g)
first_by_difference_rule-isotone nodes _ _ ps c s g = cc

pub second_by_difference_rule-isotone : IsIsotone second_by_difference_rule
second_by_difference_rule-isotone nodes (fact.Bnd d i ∷ fact.Bnd p j ∷ []) (slot.Bnd b) ps c s g =
    let a = two_bnd ps d i p j s in
    subst (λ l. Gives (second_by_difference_rule nodes l (slot.Bnd b)) c) (sym a.2)
    (improves_only (is_at nodes p (node.Sub d b)) (fact.Bnd b (difference_of i j))
    (fact.Bnd b (difference_of a.0 a.1)) (refl, difference_of-within a.0 a.1 i j a.3 a.4) c g)
second_by_difference_rule-isotone nodes _ _ ps c s g = cc

-- ---- nothing is left
is_zero-rises : (i j : Interval) → IsWithin j i → is_zero (range_of i) ≡ true
    → is_zero (range_of j) ≡ true
is_zero-rises i j w e =
    let a = and_parts (le_bound (At zero_ℚ) (range_of i).low)
    (le_bound (range_of i).high (At zero_ℚ)) e in
    let l = bound_trans (At zero_ℚ)
    (range_of i).low (range_of j).low a.0 (BoundLe_out (range_of i).low (range_of j).low w.0) in
    let u = bound_trans (range_of j).high (range_of i).high (At zero_ℚ)
    (BoundLe_out (range_of j).high (range_of i).high w.1) a.1 in
    rw l u

pub zero_and_not_rule-isotone : IsIsotone zero_and_not_rule
zero_and_not_rule-isotone nodes (fact.Bnd x i ∷ fact.Nzr y ∷ []) slot.Void ps c s g =
    let a = bnd_then_nzr ps x i y s in
    subst (λ l. Gives (zero_and_not_rule nodes l slot.Void) c) (sym a.1)
    (improves_if (is_known nodes x && (is_same x y && is_zero (range_of i)))
    (is_known nodes x && (is_same x y && is_zero (range_of a.0))) fact.Void fact.Void
    (and_rises (is_known nodes x) (is_same x y && is_zero (range_of i))
    (is_same x y && is_zero (range_of a.0)) (and_rises (is_same x y) (is_zero (range_of i))
    (is_zero (range_of a.0)) (is_zero-rises i a.0 a.2))) tt c g)
zero_and_not_rule-isotone nodes _ _ ps c s g = cc

void_of-improves : (d e : Option RelativeError) → IsWithinError e d
    → Improves (void_of d) (void_of e)
void_of-improves (Some d) e w c q = cc
void_of-improves None None w c q = (c, q, IsStronger-refl c)
void_of-improves None (Some e) w c q = absurd w

pub both_zero_and_not_rule-isotone : IsIsotone both_zero_and_not_rule
both_zero_and_not_rule-isotone nodes (fact.Rel x y d ∷ fact.Nzr z ∷ []) slot.Void ps c s g =
    let a = rel_then_nzr ps x y d z s in
    subst (λ l. Gives (both_zero_and_not_rule nodes l slot.Void) c) (sym a.1)
    (improves_given (are_known nodes x y && is_same z y) (void_of d) (void_of a.0)
    (void_of-improves d a.0 a.2) c g)
both_zero_and_not_rule-isotone nodes _ _ ps c s g = cc
