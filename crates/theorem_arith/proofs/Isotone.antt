-- The rules on bounds: from stronger premises they give a fact as strong, or stronger.
use Rattle.std.specs.Prelude.{[], ◌∷◌, refl}
use Rattle.std.proofs.Common.{sym, subst}
use Rattle.fx_model.specs.declared.ExprId.{ExprId}
use Rattle.fx_model.specs.declared.Node.{Node}
use Rattle.fx_model.specs.declared.Node.TheVariants as node
use Rattle.interval.specs.declared.interval.Interval.{Interval}
use Rattle.interval.specs.Results.{negation_of, sum_of, difference_of, product_of, quotient_of}
use Rattle.interval.proofs.Monotone.{negation_of-within, sum_of-within, difference_of-within}
use Rattle.interval.proofs.Monotone.{product_of-within, quotient_of-within}
use Rattle.expr_dag.specs.Shapes.{is_at}
use Rattle.facts.specs.declared.fact.Fact.TheVariants as fact
use Rattle.facts.specs.declared.fact.Slot.TheVariants as slot
use Rattle.facts.proofs.Laws.{IsStronger-refl}
use Rattle.facts.specs.Promises.{IsIsotone}
use Rattle.facts.specs.Premises.{Gives}
use Rattle.facts.proofs.Premises.{no_premises, one_bnd, one_abs, one_nzr, two_bnd, bnd_then_nzr}
use Rattle.facts.proofs.Conclusions.{IsRising, improves_bnd, improves_given, improves_only}
use Rattle.facts.specs.Conclusions.{bnd_of}
use Rattle.theorem_arith.specs.Bounds.{literal_rule, negation_rule, binary_rule, sum_rule}
use Rattle.theorem_arith.specs.Bounds.{difference_rule, product_rule, difference_with_itself_rule}
use Rattle.theorem_arith.specs.Bounds.{square_rule, quotient_rule, quotient_by_nonzero_rule}
use Rattle.theorem_arith.specs.Bounds.{quotient_by_itself_rule}

-- ---- literals
pub literal_rule-isotone : IsIsotone literal_rule
literal_rule-isotone nodes [] t ps c s q =
    subst (λ l. Gives (literal_rule nodes l t) c) (sym (no_premises ps s)) (c, q, IsStronger-refl c)
literal_rule-isotone nodes (p ∷ qs) t ps c s q = cc

-- ---- negations, sums, differences, products
pub negation_rule-isotone : IsIsotone negation_rule
negation_rule-isotone nodes (fact.Bnd x i ∷ []) (slot.Bnd e) ps c s q =
    let a = one_bnd ps x i s in
    subst (λ l. Gives (negation_rule nodes l (slot.Bnd e)) c) (sym a.1)
    (improves_only (is_at nodes e (node.Neg x)) (fact.Bnd e (negation_of i))
    (fact.Bnd e (negation_of a.0)) (refl, negation_of-within a.0 i a.2) c q)
negation_rule-isotone nodes _ _ ps c s q = cc

pub binary_rule-isotone : (make : ExprId → ExprId → Node) (op : Interval → Interval → Interval)
    → IsRising op → IsIsotone (binary_rule make op)
binary_rule-isotone make op w nodes (fact.Bnd x i ∷ fact.Bnd y j ∷ []) (slot.Bnd e) ps c s q =
    let a = two_bnd ps x i y j s in
    subst (λ l. Gives (binary_rule make op nodes l (slot.Bnd e)) c) (sym a.2)
    (improves_only (is_at nodes e (make x y)) (fact.Bnd e (op i j)) (fact.Bnd e (op a.0 a.1))
    (refl, w a.0 a.1 i j a.3 a.4) c q)
binary_rule-isotone make op w nodes _ _ ps c s q = cc

pub sum_rule-isotone : IsIsotone sum_rule
sum_rule-isotone = binary_rule-isotone node.Add sum_of sum_of-within

pub difference_rule-isotone : IsIsotone difference_rule
difference_rule-isotone = binary_rule-isotone node.Sub difference_of difference_of-within

pub product_rule-isotone : IsIsotone product_rule
product_rule-isotone = binary_rule-isotone node.Mul product_of product_of-within

pub difference_with_itself_rule-isotone : IsIsotone difference_with_itself_rule
difference_with_itself_rule-isotone nodes (fact.Bnd x i ∷ []) (slot.Bnd e) ps c s q =
    let a = one_bnd ps x i s in
    subst (λ l. Gives (difference_with_itself_rule nodes l (slot.Bnd e)) c) (sym a.1)
    (c, q, IsStronger-refl c)
difference_with_itself_rule-isotone nodes _ _ ps c s q = cc

pub square_rule-isotone : IsIsotone square_rule
square_rule-isotone nodes (fact.Abs x i ∷ []) (slot.Bnd e) ps c s q =
    let a = one_abs ps x i s in
    let j : Interval = a.0.interval in
    subst (λ l. Gives (square_rule nodes l (slot.Bnd e)) c) (sym a.1)
    (improves_only (is_at nodes e (node.Mul x x)) (fact.Bnd e (product_of i.interval i.interval))
    (fact.Bnd e (product_of j j)) (refl, product_of-within j j i.interval i.interval a.2 a.2) c q)
square_rule-isotone nodes _ _ ps c s q = cc

-- ---- quotients
pub quotient_rule-isotone : IsIsotone quotient_rule
quotient_rule-isotone nodes (fact.Bnd x i ∷ fact.Bnd y j ∷ []) (slot.Bnd e) ps c s q =
    let a = two_bnd ps x i y j s in
    subst (λ l. Gives (quotient_rule nodes l (slot.Bnd e)) c) (sym a.2)
    (improves_given (is_at nodes e (node.Div x y)) (bnd_of e (quotient_of i j))
    (bnd_of e (quotient_of a.0 a.1))
    (improves_bnd e (quotient_of i j) (quotient_of a.0 a.1)
    (λ k h. quotient_of-within a.0 a.1 i j k a.3 a.4 h)) c q)
quotient_rule-isotone nodes _ _ ps c s q = cc

pub quotient_by_nonzero_rule-isotone : IsIsotone quotient_by_nonzero_rule
quotient_by_nonzero_rule-isotone nodes (fact.Bnd x i ∷ fact.Nzr y ∷ []) (slot.Bnd e) ps c s q =
    let a = bnd_then_nzr ps x i y s in
    subst (λ l. Gives (quotient_by_nonzero_rule nodes l (slot.Bnd e)) c) (sym a.1)
    (c, q, IsStronger-refl c)
quotient_by_nonzero_rule-isotone nodes _ _ ps c s q = cc

pub quotient_by_itself_rule-isotone : IsIsotone quotient_by_itself_rule
quotient_by_itself_rule-isotone nodes (fact.Nzr x ∷ []) (slot.Bnd e) ps c s q =
    subst (λ l. Gives (quotient_by_itself_rule nodes l (slot.Bnd e)) c) (sym (one_nzr ps x s))
    (c, q, IsStronger-refl c)
quotient_by_itself_rule-isotone nodes _ _ ps c s q = cc
