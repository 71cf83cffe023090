-- The rules on bounds are sound: where the premises hold, the conclusion does.
use Rattle.std.specs.Prelude.{◌≡◌, ◌≢◌, List, [], ◌∷◌, Option, Some, None, slice_get, refl}
use Rattle.std.specs.Option.{IsSomeAnd}
use Rattle.std.proofs.Common.{sym, subst}
use Rattle.fx_model.specs.Fraction.{Fraction, ◌+ℚ◌, ◌-ℚ◌, ◌*ℚ◌, ◌/ℚ◌, neg_ℚ, zero_ℚ, one_ℚ, add-neg}
use Rattle.fx_model.specs.Fraction.{mul-inverse}
use Rattle.fx_model.specs.Enclosure.{Lies, Sums, Differences, Negations, in_enclosure}
use Rattle.fx_model.specs.Enclosure.{product_holds}
use Rattle.fx_model.specs.Expression.{Assignment, IsOrdered, value, node_value, lift₂, quotient}
use Rattle.fx_model.specs.Expression.{literal_value}
use Rattle.fx_model.specs.declared.ExprId.{ExprId}
use Rattle.fx_model.specs.declared.Node.{Node}
use Rattle.fx_model.specs.declared.Node.TheVariants as node
use Rattle.grid_words.specs.Products.{quotient_holds}
use Rattle.interval.specs.declared.interval.Interval.{Interval}
use Rattle.interval.specs.Intervals.{range_of}
use Rattle.interval.specs.Results.{negation_of, negation_of-is, sum_of, sum_of-is, difference_of}
use Rattle.interval.specs.Results.{difference_of-is, product_of, product_of-is, quotient_of}
use Rattle.interval.specs.Results.{quotient_of-is, point_of, whole_interval}
use Rattle.interval.proofs.Members.{alone_lies}
use Rattle.expr_dag.specs.Shapes.{is_at}
use Rattle.expr_dag.proofs.Shapes.{node_at-value}
use Rattle.expr_dag.proofs.Lifted.{at_node, lifted_quotient, lifted_twice, lifted₁, lifted₂}
use Rattle.facts.specs.declared.fact.Fact.{Fact}
use Rattle.facts.specs.declared.fact.Fact.TheVariants as fact
use Rattle.facts.specs.declared.fact.Slot.TheVariants as slot
use Rattle.facts.specs.Holds.{Holds}
use Rattle.facts.proofs.CommonParts.{if-some}
use Rattle.facts.specs.Promises.{IsSound}
use Rattle.facts.specs.Conclusions.{bnd_of}
use Rattle.facts.proofs.Conclusions.{given}
use Rattle.theorem_arith.specs.Bounds.{literal_at, literal_rule, negation_rule, binary_rule}
use Rattle.theorem_arith.specs.Bounds.{sum_rule, difference_rule, product_rule}
use Rattle.theorem_arith.specs.Bounds.{difference_with_itself_rule, quotient_rule}
use Rattle.theorem_arith.specs.Bounds.{quotient_by_nonzero_rule, quotient_by_itself_rule}

-- ---- literals
at_literal : (nodes : List Node) (a : Assignment) (e : ExprId) (f : Fact) → IsOrdered nodes
    → literal_at (slice_get nodes e.0) e ≡ Some f → Holds nodes a f
at_literal nodes a e f o q = by_case (slice_get nodes e.0) refl q
  where
    by_case : (n : Option Node) → slice_get nodes e.0 ≡ n
        → literal_at n e ≡ Some f → Holds nodes a f
    by_case (Some (node.Lit l)) s q = let t : fact.Bnd e (point_of (literal_value l)) ≡ f = cc in
        subst (Holds nodes a) t
        (subst (λ v. IsSomeAnd v (Lies (range_of (point_of (literal_value l)))))
        (sym (node_at-value nodes a e (node.Lit l) o s)) (alone_lies (literal_value l)))
    by_case _ s q = cc

pub literal_rule-sound : IsSound literal_rule
literal_rule-sound nodes [] (slot.Bnd e) f o q = λ a h. at_literal nodes a e f o q
literal_rule-sound nodes _ _ f o q = cc

-- ---- negations, sums, differences, products
pub negation_rule-sound : IsSound negation_rule
negation_rule-sound nodes (fact.Bnd x i ∷ []) (slot.Bnd e) f o q = λ a h.
    let t = if-some (is_at nodes e (node.Neg x)) (fact.Bnd e (negation_of i)) f q in
    subst (Holds nodes a) t.1
    (at_node nodes a o e (node.Neg x) (Lies (range_of (negation_of i))) t.0
    (lifted₁ neg_ℚ (value nodes a x) (Lies (range_of i)) (Lies (range_of (negation_of i)))
    (λ v l. in_enclosure (Negations (range_of i)) (range_of (negation_of i)) (neg_ℚ v)
    (negation_of-is i) (v, l, refl)) h.0))
negation_rule-sound nodes _ _ f o q = cc

-- what an operation on values and one on intervals must have in common
pub record IsEnclosing (make : ExprId → ExprId → Node) (f : Fraction → Fraction → Fraction)
    (op : Interval → Interval → Interval) : Type 0 where
  pub computes : (a : Assignment) (v : ExprId → Option Fraction) (x y : ExprId)
      → node_value a v (make x y) ≡ lift₂ f (v x) (v y)
  pub holds : (i j : Interval) (x y : Fraction) → Lies (range_of i) x → Lies (range_of j) y
      → Lies (range_of (op i j)) (f x y)

pub binary_rule-sound : (make : ExprId → ExprId → Node) (g : Fraction → Fraction → Fraction)
    (op : Interval → Interval → Interval) → IsEnclosing make g op → IsSound (binary_rule make op)
binary_rule-sound make g op w nodes (fact.Bnd x i ∷ fact.Bnd y j ∷ []) (slot.Bnd e) f o q = λ a h.
    let t = if-some (is_at nodes e (make x y)) (fact.Bnd e (op i j)) f q in
    subst (Holds nodes a) t.1 (at_node nodes a o e (make x y) (Lies (range_of (op i j))) t.0
    (subst (λ v. IsSomeAnd v (Lies (range_of (op i j)))) (sym (w.computes a (value nodes a) x y))
    (lifted₂ g (value nodes a x) (value nodes a y) (Lies (range_of i)) (Lies (range_of j))
    (Lies (range_of (op i j))) (w.holds i j) h.0 h.1.0)))
binary_rule-sound make g op w nodes _ _ f o q = cc

pub sum_rule-sound : IsSound sum_rule
sum_rule-sound = binary_rule-sound node.Add ◌+ℚ◌ sum_of (record {
  computes = λ a v x y. refl;
  holds = λ i j x y p q. in_enclosure (Sums (range_of i) (range_of j)) (range_of (sum_of i j))
      (x +ℚ y) (sum_of-is i j) (x, y, p, q, refl);
})

pub difference_rule-sound : IsSound difference_rule
difference_rule-sound = binary_rule-sound node.Sub ◌-ℚ◌ difference_of (record {
  computes = λ a v x y. refl;
  holds = λ i j x y p q. in_enclosure (Differences (range_of i) (range_of j))
      (range_of (difference_of i j)) (x -ℚ y) (difference_of-is i j) (x, y, p, q, refl);
})

pub product_rule-sound : IsSound product_rule
product_rule-sound = binary_rule-sound node.Mul ◌*ℚ◌ product_of (record {
  computes = λ a v x y. refl;
  holds = λ i j x y p q. product_holds (range_of i) (range_of j)
      (range_of (product_of i j)) x y (product_of-is i j) p q;
})

pub difference_with_itself_rule-sound : IsSound difference_with_itself_rule
difference_with_itself_rule-sound nodes (fact.Bnd x i ∷ []) (slot.Bnd e) f o q = λ a h.
    let t = if-some (is_at nodes e (node.Sub x x)) (fact.Bnd e (point_of zero_ℚ)) f q in
    subst (Holds nodes a) t.1
    (at_node nodes a o e (node.Sub x x) (Lies (range_of (point_of zero_ℚ))) t.0
    (lifted_twice ◌-ℚ◌ (value nodes a x) (Lies (range_of i)) (Lies (range_of (point_of zero_ℚ)))
    (λ v l. subst (Lies (range_of (point_of zero_ℚ))) (sym (add-neg v)) (alone_lies zero_ℚ)) h.0))
difference_with_itself_rule-sound nodes _ _ f o q = cc

-- ---- quotients
pub bnd_given : (nodes : List Node) (a : Assignment) (e : ExprId) (k : Option Interval) (f : Fact)
    → bnd_of e k ≡ Some f → ((i : Interval) → k ≡ Some i
    → IsSomeAnd (value nodes a e) (Lies (range_of i))) → Holds nodes a f
bnd_given nodes a e None f q h = cc
bnd_given nodes a e (Some i) f q h = let t : fact.Bnd e i ≡ f = cc in
    subst (Holds nodes a) t (h i refl)

pub quotient_rule-sound : IsSound quotient_rule
quotient_rule-sound nodes (fact.Bnd x i ∷ fact.Bnd y j ∷ []) (slot.Bnd e) f o q = λ a h.
    let t = given (is_at nodes e (node.Div x y)) (bnd_of e (quotient_of i j)) f q in
    bnd_given nodes a e (quotient_of i j) f t.1 (λ k s. let w = quotient_of-is i j k s in
    at_node nodes a o e (node.Div x y) (Lies (range_of k)) t.0
    (lifted_quotient (value nodes a x) (value nodes a y) (Lies (range_of i))
    (Lies (range_of j)) (Lies (range_of k))
    (λ v l z. w.nonzero (subst (Lies (range_of j)) z l))
    (λ u v p r. quotient_holds (range_of i) (range_of j) (range_of k) u v w p r) h.0 h.1.0))
quotient_rule-sound nodes _ _ f o q = cc

pub quotient_by_nonzero_rule-sound : IsSound quotient_by_nonzero_rule
quotient_by_nonzero_rule-sound nodes (fact.Bnd x i ∷ fact.Nzr y ∷ []) (slot.Bnd e) f o q = λ a h.
    let t = if-some (is_at nodes e (node.Div x y)) (fact.Bnd e whole_interval) f q in
    subst (Holds nodes a) t.1
    (at_node nodes a o e (node.Div x y) (Lies (range_of whole_interval)) t.0
    (lifted_quotient (value nodes a x) (value nodes a y) (Lies (range_of i)) (λ v. v ≢ zero_ℚ)
    (Lies (range_of whole_interval)) (λ v n. n) (λ u v p r. (tt, tt)) h.0 h.1.0))
quotient_by_nonzero_rule-sound nodes _ _ f o q = cc

quotient_twice : (u : Option Fraction) (R : Fraction → Type 0)
    → ((x : Fraction) → x ≢ zero_ℚ → R (x /ℚ x)) → IsSomeAnd u (λ v. v ≢ zero_ℚ)
    → IsSomeAnd (quotient u u) R
quotient_twice None R h p = absurd p
quotient_twice (Some x) R h p = lifted_quotient (Some x) (Some x) (λ v. v ≡ x)
    (λ v. (v ≡ x) × (v ≢ zero_ℚ)) R (λ y q. q.1) (λ u v a b. subst (λ z. R (z /ℚ v)) (sym a)
    (subst (λ z. R (x /ℚ z)) (sym b.0) (h x p))) refl (refl, p)

pub quotient_by_itself_rule-sound : IsSound quotient_by_itself_rule
quotient_by_itself_rule-sound nodes (fact.Nzr x ∷ []) (slot.Bnd e) f o q = λ a h.
    let t = if-some (is_at nodes e (node.Div x x)) (fact.Bnd e (point_of one_ℚ)) f q in
    subst (Holds nodes a) t.1
    (at_node nodes a o e (node.Div x x) (Lies (range_of (point_of one_ℚ))) t.0
    (quotient_twice (value nodes a x) (Lies (range_of (point_of one_ℚ))) (λ v n.
    subst (Lies (range_of (point_of one_ℚ))) (sym (mul-inverse v n)) (alone_lies one_ℚ)) h.0))
quotient_by_itself_rule-sound nodes _ _ f o q = cc
