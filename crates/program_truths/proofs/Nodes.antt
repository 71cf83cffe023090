-- The values of nodes that are put behind others.
use Rattle.std.proofs.Common.{◌≡◌, ◌<◌, ◌≤◌, ℕ, ◌+◌, List, [], ◌∷◌, ◌++◌, length, Option, Some}
use Rattle.std.proofs.Common.{None, inl, inr, refl, sym, ap, ◌∙◌, subst, arith, slice_index_or}
use Rattle.std.proofs.Common.{length-append}
use Rattle.std.specs.Prelude.{position}
use Rattle.std.proofs.lemmas.Bool.{cases_lt}
use Rattle.std.proofs.lemmas.List.{get_or_append_left}
use Rattle.std.proofs.Math.Seq.{get_or-append_seam}
use Rattle.std.proofs.lemmas.List.Quantifiers.{position-Some}
use Rattle.fx_model.specs.declared.ExprId.{ExprId}
use Rattle.fx_model.specs.declared.Node.{Node}
use Rattle.fx_model.specs.Expression.{Assignment, ChildrenBelow, IsOrdered, node_value, value}
use Rattle.fx_model.specs.Expression.{same_children}
use Rattle.fx_model.proofs.Expression.{value_step}
use Rattle.expr_dag.specs.Nodes.{same_node, numbered, placed, with_node}
use Rattle.expr_dag.proofs.Same.{same}
use Rattle.expr_dag.specs.Extended.{ValuesStay}
use Rattle.script_nodes.specs.Known.{Known, put}

abbrev number : ℕ → ExprId
number i = record { 0 = i }

-- The nodes that were there keep their values, and the one that is put has its own.
pub record IsPut (a : Assignment) (nodes : List Node) (n : Node) (new : List Node)
    (x : ExprId) : Type 0 where
  pub ordered : IsOrdered new
  pub longer : length nodes ≤ length new
  pub kept : (y : ExprId) → y.0 < length nodes → value new a y ≡ value nodes a y
  pub within : x.0 < length new
  pub is : value new a x ≡ node_value a (value nodes a) n

module _ (stay : ValuesStay) (a : Assignment) (nodes : List Node) (n : Node) (o : IsOrdered nodes)
    (c : ChildrenBelow (length nodes) n) where
  longer_by_one : length (nodes ++ (n ∷ [])) ≡ length nodes + 1
  longer_by_one = length-append nodes (n ∷ [])

  ordered_last : IsOrdered (nodes ++ (n ∷ []))
  ordered_last i m h = elim (cases_lt i (length nodes)) [
    | inl l ↦ subst (ChildrenBelow i) (sym (get_or_append_left nodes (n ∷ []) m i l)) (o i m l)
    | inr l ↦
        let e : i ≡ length nodes = omega (arith, longer_by_one) in
        subst (λ j. ChildrenBelow j (slice_index_or (nodes ++ (n ∷ [])) j m)) (sym e)
        (subst (ChildrenBelow (length nodes)) (sym (get_or-append_seam nodes n [] m)) c)
  ]

  kept_last : (y : ExprId) → y.0 < length nodes → value (nodes ++ (n ∷ [])) a y ≡ value nodes a y
  kept_last y l = stay nodes (n ∷ []) a o ordered_last y l

  by_place : (i : Option ℕ) → position (same_node n) nodes ≡ i
      → IsPut a nodes n (placed nodes n (numbered i)).0 (placed nodes n (numbered i)).1
  by_place None e =
      let h : length nodes < length (nodes ++ (n ∷ [])) = omega (arith, longer_by_one) in
      record {
        ordered = ordered_last;
        longer = omega (arith, longer_by_one);
        kept = kept_last;
        within = h;
        is = value_step (nodes ++ (n ∷ [])) a (number (length nodes)) n ordered_last h
            ∙ ap (node_value a (value (nodes ++ (n ∷ [])) a)) (get_or-append_seam nodes n [] n)
            ∙ same_children a (value (nodes ++ (n ∷ [])) a) (value nodes a) (length nodes) n c
            kept_last;
      }
  by_place (Some i) e =
      let at = position-Some (same_node n) nodes i n e in
      record {
        ordered = o;
        longer = omega arith;
        kept = λ y l. refl;
        within = at.0;
        is = value_step nodes a (number i) n o at.0
            ∙ ap (node_value a (value nodes a)) (sym (same n (slice_index_or nodes i n) at.1));
      }

  pub node_is_put : IsPut a nodes n (with_node nodes n).0 (with_node nodes n).1
  node_is_put = by_place (position (same_node n) nodes) refl

-- the same of what is known
pub put_is : ValuesStay → (a : Assignment) (k : Known) (n : Node) → IsOrdered k.nodes
    → ChildrenBelow (length k.nodes) n → IsPut a k.nodes n (put k n).0.nodes (put k n).1
unfolding put
put_is stay a k n o c = node_is_put stay a k.nodes n o c
