-- The values of nodes stay where more nodes follow.
use Rattle.std.proofs.Common.{◌≡◌, ℕ, zero, suc, ◌<◌, List, ◌++◌, length, sym, ap, ◌∙◌, arith}
use Rattle.std.proofs.Common.{length-append, slice_index_or}
use Rattle.std.proofs.lemmas.List.{get_or_append_left}
use Rattle.fx_model.specs.declared.ExprId.{ExprId}
use Rattle.fx_model.specs.declared.Node.{Node}
use Rattle.fx_model.specs.declared.Node.TheVariants.{Var}
use Rattle.fx_model.specs.Expression.{Assignment, IsOrdered, node_value, value, same_children}
use Rattle.fx_model.proofs.Expression.{value_step}

module _ (nodes more : List Node) (a : Assignment) (o : IsOrdered nodes)
    (p : IsOrdered (nodes ++ more)) where
  value_below : (k : ℕ) (x : ExprId) → x.0 < k → x.0 < length nodes
      → value (nodes ++ more) a x ≡ value nodes a x
  value_below zero x h l = absurd (omega arith)
  value_below (suc k) x h l =
      let d : Node = Var 0 in
      let m : x.0 < length (nodes ++ more) = omega (arith, length-append nodes more) in
      let n : Node = slice_index_or nodes x.0 d in
      let e : slice_index_or (nodes ++ more) x.0 d ≡ n = get_or_append_left nodes more d x.0 l in
      value_step (nodes ++ more) a x d p m ∙ ap (node_value a (value (nodes ++ more) a)) e
      ∙ same_children a (value (nodes ++ more) a) (value nodes a) x.0 n (o x.0 d l)
      (λ y b. value_below k y (omega arith) (omega arith))
      ∙ sym (value_step nodes a x d o l)

  pub value_stays : (x : ExprId) → x.0 < length nodes → value (nodes ++ more) a x ≡ value nodes a x
  value_stays x l = value_below (suc x.0) x (omega arith) l
