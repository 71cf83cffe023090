-- Lists that are added one behind another.
use Rattle.std.specs.Prelude.{◌≡◌, List, [], ◌++◌}
use Rattle.std.proofs.Common.{ap, sym, ◌∙◌, append_assoc}
use Rattle.fx_model.specs.declared.ExprId.{ExprId}
use Rattle.fx_model.specs.declared.Node.{Node}
use Rattle.pair_closure.specs.Closure.{Pair}
use Rattle.pair_closure.specs.Rows.{seconds}
use Rattle.facts.specs.declared.hint.HintRow.{HintRow}
use Rattle.facts.specs.declared.instance.Instance.{Instance}
use Rattle.rule_instances.specs.Found.{at_error, at_terms, at_pair}
use Rattle.rule_instances.specs.InOrder.{each_at, node_of, of_node, one_left, one_right, of_sides}
use Rattle.rule_instances.specs.InOrder.{of_difference, past_of, of_pair, of_hint, instance_list}

two : (old mid new xs ys : List Instance) → mid ≡ old ++ xs → new ≡ mid ++ ys
    → new ≡ old ++ (xs ++ ys)
two old mid new xs ys e f = f ∙ ap (λ l. l ++ ys) e ∙ append_assoc old xs ys

four : (old a b c new p q r s : List Instance) → a ≡ old ++ p → b ≡ a ++ q → c ≡ b ++ r
    → new ≡ c ++ s → new ≡ old ++ (p ++ (q ++ (r ++ s)))
four old a b c new p q r s e f g h =
    two old a new p (q ++ (r ++ s)) e (two a b new q (r ++ s) f (two b c new r s g h))

module _ (nodes : List Node) (pairs : List Pair) where
  pub sides_behind : (x a c : ExprId) (m n : Node) → node_of nodes a ≡ m → node_of nodes c ≡ n
      → (left right : List ExprId) → left ≡ seconds pairs a → right ≡ seconds pairs c
      → (old one two three new : List Instance) → one ≡ old ++ at_error x m c
      → two ≡ one ++ at_terms nodes x m n → three ≡ two ++ each_at (one_left nodes x a c) 0 left
      → new ≡ three ++ each_at (one_right nodes x a c) 0 right
      → new ≡ old ++ of_sides nodes pairs x a c
  sides_behind x a c m n am cn left right l r old one mid three new e f g h =
      four old one mid three new (at_error x (node_of nodes a) c) (at_terms nodes x
      (node_of nodes a) (node_of nodes c)) (each_at (one_left nodes x a c) 0 (seconds pairs a))
      (each_at (one_right nodes x a c) 0 (seconds pairs c))
      (e ∙ ap (λ k. old ++ at_error x k c) (sym am))
      (f ∙ (λ i. one ++ at_terms nodes x (sym am i) (sym cn i)))
      (g ∙ ap (λ row. mid ++ each_at (one_left nodes x a c) 0 row) l)
      (h ∙ ap (λ row. three ++ each_at (one_right nodes x a c) 0 row) r)

  pub pair_behind : (x y : ExprId) (m n : Node) → node_of nodes x ≡ m → node_of nodes y ≡ n
      → (row : List ExprId) → row ≡ seconds pairs y → (old mid new : List Instance)
      → mid ≡ old ++ at_pair nodes pairs x y m n
      → new ≡ mid ++ each_at (past_of pairs x y) 0 row → new ≡ old ++ of_pair nodes pairs 0 (x, y)
  pair_behind x y m n xm yn row r old mid new e f =
      two old mid new (at_pair nodes pairs x y (node_of nodes x) (node_of nodes y))
      (each_at (past_of pairs x y) 0 (seconds pairs y))
      (e ∙ (λ i. old ++ at_pair nodes pairs x y (sym xm i) (sym yn i)))
      (f ∙ ap (λ l. mid ++ each_at (past_of pairs x y) 0 l) r)

  pub all_behind : (hints : List HintRow) (old one two three new : List Instance)
      → old ≡ [] → one ≡ old ++ each_at of_node 0 nodes
      → two ≡ one ++ each_at (of_difference nodes pairs) 0 nodes
      → three ≡ two ++ each_at (of_pair nodes pairs) 0 pairs
      → new ≡ three ++ each_at of_hint 0 hints → new ≡ instance_list nodes pairs hints
  all_behind hints old one mid three new o e f g h =
      four old one mid three new (each_at of_node 0 nodes)
      (each_at (of_difference nodes pairs) 0 nodes) (each_at (of_pair nodes pairs) 0 pairs)
      (each_at of_hint 0 hints) e f g h
      ∙ ap (λ l. l ++ instance_list nodes pairs hints) o
