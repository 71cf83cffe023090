-- What follows from a pair in one step, read off its nodes.
use Rattle.std.specs.Prelude.{◌≡◌, ◌≢◌, ◌⊎◌, List}
use Rattle.std.proofs.Common.{inl, inr, subst}
use Rattle.fx_model.specs.declared.ExprId.{ExprId}
use Rattle.fx_model.specs.declared.Node.{Node}
use Rattle.expr_dag.specs.Nodes.{IsAt}
use Rattle.expr_dag.proofs.Nodes.{one_node}
use Rattle.pair_closure.specs.Reached.{Has}
use Rattle.pair_closure.specs.Closure.{Pair, matched, rounded, LeadsToPair}
use Rattle.pair_closure.specs.Closure.LeadsToPair.{operands, inside}
use Rattle.pair_closure.specs.Grown.{IsGrown}
use Rattle.pair_closure.proofs.Grown.{grown_both, grown_same}

module _ (nodes : List Node) where
  opened : (q p : Pair) (m n : Node) → IsAt nodes q.0 m → IsAt nodes q.1 n → LeadsToPair nodes q p
      → Has (rounded m q.1) p ⊎ ((q.0 ≢ q.1) × Has (matched m n) p)
  opened q p m n a b (operands x y k l _ ne c d h) =
      inr (
        ne,
        subst (λ j. Has (matched j n) p) (one_node nodes x k m c a)
            (subst (λ j. Has (matched k j) p) (one_node nodes y l n d b) h),
      )
  opened q p m n a b (inside x y k _ c h) =
      inl (subst (λ j. Has (rounded j y) p) (one_node nodes x k m c a) h)

  module _ (x y : ExprId) (m n : Node) (a : IsAt nodes x m) (b : IsAt nodes y n) where
    pub follow_same : (old new : List Pair) → x ≡ y → IsGrown old new (Has (rounded m y))
        → IsGrown old new (LeadsToPair nodes (x, y))
    follow_same old new e g = grown_same old new (Has (rounded m y)) (LeadsToPair nodes (x, y))
        (λ p h. inside x y m p a h)
        (λ p l. elim (opened (x, y) p m n a b l) [ inl h ↦ h | inr h ↦ absurd (h.0 e) ]) g

    pub follow_apart : (old mid new : List Pair) → x ≢ y → IsGrown old mid (Has (rounded m y))
        → IsGrown mid new (Has (matched m n)) → IsGrown old new (LeadsToPair nodes (x, y))
    follow_apart old mid new ne g h = grown_same old new (λ p. Has (rounded m y) p
        ⊎ Has (matched m n) p) (LeadsToPair nodes (x, y))
        (λ p e. elim e [ inl f ↦ inside x y m p a f | inr f ↦ operands x y m n p ne a b f ])
        (λ p l. elim (opened (x, y) p m n a b l) [ inl f ↦ inl f | inr f ↦ inr f.1 ])
        (grown_both old mid new (Has (rounded m y)) (Has (matched m n)) g h)
