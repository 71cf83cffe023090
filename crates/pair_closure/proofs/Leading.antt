-- What a difference leads to, read off the nodes of its sides and the rows of the pairs.
use Rattle.std.specs.Prelude.{◌≡◌, ◌≢◌, ◌⊎◌, ◌↔◌, ◌<◌, List, length}
use Rattle.std.proofs.Common.{inl, inr, arith, ap, sym, subst}
use Rattle.fx_model.specs.declared.ExprId.{ExprId}
use Rattle.fx_model.specs.declared.Node.{Node}
use Rattle.fx_model.specs.declared.Node.TheVariants.{Var, Lit, Neg, Add, Sub, Mul, Div, Abs, Round}
use Rattle.fx_model.specs.Expression.{IsOrdered}
use Rattle.expr_dag.specs.Nodes.{IsAt}
use Rattle.expr_dag.proofs.Nodes.{one_node}
use Rattle.pair_closure.specs.Reached.{Has}
use Rattle.pair_closure.specs.Reached.IsReached.{begin, lead}
use Rattle.pair_closure.specs.Closure.{Pair, matched, matched_terms, AreApart, BeginsExpressions}
use Rattle.pair_closure.specs.Closure.{LeadsToExpression, IsTaken, AreKnown}
use Rattle.pair_closure.specs.Closure.BeginsExpressions.{written, difference}
use Rattle.pair_closure.specs.Closure.LeadsToExpression.{operands, past_left, past_right}
use Rattle.pair_closure.specs.Differences.{IsGivenBy, IsDifferenceOf, IsPastLeft, IsPastRight}
use Rattle.pair_closure.specs.Differences.{HasKnownSides}
use Rattle.pair_closure.specs.Grown.{IsGrown, IsOverfull}
use Rattle.pair_closure.proofs.Grown.{grown_both, grown_same, grown_none, overfull_later}
use Rattle.pair_closure.proofs.Grown.{overfull_wider}
use Rattle.pair_closure.proofs.Known.{children, matched_below}
use Rattle.pair_closure.proofs.Members.{no_member}

-- terms are operands
pub terms_matched : (m n : Node) (p : Pair) → Has (matched_terms m n) p → Has (matched m n) p
terms_matched (Var k) n p h = h
terms_matched (Lit l) n p h = h
terms_matched (Neg x) n p h = h
terms_matched (Add x y) n p h = h
terms_matched (Sub x y) n p h = h
terms_matched (Mul x y) n p h = h
terms_matched (Div x y) n p h = absurd (no_member p h)
terms_matched (Abs x) n p h = h
terms_matched (Round r x) n p h = h

module _ (nodes : List Node) (pairs : List Pair) where
  -- ---- the three kinds
  module _ (a c : ExprId) (m n : Node) (am : IsAt nodes a m) (cn : IsAt nodes c n)
      (left right : List ExprId)
      (l : (b : ExprId) → Has left b ↔ Has pairs (a, b))
      (r : (b : ExprId) → Has right b ↔ Has pairs (c, b)) where
    abbrev OneOf : Node → Type 0
    OneOf e = (IsGivenBy (matched_terms m n) IsDifferenceOf e ⊎ IsGivenBy left (IsPastLeft a c) e)
        ⊎ IsGivenBy right (IsPastRight a c) e

    to : (e : Node) → OneOf e → LeadsToExpression nodes (Has pairs) (Sub a c) e
    to e (inl (inl g)) = subst (LeadsToExpression nodes (Has pairs) (Sub a c)) (sym g.2)
        (operands a c (g.0).0 (g.0).1 m n am cn g.1)
    to e (inl (inr g)) = subst (LeadsToExpression nodes (Has pairs) (Sub a c)) (sym (g.2).1)
        (past_left a g.0 c ((l g.0).0 g.1) (g.2).0)
    to e (inr g) = subst (LeadsToExpression nodes (Has pairs) (Sub a c)) (sym (g.2).1)
        (past_right a g.0 c ((r g.0).0 g.1) (g.2).0)

    first_side : (x y : ExprId) → Sub x y ≡ Sub a c → x ≡ a
    first_side x y e = cc

    second_side : (x y : ExprId) → Sub x y ≡ Sub a c → y ≡ c
    second_side x y e = cc

    from_terms : (x y u v : ExprId) (k j : Node) → x ≡ a → y ≡ c → IsAt nodes x k → IsAt nodes y j
        → Has (matched_terms k j) (u, v) → OneOf (Sub u v)
    from_terms x y u v k j ex ey xk yj h =
        let ek : k ≡ m = one_node nodes a k m (subst (λ z. IsAt nodes z k) ex xk) am in
        let ej : j ≡ n = one_node nodes c j n (subst (λ z. IsAt nodes z j) ey yj) cn in
        let there : Has (matched_terms m n) (u, v) = subst (λ z. Has (matched_terms m z) (u, v)) ej
        (subst (λ z. Has (matched_terms z j) (u, v)) ek h) in
        inl (inl ((u, v), there, (λ _. Sub u v)))

    from : (d e : Node) → d ≡ Sub a c → LeadsToExpression nodes (Has pairs) d e → OneOf e
    from d e q (operands x y u v k j xk yj h) =
        from_terms x y u v k j (first_side x y q) (second_side x y q) xk yj h
    from d e q (past_left x b y p apart) =
        let ex = first_side x y q in let ey = second_side x y q in
        let at : Has pairs (a, b) = subst (λ z. Has pairs (z, b)) ex p in
        let three : AreApart a b c =
        subst (λ z. AreApart z b c) ex (subst (AreApart x b) ey apart) in
        inl (inr (b, (l b).1 at, (three, ap (Sub b) ey)))
    from d e q (past_right x b y p apart) =
        let ex = first_side x y q in let ey = second_side x y q in
        let at : Has pairs (c, b) = subst (λ z. Has pairs (z, b)) ey p in
        let three : AreApart a b c =
        subst (λ z. AreApart z b c) ex (subst (AreApart x b) ey apart) in
        inr (b, (r b).1 at, (three, ap (λ z. Sub z b) ex))

    pub leading : (old mid more new : List Node)
        → IsGrown old mid (IsGivenBy (matched_terms m n) IsDifferenceOf)
        → IsGrown mid more (IsGivenBy left (IsPastLeft a c))
        → IsGrown more new (IsGivenBy right (IsPastRight a c))
        → IsGrown old new (LeadsToExpression nodes (Has pairs) (Sub a c))
    leading old mid more new f g h = grown_same old new OneOf
        (LeadsToExpression nodes (Has pairs) (Sub a c)) to (λ e. from (Sub a c) e (λ _. Sub a c))
        (grown_both old more new _ (IsGivenBy right (IsPastRight a c)) (grown_both old mid more
        (IsGivenBy (matched_terms m n) IsDifferenceOf) (IsGivenBy left (IsPastLeft a c)) f g) h)

    pub overfull_terms : (old : List Node)
        → IsOverfull old (IsGivenBy (matched_terms m n) IsDifferenceOf)
        → IsOverfull old (LeadsToExpression nodes (Has pairs) (Sub a c))
    overfull_terms old o = overfull_wider old (IsGivenBy (matched_terms m n) IsDifferenceOf)
        (LeadsToExpression nodes (Has pairs) (Sub a c)) (λ e h. to e (inl (inl h))) o

    pub overfull_left : (old mid : List Node)
        → IsGrown old mid (IsGivenBy (matched_terms m n) IsDifferenceOf)
        → IsOverfull mid (IsGivenBy left (IsPastLeft a c))
        → IsOverfull old (LeadsToExpression nodes (Has pairs) (Sub a c))
    overfull_left old mid f o = overfull_wider old
        (λ e. IsGivenBy (matched_terms m n) IsDifferenceOf e ⊎ IsGivenBy left (IsPastLeft a c) e)
        (LeadsToExpression nodes (Has pairs) (Sub a c)) (λ e h. to e (inl h))
        (overfull_later old mid (IsGivenBy (matched_terms m n) IsDifferenceOf)
        (IsGivenBy left (IsPastLeft a c)) f o)

    pub overfull_right : (old mid more : List Node)
        → IsGrown old mid (IsGivenBy (matched_terms m n) IsDifferenceOf)
        → IsGrown mid more (IsGivenBy left (IsPastLeft a c))
        → IsOverfull more (IsGivenBy right (IsPastRight a c))
        → IsOverfull old (LeadsToExpression nodes (Has pairs) (Sub a c))
    overfull_right old mid more f g o =
        overfull_wider old OneOf (LeadsToExpression nodes (Has pairs) (Sub a c)) to
        (overfull_later old more _ (IsGivenBy right (IsPastRight a c)) (grown_both old mid more
        (IsGivenBy (matched_terms m n) IsDifferenceOf) (IsGivenBy left (IsPastLeft a c)) f g) o)

  -- what is no difference leads to nothing
  pub only_differences : (d e : Node) → ((a c : ExprId) → d ≢ Sub a c)
      → ¬ LeadsToExpression nodes (Has pairs) d e
  only_differences d e other (operands x y u v k j xk yj h) = other x y (λ _. Sub x y)
  only_differences d e other (past_left x b y p apart) = other x y (λ _. Sub x y)
  only_differences d e other (past_right x b y p apart) = other x y (λ _. Sub x y)

  pub leading_nothing : (old : List Node) (d : Node) → ((a c : ExprId) → d ≢ Sub a c)
      → IsGrown old old (LeadsToExpression nodes (Has pairs) d)
  leading_nothing old d other =
      grown_none old (LeadsToExpression nodes (Has pairs) d) (λ e. only_differences d e other)

  -- ---- the sides of all differences are nodes of the script
  module _ (o : IsOrdered nodes) (known : AreKnown nodes pairs) where
    step_known : (d e : Node) → HasKnownSides nodes d
        → LeadsToExpression nodes (Has pairs) d e → HasKnownSides nodes e
    step_known d e k (operands x y u v m n xm yn h) a c q =
        let s = k x y (λ _. Sub x y) in
        let f = matched_below x.0 y.0 m n (u, v) (children nodes o x m xm) (children nodes o y n yn)
        (terms_matched m n (u, v) h) in
        let eu : u ≡ a = cc in let ev : v ≡ c = cc in
        let i : x.0 < length nodes = s.0 in let j : y.0 < length nodes = s.1 in
        let g : u.0 < x.0 = f.0 in let w : v.0 < y.0 = f.1 in (
          subst (λ (z : ExprId). z.0 < length nodes) eu (omega arith),
          subst (λ (z : ExprId). z.0 < length nodes) ev (omega arith),
        )
    step_known d e k (past_left x b y p apart) a c q =
        let eb : b ≡ a = cc in let ey : y ≡ c = cc in (
          subst (λ (z : ExprId). z.0 < length nodes) eb (known (x, b) p).1,
          subst (λ (z : ExprId). z.0 < length nodes) ey (k x y (λ _. Sub x y)).1,
        )
    step_known d e k (past_right x b y p apart) a c q =
        let ex : x ≡ a = cc in let eb : b ≡ c = cc in (
          subst (λ (z : ExprId). z.0 < length nodes) ex (k x y (λ _. Sub x y)).0,
          subst (λ (z : ExprId). z.0 < length nodes) eb (known (y, b) p).1,
        )

    begin_known : (e : Node) → BeginsExpressions nodes (Has pairs) e → HasKnownSides nodes e
    begin_known e (written _ h) a c q =
        let x : ExprId = record { 0 = h.0 } in
        let at : IsAt nodes x (Sub a c) = subst (IsAt nodes x) q h.1 in
        let b = children nodes o x (Sub a c) at in
        let l : x.0 < length nodes =
        Rattle.std.proofs.lemmas.Option.slice_get_within nodes x.0 (Sub a c) at in
        let s : a.0 < x.0 = b.0 in let t : c.0 < x.0 = b.1 in
        (omega arith, omega arith)
    begin_known e (difference u v p) a c q =
        let eu : u ≡ a = cc in let ev : v ≡ c = cc in
        let k = known (u, v) p in (
          subst (λ (z : ExprId). z.0 < length nodes) eu k.0,
          subst (λ (z : ExprId). z.0 < length nodes) ev k.1,
        )

    pub taken_known : (e : Node) → IsTaken nodes (Has pairs) e → HasKnownSides nodes e
    taken_known e (begin _ b) = begin_known e b
    taken_known e (lead d _ r l) = step_known d e (taken_known d r) l
