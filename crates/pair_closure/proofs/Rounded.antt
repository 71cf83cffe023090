-- The roundings of the first nodes of a list.
use Rattle.std.specs.Prelude.{◌≡◌, ◌⊎◌, ◌<◌, ◌+◌, ℕ, List, [], Some, slice_get, length}
use Rattle.std.proofs.Common.{inl, inr, arith, ap, sym, subst}
use Rattle.std.proofs.lemmas.Option.{slice_get_within}
use Rattle.std.proofs.lemmas.Bool.{cases_lt}
use Rattle.fx_model.specs.declared.ExprId.{ExprId}
use Rattle.fx_model.specs.declared.Node.{Node}
use Rattle.fx_model.specs.declared.Node.TheVariants.{Var, Lit, Neg, Add, Sub, Mul, Div, Abs, Round}
use Rattle.expr_dag.specs.Nodes.{IsAt}
use Rattle.expr_dag.proofs.Nodes.{one_node}
use Rattle.pair_closure.specs.Reached.{Has}
use Rattle.pair_closure.specs.Closure.{Pair, IsRounding}
use Rattle.pair_closure.specs.Grown.{IsGrown}
use Rattle.pair_closure.specs.Roundings.{rounding_at}
use Rattle.pair_closure.proofs.Grown.{grown_none, grown_both, grown_same}
use Rattle.pair_closure.proofs.Members.{no_member, has_first, has_cases}

-- a rounding that stands below place i
abbrev pub IsRoundingBelow : List Node → ℕ → Pair → Type 0
IsRoundingBelow nodes i p = ((p.0).0 < i) × IsRounding nodes p

-- the list has just the rounding that the node is
listed : (nodes : List Node) (x : ExprId) (n : Node) (p : Pair) → IsAt nodes x n
    → Has (rounding_at x n) p → (p.0 ≡ x) × IsRounding nodes p
listed nodes x (Var k) p a h = absurd (no_member p h)
listed nodes x (Lit l) p a h = absurd (no_member p h)
listed nodes x (Neg y) p a h = absurd (no_member p h)
listed nodes x (Add y z) p a h = absurd (no_member p h)
listed nodes x (Sub y z) p a h = absurd (no_member p h)
listed nodes x (Mul y z) p a h = absurd (no_member p h)
listed nodes x (Div y z) p a h = absurd (no_member p h)
listed nodes x (Abs y) p a h = absurd (no_member p h)
listed nodes x (Round r e) p a h = elim (has_cases (x, e) [] p h) [
  | inl s ↦ (ap (λ (q : Pair). q.0) s, subst (IsRounding nodes) (sym s) (r, a))
  | inr n ↦ absurd (no_member p n)
]

back : (nodes : List Node) (x : ExprId) (n : Node) (p : Pair) → IsAt nodes x n → p.0 ≡ x
    → IsRounding nodes p → Has (rounding_at x n) p
back nodes x n p a s r =
    let at : IsAt nodes x (Round r.0 p.1) = subst (λ y. IsAt nodes y (Round r.0 p.1)) s r.1 in
    let is : n ≡ Round r.0 p.1 = one_node nodes x n (Round r.0 p.1) a at in
    let here : Has (rounding_at x (Round r.0 p.1)) (x, p.1) = has_first (x, p.1) [] in
    subst (λ m. Has (rounding_at x m) p) (sym is)
    (subst (λ y. Has (rounding_at x (Round r.0 p.1)) (y, p.1)) (sym s) here)

module _ (nodes : List Node) where
  pub roundings_start : (old : List Pair) → IsGrown old old (IsRoundingBelow nodes 0)
  roundings_start old =
      grown_none old (IsRoundingBelow nodes 0) (λ p h. let l : (p.0).0 < 0 = h.0 in omega arith)

  pub roundings_more : (old mid new : List Pair) (i : ℕ) (n : Node)
      → slice_get nodes i ≡ Some n → IsGrown old mid (IsRoundingBelow nodes i)
      → IsGrown mid new (Has (rounding_at (record { 0 = i }) n))
      → IsGrown old new (IsRoundingBelow nodes (i + 1))
  roundings_more old mid new i n a g h =
      let x : ExprId = record { 0 = i } in
      grown_same old new (λ p. IsRoundingBelow nodes i p ⊎ Has (rounding_at x n) p)
      (IsRoundingBelow nodes (i + 1)) to from
      (grown_both old mid new (IsRoundingBelow nodes i) (Has (rounding_at x n)) g h)
    where
      to : (p : Pair) → IsRoundingBelow nodes i p ⊎ Has (rounding_at (record { 0 = i }) n) p
          → IsRoundingBelow nodes (i + 1) p
      to p (inl b) = (let l : (p.0).0 < i = b.0 in omega arith, b.1)
      to p (inr l) = let f = listed nodes (record { 0 = i }) n p a l in
          let e : (p.0).0 ≡ i = ap (λ (y : ExprId). y.0) f.0 in (omega arith, f.1)

      from : (p : Pair) → IsRoundingBelow nodes (i + 1) p
          → IsRoundingBelow nodes i p ⊎ Has (rounding_at (record { 0 = i }) n) p
      from p b = elim (cases_lt (p.0).0 i) [
        | inl l ↦ inl (l, b.1)
        | inr l ↦ (let m : (p.0).0 < i + 1 = b.0 in let e : (p.0).0 ≡ i = omega arith in
            inr (back nodes (record { 0 = i }) n p a (λ j. record { 0 = e j }) b.1))
      ]

  pub roundings_end : (old new : List Pair) (i : ℕ) → i ≡ length nodes
      → IsGrown old new (IsRoundingBelow nodes i) → IsGrown old new (IsRounding nodes)
  roundings_end old new i e g =
      grown_same old new (IsRoundingBelow nodes i) (IsRounding nodes) (λ p b. b.1)
      (λ p r. (let w = slice_get_within nodes (p.0).0 (Round r.0 p.1) r.1 in omega arith, r)) g
