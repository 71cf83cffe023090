-- The lists of a difference past other expressions have exactly its chains, each once.
use Rattle.std.specs.Prelude.{◌≡◌, ◌⊎◌, ◌↔◌, ◌&&◌, ℕ, Bool, true, false, not, if◌then◌else◌, List}
use Rattle.std.specs.Prelude.{[], ◌∷◌, Some, refl}
use Rattle.std.proofs.Common.{inl, inr, ap, sym, ◌∙◌, subst}
use Rattle.std.proofs.lemmas.Bool.{and_parts, not-true}
use Rattle.fx_model.specs.declared.ExprId.{ExprId}
use Rattle.fx_model.specs.declared.Node.{Node}
use Rattle.fx_model.specs.declared.Node.TheVariants.{Sub}
use Rattle.expr_dag.specs.Nodes.{IsAt, place_of}
use Rattle.expr_dag.proofs.Nodes.{one_node}
use Rattle.pair_closure.specs.Reached.{Has, IsEachOnce}
use Rattle.pair_closure.specs.Closure.{Pair, AreApart, is_same}
use Rattle.pair_closure.proofs.Members.{no_member, has_first, once_nil}
use Rattle.pair_closure.proofs.Ids.{not_same, apart_ids}
use Rattle.facts.specs.declared.fact.Slot.TheVariants as slot
use Rattle.facts.specs.declared.instance.Instance.{Instance}
use Rattle.rule_instances.specs.Slots.{rule}
use Rattle.rule_instances.specs.Instances.{OfChain}
use Rattle.rule_instances.specs.Instances.OfChain.{rule_75, rule_76}
use Rattle.rule_instances.specs.Found.{past_left, past_right}
use Rattle.rule_instances.specs.InOrder.{each_at, apart, one_left, one_right}
use Rattle.rule_instances.proofs.OfDifferences.{both_out, both_in, both_once, one_out, one_once}
use Rattle.rule_instances.proofs.Each.{at_place, place_at, each_out, each_in, each_once}
use Rattle.rule_instances.proofs.Families.{first_of}

-- ---- the test
apart_out : (a b c : ExprId) → apart a b c ≡ true → AreApart a b c
apart_out a b c e =
    let f = and_parts (not (is_same a b)) (not (is_same b c) && not (is_same a c)) e in
    let g = and_parts (not (is_same b c)) (not (is_same a c)) f.1 in (
      apart_ids a b (not-true (is_same a b) f.0),
      apart_ids b c (not-true (is_same b c) g.0),
      apart_ids a c (not-true (is_same a c) g.1),
    )

apart_in : (a b c : ExprId) → AreApart a b c → apart a b c ≡ true
apart_in a b c t = (λ i. not (not_same a b t.0 (is_same a b) refl i)
    && (not (not_same b c t.1 (is_same b c) refl i) && not (not_same a c t.2 (is_same a c) refl i)))

if_out : (b : Bool) (xs : List Instance) (i : Instance)
    → Has (if b then xs else []) i → (b ≡ true) × Has xs i
if_out true xs i h = (refl, h)
if_out false xs i h = absurd (no_member i h)

if_in : (b : Bool) (xs : List Instance) (i : Instance) → b ≡ true → Has xs i
    → Has (if b then xs else []) i
if_in b xs i e h = subst (λ c. Has (if c then xs else []) i) (sym e) h

if_once : (b : Bool) (xs : List Instance) → IsEachOnce xs → IsEachOnce (if b then xs else [])
if_once true xs o = o
if_once false xs o = once_nil

module _ (nodes : List Node) (pairs : List Pair) (number : (w : ExprId) (n : Node)
    → (place_of nodes n ≡ Some w) ↔ IsAt nodes w n) (x a c : ExprId) (at : IsAt nodes x (Sub a c))
    (left right : List ExprId)
    (l : (b : ExprId) → Has left b ↔ Has pairs (a, b))
    (r : (b : ExprId) → Has right b ↔ Has pairs (c, b)) where
  abbrev Left : ExprId → ExprId → Instance
  Left p q = rule 75 (slot.Bnd p ∷ slot.Bnd q ∷ []) (slot.Bnd x)

  abbrev Right : ExprId → ExprId → Instance
  Right p q = rule 76 (slot.Bnd p ∷ slot.Bnd q ∷ []) (slot.Bnd x)

  -- what an instance past b is
  left_parts : (k : ℕ) (b : ExprId) (i : Instance) → Has (one_left nodes x a c k b) i
      → AreApart a b c × ((p : ExprId) × (q : ExprId) × IsAt nodes p (Sub a b)
      × IsAt nodes q (Sub b c) × (i ≡ Left p q))
  left_parts k b i h =
      let f = if_out (apart a b c) (past_left nodes x a c b) i h in
      let o = both_out (place_of nodes (Sub a b)) (place_of nodes (Sub b c))
      (λ p q. Left p q ∷ []) i f.1 in (
        apart_out a b c f.0,
        (o.0, o.1, (number o.0 (Sub a b)).0 o.2, (number o.1 (Sub b c)).0 o.3, one_out _ i o.4),
      )

  right_parts : (k : ℕ) (b : ExprId) (i : Instance) → Has (one_right nodes x a c k b) i
      → AreApart a b c × ((p : ExprId) × (q : ExprId) × IsAt nodes p (Sub a b)
      × IsAt nodes q (Sub c b) × (i ≡ Right p q))
  right_parts k b i h =
      let f = if_out (apart a b c) (past_right nodes x a c b) i h in
      let o = both_out (place_of nodes (Sub a b)) (place_of nodes (Sub c b))
      (λ p q. Right p q ∷ []) i f.1 in (
        apart_out a b c f.0,
        (o.0, o.1, (number o.0 (Sub a b)).0 o.2, (number o.1 (Sub c b)).0 o.3, one_out _ i o.4),
      )

  -- ---- only chains
  pub left_only : (i : Instance) → Has (each_at (one_left nodes x a c) 0 left) i
      → OfChain nodes (Has pairs) x i
  left_only i h =
      let e = each_out (one_left nodes x a c) 0 left i h in
      let g = left_parts e.0 e.1 i e.3 in
      let p = g.1 in
      subst (OfChain nodes (Has pairs) x) (sym p.4)
      (rule_75 a e.1 c p.0 p.1 at p.2 p.3 ((l e.1).0 (e.0, at_place left e.0 e.1 e.2)) g.0)

  pub right_only : (i : Instance) → Has (each_at (one_right nodes x a c) 0 right) i
      → OfChain nodes (Has pairs) x i
  right_only i h =
      let e = each_out (one_right nodes x a c) 0 right i h in
      let g = right_parts e.0 e.1 i e.3 in
      let p = g.1 in
      subst (OfChain nodes (Has pairs) x) (sym p.4)
      (rule_76 a e.1 c p.0 p.1 at p.2 p.3 ((r e.1).0 (e.0, at_place right e.0 e.1 e.2)) g.0)

  -- ---- all chains
  first_is : (u v : ExprId) → IsAt nodes x (Sub u v) → u ≡ a
  first_is u v e = let s : Sub u v ≡ Sub a c = one_node nodes x (Sub u v) (Sub a c) e at in cc

  second_is : (u v : ExprId) → IsAt nodes x (Sub u v) → v ≡ c
  second_is u v e = let s : Sub u v ≡ Sub a c = one_node nodes x (Sub u v) (Sub a c) e at in cc

  abbrev Both : Instance → Type 0
  Both i = Has (each_at (one_left nodes x a c) 0 left) i
      ⊎ Has (each_at (one_right nodes x a c) 0 right) i

  left_in : (u v b p q : ExprId) → u ≡ a → v ≡ c → IsAt nodes p (Sub u b) → IsAt nodes q (Sub b v)
      → Has pairs (u, b) → AreApart u b v → Both (Left p q)
  left_in u v b p q eu ev pa qb m t =
      let pa2 : IsAt nodes p (Sub a b) = subst (λ w. IsAt nodes p (Sub w b)) eu pa in
      let qb2 : IsAt nodes q (Sub b c) = subst (λ w. IsAt nodes q (Sub b w)) ev qb in
      let m2 : Has left b = (l b).1 (subst (λ w. Has pairs (w, b)) eu m) in
      let t2 : AreApart a b c = subst (λ w. AreApart w b c) eu (subst (AreApart u b) ev t) in
      inl (each_in (one_left nodes x a c) 0 left (Left p q) m2.0 b (place_at left m2.0 b m2.1)
      (if_in (apart a b c) (past_left nodes x a c b) (Left p q) (apart_in a b c t2)
      (both_in (place_of nodes (Sub a b)) (place_of nodes (Sub b c)) p q (λ p q. Left p q ∷ []) _
      ((number p (Sub a b)).1 pa2) ((number q (Sub b c)).1 qb2) (has_first (Left p q) []))))

  right_in : (u v b p q : ExprId) → u ≡ a → v ≡ c → IsAt nodes p (Sub u b) → IsAt nodes q (Sub v b)
      → Has pairs (v, b) → AreApart u b v → Both (Right p q)
  right_in u v b p q eu ev pa qb m t =
      let pa2 : IsAt nodes p (Sub a b) = subst (λ w. IsAt nodes p (Sub w b)) eu pa in
      let qb2 : IsAt nodes q (Sub c b) = subst (λ w. IsAt nodes q (Sub w b)) ev qb in
      let m2 : Has right b = (r b).1 (subst (λ w. Has pairs (w, b)) ev m) in
      let t2 : AreApart a b c = subst (λ w. AreApart w b c) eu (subst (AreApart u b) ev t) in
      inr (each_in (one_right nodes x a c) 0 right (Right p q) m2.0 b (place_at right m2.0 b m2.1)
      (if_in (apart a b c) (past_right nodes x a c b) (Right p q) (apart_in a b c t2)
      (both_in (place_of nodes (Sub a b)) (place_of nodes (Sub c b)) p q (λ p q. Right p q ∷ []) _
      ((number p (Sub a b)).1 pa2) ((number q (Sub c b)).1 qb2) (has_first (Right p q) []))))

  pub chain_in : (i : Instance) → OfChain nodes (Has pairs) x i → Both i
  chain_in i (rule_75 u b v p q e pa qb m t) =
      left_in u v b p q (first_is u v e) (second_is u v e) pa qb m t
  chain_in i (rule_76 u b v p q e pa qb m t) =
      right_in u v b p q (first_is u v e) (second_is u v e) pa qb m t

  -- ---- each once: the first premise is the difference with b
  same_past : (b d p q : ExprId) → p ≡ q → IsAt nodes p (Sub a b) → IsAt nodes q (Sub a d) → b ≡ d
  same_past b d p q e f g = let s : Sub a b ≡ Sub a d =
      one_node nodes q (Sub a b) (Sub a d) (subst (λ w. IsAt nodes w (Sub a b)) e f) g in cc

  pub left_once : IsEachOnce left → IsEachOnce (each_at (one_left nodes x a c) 0 left)
  left_once o = each_once (one_left nodes x a c) 0 left
      (λ n b e. if_once (apart a b c) (past_left nodes x a c b)
      (both_once (place_of nodes (Sub a b)) (place_of nodes (Sub b c)) _ (λ p q. one_once _)))
      (λ n m b d i e f g h.
      let s = (left_parts n b i g).1 in
      let t = (left_parts m d i h).1 in
      let first : s.0 ≡ t.0 = ap (λ (j : Instance). first_of j.premises) (sym s.4 ∙ t.4) in
      o n m d (at_place left n b e
      ∙ ap Some (same_past b d s.0 t.0 first s.2 t.2)) (at_place left m d f))

  pub right_once : IsEachOnce right → IsEachOnce (each_at (one_right nodes x a c) 0 right)
  right_once o = each_once (one_right nodes x a c) 0 right
      (λ n b e. if_once (apart a b c) (past_right nodes x a c b)
      (both_once (place_of nodes (Sub a b)) (place_of nodes (Sub c b)) _ (λ p q. one_once _)))
      (λ n m b d i e f g h.
      let s = (right_parts n b i g).1 in
      let t = (right_parts m d i h).1 in
      let first : s.0 ≡ t.0 = ap (λ (j : Instance). first_of j.premises) (sym s.4 ∙ t.4) in
      o n m d (at_place right n b e
      ∙ ap Some (same_past b d s.0 t.0 first s.2 t.2)) (at_place right m d f))

  pub left_rule : (i : Instance) → Has (each_at (one_left nodes x a c) 0 left) i → i.rule ≡ 75
  left_rule i h = let e = each_out (one_left nodes x a c) 0 left i h in
      ap (λ (j : Instance). j.rule) ((left_parts e.0 e.1 i e.3).1).4

  pub right_rule : (i : Instance) → Has (each_at (one_right nodes x a c) 0 right) i → i.rule ≡ 76
  right_rule i h = let e = each_out (one_right nodes x a c) 0 right i h in
      ap (λ (j : Instance). j.rule) ((right_parts e.0 e.1 i e.3).1).4
