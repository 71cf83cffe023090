-- The list of all instances has exactly these, each once.
use Rattle.std.specs.Prelude.{◌≡◌, ◌≢◌, ◌⊎◌, ◌↔◌, ◌<◌, ℕ, List, [], ◌∷◌, ◌++◌, Some, slice_get}
use Rattle.std.specs.Prelude.{length, refl}
use Rattle.std.specs.List.{AllByRecursion}
use Rattle.std.proofs.Common.{inl, inr, arith, ap, sym, ◌∙◌}
use Rattle.std.proofs.lemmas.Option.{slice_get-get_or}
use Rattle.fx_model.specs.declared.ExprId.{ExprId}
use Rattle.fx_model.specs.declared.Node.{Node}
use Rattle.fx_model.specs.declared.Node.TheVariants.{Var, Lit, Neg, Add, Sub, Mul, Div, Abs, Round}
use Rattle.expr_dag.specs.Nodes.{IsAt, place_of}
use Rattle.pair_closure.specs.Reached.{Has, IsEachOnce, IsListOf}
use Rattle.pair_closure.specs.Closure.{Pair, AreKnown}
use Rattle.pair_closure.specs.Rows.{seconds}
use Rattle.pair_closure.proofs.Members.{no_member, has_all, has_left, has_right, has_either}
use Rattle.pair_closure.proofs.Members.{once_nil, once_cons, once_append}
use Rattle.pair_closure.specs.Among.{is_among}
use Rattle.facts.specs.declared.fact.Slot.{Slot}
use Rattle.facts.specs.declared.fact.Slot.TheVariants as slot
use Rattle.facts.specs.declared.hint.HintRow.{HintRow}
use Rattle.facts.specs.declared.instance.Instance.{Instance}
use Rattle.rule_instances.specs.Slots.{rule, rewriting}
use Rattle.rule_instances.specs.Lists.{at_any, at_operation}
use Rattle.rule_instances.specs.Found.{at_error, at_terms, at_pair}
use Rattle.rule_instances.specs.InOrder.{each_at, id_at, of_node, node_of, one_left, one_right}
use Rattle.rule_instances.specs.InOrder.{of_sides, of_difference, past_of, of_pair, of_hint}
use Rattle.rule_instances.specs.InOrder.{instance_list}
use Rattle.rule_instances.specs.Instances.{OfAny, OfOperation, OfError, OfTerms, OfChain, OfPair}
use Rattle.rule_instances.specs.Instances.{OfHint, IsInstance}
use Rattle.rule_instances.specs.Instances.OfError.{rule_42, rule_43, rule_44}
use Rattle.rule_instances.specs.Instances.OfTerms.{rule_71, rule_72, rule_73, rule_74}
use Rattle.rule_instances.specs.Instances.OfChain.{rule_75, rule_76}
use Rattle.rule_instances.specs.Instances.OfHint.{rule_80_bound, rule_80_size, rule_80_multiple}
use Rattle.rule_instances.specs.Instances.OfHint.{rule_80_nonzero}
use Rattle.rule_instances.specs.Instances.IsInstance.{of_any, of_operation, of_error, of_terms}
use Rattle.rule_instances.specs.Instances.IsInstance.{of_chain, of_pair as by_pair}
use Rattle.rule_instances.specs.Instances.IsInstance.{of_hint as by_hint}
use Rattle.rule_instances.proofs.Each.{At, at_place, place_at, each_out, each_in, each_once}
use Rattle.rule_instances.proofs.Families.{kind, home, any_home, operation_home, operation_node}
use Rattle.rule_instances.proofs.Families.{error_home, terms_home, chain_home, pair_read, hint_read}
use Rattle.rule_instances.proofs.Lists.{given_out, given_once}
use Rattle.rule_instances.proofs.Operations.{any_list, operation_list}
use Rattle.rule_instances.proofs.OfDifferences.{error_list, terms_list}
use Rattle.rule_instances.proofs.OfChains.{left_only, right_only, chain_in, left_once, right_once}
use Rattle.rule_instances.proofs.OfChains.{left_rule, right_rule}
use Rattle.rule_instances.proofs.OfPairs.{pair_only, pair_in, past_only}
use Rattle.rule_instances.proofs.PairsOnce.{pair_once, not_58}

-- instances of different kinds are two
apart_by : (k j : ℕ) (xs ys : List Instance) → ((i : Instance) → Has xs i → kind i.rule ≡ k)
    → ((i : Instance) → Has ys i → kind i.rule ≡ j) → k ≢ j → (i : Instance) → Has xs i → ¬ Has ys i
apart_by k j xs ys f g ne i m n = ne (sym (f i m) ∙ g i n)

module _ (nodes : List Node) (pairs : List Pair) (number : (w : ExprId) (n : Node)
    → (place_of nodes n ≡ Some w) ↔ IsAt nodes w n) (once : IsEachOnce pairs)
    (known : AreKnown nodes pairs)
    (seen : (a b : ExprId) → Has (seconds pairs a) b ↔ Has pairs (a, b))
    (each : (a : ExprId) → IsEachOnce (seconds pairs a)) where
  abbrev P : Pair → Type 0
  P = Has pairs

  node_at : (x : ExprId) → x.0 < length nodes → IsAt nodes x (node_of nodes x)
  node_at x l = slice_get-get_or nodes x.0 (Var 0) l

  -- ---- expressions
  node_only : (k : ℕ) (n : Node) (i : Instance) → slice_get nodes k ≡ Some n → Has (of_node k n) i
      → OfAny (id_at k) i ⊎ OfOperation nodes (id_at k) i
  node_only k n i at h = elim (has_either (at_any (id_at k)) (at_operation (id_at k) n) i h) [
    | inl a ↦ inl ((any_list (id_at k)).only i a)
    | inr b ↦ inr ((operation_list nodes (id_at k) n at).only i b)
  ]

  node_home : (k : ℕ) (i : Instance)
      → OfAny (id_at k) i ⊎ OfOperation nodes (id_at k) i → home i ≡ id_at k
  node_home k i (inl a) = (any_home (id_at k) i a).0
  node_home k i (inr o) = (operation_home nodes (id_at k) i o).0

  same_number : (k j : ℕ) → id_at k ≡ id_at j → k ≡ j
  same_number k j e = ap (λ (x : ExprId). x.0) e

  nodes_once : IsEachOnce (each_at of_node 0 nodes)
  nodes_once = each_once of_node 0 nodes
      (λ k n a. once_append (at_any (id_at k)) (at_operation (id_at k) n)
      (any_list (id_at k)).once (operation_list nodes (id_at k) n (at_place nodes k n a)).once
      (apart_by 0 1 (at_any (id_at k)) (at_operation (id_at k) n)
      (λ i h. (any_home (id_at k) i ((any_list (id_at k)).only i h)).1)
      (λ i h. (operation_home nodes (id_at k) i ((operation_list nodes (id_at k) n
      (at_place nodes k n a)).only i h)).1) (λ e. let s : 0 ≡ 1 = e in absurd (omega arith))))
      (λ k j n m i a b g h. same_number k j
      (sym (node_home k i (node_only k n i (at_place nodes k n a) g))
      ∙ node_home j i (node_only j m i (at_place nodes j m b) h)))

  -- ---- differences
  module _ (x a c : ExprId) (at : IsAt nodes x (Sub a c)) (am : IsAt nodes a (node_of nodes a))
      (cn : IsAt nodes c (node_of nodes c)) where
    abbrev Errors : List Instance
    Errors = at_error x (node_of nodes a) c

    abbrev Terms : List Instance
    Terms = at_terms nodes x (node_of nodes a) (node_of nodes c)

    abbrev Lefts : List Instance
    Lefts = each_at (one_left nodes x a c) 0 (seconds pairs a)

    abbrev Rights : List Instance
    Rights = each_at (one_right nodes x a c) 0 (seconds pairs c)

    errors_are : IsListOf (OfError nodes x) Errors
    errors_are = error_list nodes x a c at (node_of nodes a) am

    terms_are : IsListOf (OfTerms nodes x) Terms
    terms_are = terms_list nodes x a c at number (node_of nodes a) (node_of nodes c) am cn

    abbrev OfSides : Instance → Type 0
    OfSides i = OfError nodes x i ⊎ (OfTerms nodes x i ⊎ OfChain nodes P x i)

    sides_only : (i : Instance) → Has (of_sides nodes pairs x a c) i → OfSides i
    sides_only i h = elim (has_either Errors (Terms ++ (Lefts ++ Rights)) i h) [
      | inl e ↦ inl (errors_are.only i e)
      | inr r ↦ elim (has_either Terms (Lefts ++ Rights) i r) [
        | inl t ↦ inr (inl (terms_are.only i t))
        | inr s ↦ elim (has_either Lefts Rights i s) [
          | inl l ↦ inr (inr (left_only nodes pairs number x a c at (seconds pairs a)
              (seconds pairs c) (seen a) (seen c) i l))
          | inr q ↦ inr (inr (right_only nodes pairs number x a c at (seconds pairs a)
              (seconds pairs c) (seen a) (seen c) i q))
        ]
      ]
    ]

    sides_in : (i : Instance) → OfSides i → Has (of_sides nodes pairs x a c) i
    sides_in i (inl e) = has_left Errors (Terms ++ (Lefts ++ Rights)) i (errors_are.each i e)
    sides_in i (inr (inl t)) = has_right Errors (Terms ++ (Lefts ++ Rights)) i
        (has_left Terms (Lefts ++ Rights) i (terms_are.each i t))
    sides_in i (inr (inr o)) =
        has_right Errors (Terms ++ (Lefts ++ Rights)) i (has_right Terms (Lefts ++ Rights) i
        (elim (chain_in nodes pairs number x a c at (seconds pairs a) (seconds pairs c)
        (seen a) (seen c) i o) [
          | inl l ↦ has_left Lefts Rights i l
          | inr q ↦ has_right Lefts Rights i q
        ]))

    left_kind : (i : Instance) → Has Lefts i → kind i.rule ≡ 4
    left_kind i h = ap kind (left_rule nodes pairs number x a c at (seconds pairs a)
        (seconds pairs c) (seen a) (seen c) i h)

    right_kind : (i : Instance) → Has Rights i → kind i.rule ≡ 5
    right_kind i h = ap kind (right_rule nodes pairs number x a c at (seconds pairs a)
        (seconds pairs c) (seen a) (seen c) i h)

    error_kind : (i : Instance) → Has Errors i → kind i.rule ≡ 2
    error_kind i h = (error_home nodes x i (errors_are.only i h)).1

    terms_kind : (i : Instance) → Has Terms i → kind i.rule ≡ 3
    terms_kind i h = (terms_home nodes x i (terms_are.only i h)).1

    -- past the errors, and past the terms
    past_errors : (i : Instance) → Has (Terms ++ (Lefts ++ Rights)) i → 2 < kind i.rule
    past_errors i h = elim (has_either Terms (Lefts ++ Rights) i h) [
      | inl t ↦ (let e : kind i.rule ≡ 3 = terms_kind i t in omega (arith, e))
      | inr r ↦ elim (has_either Lefts Rights i r) [
        | inl l ↦ (let e : kind i.rule ≡ 4 = left_kind i l in omega (arith, e))
        | inr q ↦ (let e : kind i.rule ≡ 5 = right_kind i q in omega (arith, e))
      ]
    ]

    past_terms : (i : Instance) → Has (Lefts ++ Rights) i → 3 < kind i.rule
    past_terms i h = elim (has_either Lefts Rights i h) [
      | inl l ↦ (let e : kind i.rule ≡ 4 = left_kind i l in omega (arith, e))
      | inr q ↦ (let e : kind i.rule ≡ 5 = right_kind i q in omega (arith, e))
    ]

    sides_once : IsEachOnce (of_sides nodes pairs x a c)
    sides_once = once_append Errors (Terms ++ (Lefts ++ Rights)) errors_are.once
        (once_append Terms (Lefts ++ Rights) terms_are.once
        (once_append Lefts Rights
        (left_once nodes pairs number x a c at (seconds pairs a) (seconds pairs c)
        (seen a) (seen c) (each a))
        (right_once nodes pairs number x a c at (seconds pairs a) (seconds pairs c)
        (seen a) (seen c) (each c))
        (apart_by 4 5 Lefts Rights left_kind right_kind
        (λ e. let s : 4 ≡ 5 = e in absurd (omega arith))))
        (λ i t r. (let l : 3 < kind i.rule = past_terms i r in
        let e : kind i.rule ≡ 3 = terms_kind i t in absurd (omega arith))))
        (λ i e r. (let l : 2 < kind i.rule = past_errors i r in
        let f : kind i.rule ≡ 2 = error_kind i e in absurd (omega arith)))

  sides_home : (x : ExprId) (i : Instance)
      → OfError nodes x i ⊎ (OfTerms nodes x i ⊎ OfChain nodes P x i) → (home i ≡ x)
      × ((kind i.rule ≡ 2) ⊎ ((kind i.rule ≡ 3) ⊎ ((kind i.rule ≡ 4) ⊎ (kind i.rule ≡ 5))))
  sides_home x i (inl e) = let r = error_home nodes x i e in (r.0, inl r.1)
  sides_home x i (inr (inl t)) = let r = terms_home nodes x i t in (r.0, inr (inl r.1))
  sides_home x i (inr (inr o)) = let r = chain_home nodes P x i o in (r.0, inr (inr r.1))

  -- what is no difference gives none; of a difference, its sides are nodes
  module _ (ordered : (x : ExprId) (a c : ExprId) → IsAt nodes x (Sub a c)
      → (a.0 < length nodes) × (c.0 < length nodes)) where
    difference_only : (k : ℕ) (n : Node) (i : Instance)
        → slice_get nodes k ≡ Some n → Has (of_difference nodes pairs k n) i
        → OfError nodes (id_at k) i ⊎ (OfTerms nodes (id_at k) i ⊎ OfChain nodes P (id_at k) i)
    difference_only k (Sub a c) i at h = let l = ordered (id_at k) a c at in
        sides_only (id_at k) a c at (node_at a l.0) (node_at c l.1) i h
    difference_only k (Var m) i at h = absurd (no_member i h)
    difference_only k (Lit l) i at h = absurd (no_member i h)
    difference_only k (Neg y) i at h = absurd (no_member i h)
    difference_only k (Add y z) i at h = absurd (no_member i h)
    difference_only k (Mul y z) i at h = absurd (no_member i h)
    difference_only k (Div y z) i at h = absurd (no_member i h)
    difference_only k (Abs y) i at h = absurd (no_member i h)
    difference_only k (Round r y) i at h = absurd (no_member i h)

    difference_once : (k : ℕ) (n : Node) → slice_get nodes k ≡ Some n
        → IsEachOnce (of_difference nodes pairs k n)
    difference_once k (Sub a c) at = let l = ordered (id_at k) a c at in
        sides_once (id_at k) a c at (node_at a l.0) (node_at c l.1)
    difference_once k (Var m) at = once_nil
    difference_once k (Lit l) at = once_nil
    difference_once k (Neg y) at = once_nil
    difference_once k (Add y z) at = once_nil
    difference_once k (Mul y z) at = once_nil
    difference_once k (Div y z) at = once_nil
    difference_once k (Abs y) at = once_nil
    difference_once k (Round r y) at = once_nil

    differences_once : IsEachOnce (each_at (of_difference nodes pairs) 0 nodes)
    differences_once = each_once (of_difference nodes pairs) 0 nodes
        (λ k n a. difference_once k n (at_place nodes k n a))
        (λ k j n m i a b g h. same_number k j
        (sym (sides_home (id_at k) i (difference_only k n i (at_place nodes k n a) g)).0
        ∙ (sides_home (id_at j) i (difference_only j m i (at_place nodes j m b) h)).0))

    -- an instance of a difference stands in the list
    in_differences : (x a c : ExprId) (i : Instance)
        → IsAt nodes x (Sub a c) → OfError nodes x i ⊎ (OfTerms nodes x i ⊎ OfChain nodes P x i)
        → Has (each_at (of_difference nodes pairs) 0 nodes) i
    in_differences x a c i at o =
        let l = ordered x a c at in
        each_in (of_difference nodes pairs) 0 nodes i x.0 (Sub a c)
        (place_at nodes x.0 (Sub a c) at) (sides_in x a c at (node_at a l.0) (node_at c l.1) i o)

    error_at : (x : ExprId) (i : Instance) → OfError nodes x i
        → (a : ExprId) × (c : ExprId) × IsAt nodes x (Sub a c)
    error_at x i (rule_42 r y a e f) = (y, a, e)
    error_at x i (rule_43 r y a e f s) = (y, a, e)
    error_at x i (rule_44 r y a e f) = (y, a, e)

    terms_at : (x : ExprId) (i : Instance) → OfTerms nodes x i
        → (a : ExprId) × (c : ExprId) × IsAt nodes x (Sub a c)
    terms_at x i (rule_71 y z a b c d p q e f g h j) = (y, z, e)
    terms_at x i (rule_72 y z a b c d p q e f g h j) = (y, z, e)
    terms_at x i (rule_73 y z a b c d p q e f g h j) = (y, z, e)
    terms_at x i (rule_74 y z a b p e f g h) = (y, z, e)

    chain_at : (x : ExprId) (i : Instance) → OfChain nodes P x i
        → (a : ExprId) × (c : ExprId) × IsAt nodes x (Sub a c)
    chain_at x i (rule_75 a b c p q e f g h t) = (a, c, e)
    chain_at x i (rule_76 a b c p q e f g h t) = (a, c, e)

    -- ---- pairs
    past_parts : (x y : ExprId) (k : ℕ) (c : ExprId) (i : Instance) → Has (past_of pairs x y k c) i
        → (i.rule ≡ 58) × (i.target ≡ slot.Rel x c)
    past_parts x y k c i h = let g = given_out (is_among pairs (x, c))
        (rule 58 (slot.Rel x y ∷ slot.Rel y c ∷ []) (slot.Rel x c)) i h in
        (ap (λ (j : Instance). j.rule) g.1, ap (λ (j : Instance). j.target) g.1)

    second_side : (x c z d : ExprId) → slot.Rel x c ≡ slot.Rel z d → c ≡ d
    second_side x c z d e = cc

    pasts_once : (x y : ExprId) → IsEachOnce (each_at (past_of pairs x y) 0 (seconds pairs y))
    pasts_once x y = each_once (past_of pairs x y) 0 (seconds pairs y) (λ k c a. given_once
        (is_among pairs (x, c)) (rule 58 (slot.Rel x y ∷ slot.Rel y c ∷ []) (slot.Rel x c)))
        (λ k j c d i a b g h.
        let s : c ≡ d = second_side x c x d (sym (past_parts x y k c i g).1
        ∙ (past_parts x y j d i h).1) in
        each y k j d (at_place (seconds pairs y) k c a ∙ ap Some s)
        (at_place (seconds pairs y) j d b))

    pair_cases : (k : ℕ) (p : Pair) (i : Instance) → Has pairs p → Has (of_pair nodes pairs k p) i
        → OfPair nodes P p.0 p.1 i
    pair_cases k p i w h =
        let l = known p w in
        elim (has_either (at_pair nodes pairs p.0 p.1 (node_of nodes p.0) (node_of nodes p.1))
        (each_at (past_of pairs p.0 p.1) 0 (seconds pairs p.1)) i h) [
          | inl a ↦ pair_only nodes pairs number p.0 p.1 (node_of nodes p.0) (node_of nodes p.1)
              (node_at p.0 l.0) (node_at p.1 l.1) i a
          | inr b ↦
              let e = each_out (past_of pairs p.0 p.1) 0 (seconds pairs p.1) i b in
              past_only nodes pairs number p.0 p.1 e.1
              ((seen p.1 e.1).0 (e.0, at_place (seconds pairs p.1) e.0 e.1 e.2)) i e.3
        ]

    pair_back : (k : ℕ) (p : Pair) (i : Instance) → Has pairs p → OfPair nodes P p.0 p.1 i
        → Has (of_pair nodes pairs k p) i
    pair_back k p i w o =
        let l = known p w in
        elim (pair_in nodes pairs number p.0 p.1 (node_of nodes p.0) (node_of nodes p.1)
        (node_at p.0 l.0) (node_at p.1 l.1) i o) [
          | inl a ↦ has_left (at_pair nodes pairs p.0 p.1 (node_of nodes p.0) (node_of nodes p.1))
              (each_at (past_of pairs p.0 p.1) 0 (seconds pairs p.1)) i a
          | inr b ↦
              let m = (seen p.1 b.0).1 b.1 in
              has_right (at_pair nodes pairs p.0 p.1 (node_of nodes p.0) (node_of nodes p.1))
              (each_at (past_of pairs p.0 p.1) 0 (seconds pairs p.1)) i
              (each_in (past_of pairs p.0 p.1) 0 (seconds pairs p.1) i m.0 b.0
              (place_at (seconds pairs p.1) m.0 b.0 m.1) b.2)
        ]

    -- no rule of the first part is that of a third expression
    not_past : (x y : ExprId) (m n : Node) (i : Instance)
        → Has (at_pair nodes pairs x y m n) i → i.rule ≢ 58
    not_past x y m n i h e = not_58 nodes pairs x y m n i h e

    one_pair : (k : ℕ) (p : Pair) → IsEachOnce (of_pair nodes pairs k p)
    one_pair k p = once_append (at_pair nodes pairs p.0 p.1 (node_of nodes p.0) (node_of nodes p.1))
        (each_at (past_of pairs p.0 p.1) 0 (seconds pairs p.1))
        (pair_once nodes pairs p.0 p.1 (node_of nodes p.0) (node_of nodes p.1)) (pasts_once p.0 p.1)
        (λ i a b. (let e = each_out (past_of pairs p.0 p.1) 0 (seconds pairs p.1) i b in not_past
        p.0 p.1 (node_of nodes p.0) (node_of nodes p.1) i a (past_parts p.0 p.1 e.0 e.1 i e.3).0))

    member : (k : ℕ) (p : Pair) → At 0 pairs k p → Has pairs p
    member k p a = (k, at_place pairs k p a)

    pairs_once : IsEachOnce (each_at (of_pair nodes pairs) 0 pairs)
    pairs_once = each_once (of_pair nodes pairs) 0 pairs (λ k p a. one_pair k p)
        (λ k j p q i a b g h.
        let s : p ≡ q = sym (pair_read nodes P p.0 p.1 i (pair_cases k p i (member k p a) g)).0
        ∙ (pair_read nodes P q.0 q.1 i (pair_cases j q i (member j q b) h)).0 in
        once k j q (at_place pairs k p a ∙ ap Some s) (at_place pairs j q b))

    -- ---- hints
    module _ (hints : List HintRow) where
      hint_out : (k : ℕ) (h : HintRow) (i : Instance) → Has (of_hint k h) i → OfHint k h i
      hint_out k h i m = has_all (OfHint k h) (of_hint k h)
          (rule_80_bound, (rule_80_size, (rule_80_multiple, (rule_80_nonzero, tt)))) i m

      hint_in : (k : ℕ) (h : HintRow) (i : Instance) → OfHint k h i → Has (of_hint k h) i
      hint_in k h i rule_80_bound = (0, refl)
      hint_in k h i rule_80_size = (1, refl)
      hint_in k h i rule_80_multiple = (2, refl)
      hint_in k h i rule_80_nonzero = (3, refl)

      -- the four have targets of four kinds
      abbrev slot_kind : Slot → ℕ
      slot_kind (slot.Bnd x) = 0
      slot_kind (slot.Abs x) = 1
      slot_kind (slot.Fix x) = 2
      slot_kind (slot.Nzr x) = 3
      slot_kind s = 4

      abbrev target_kind : Instance → ℕ
      target_kind i = slot_kind i.target

      no_two : (i : Instance) (n : ℕ) (is : List Instance) → target_kind i ≡ n
          → AllByRecursion (λ j. target_kind j ≢ n) is → ¬ Has is i
      no_two i n is e all m = has_all (λ j. target_kind j ≢ n) is all i m e

      one_hint : (k : ℕ) (h : HintRow) → IsEachOnce (of_hint k h)
      one_hint k h =
          once_cons (rewriting k h slot.Bnd) (rewriting k h slot.Abs
          ∷ rewriting k h slot.Fix ∷ rewriting k h slot.Nzr ∷ []) (no_two (rewriting k h slot.Bnd) 0
          (rewriting k h slot.Abs ∷ rewriting k h slot.Fix ∷ rewriting k h slot.Nzr ∷ []) refl (
            (λ e. let s : 1 ≡ 0 = e in absurd (omega arith)),
            (
              (λ e. let s : 2 ≡ 0 = e in absurd (omega arith)),
              ((λ e. let s : 3 ≡ 0 = e in absurd (omega arith)), tt),
            ),
          ))
          (once_cons (rewriting k h slot.Abs) (rewriting k h slot.Fix ∷ rewriting k h slot.Nzr ∷ [])
          (no_two (rewriting k h slot.Abs) 1
          (rewriting k h slot.Fix ∷ rewriting k h slot.Nzr ∷ []) refl (
            (λ e. let s : 2 ≡ 1 = e in absurd (omega arith)),
            ((λ e. let s : 3 ≡ 1 = e in absurd (omega arith)), tt),
          ))
          (once_cons (rewriting k h slot.Fix) (rewriting k h slot.Nzr ∷ [])
          (no_two (rewriting k h slot.Fix) 2 (rewriting k h slot.Nzr ∷ []) refl (
            (λ e. let s : 3 ≡ 2 = e in absurd (omega arith)),
            tt,
          ))
          (once_cons (rewriting k h slot.Nzr) [] (no_member (rewriting k h slot.Nzr)) once_nil)))

      hints_once : IsEachOnce (each_at of_hint 0 hints)
      hints_once = each_once of_hint 0 hints (λ k h a. one_hint k h) (λ k j g h i a b m n.
          sym (hint_read k g i (hint_out k g i m)).0 ∙ (hint_read j h i (hint_out j h i n)).0)

      -- ---- all
      abbrev Nodes : List Instance
      Nodes = each_at of_node 0 nodes

      abbrev Differences : List Instance
      Differences = each_at (of_difference nodes pairs) 0 nodes

      abbrev Pairs : List Instance
      Pairs = each_at (of_pair nodes pairs) 0 pairs

      abbrev Hints : List Instance
      Hints = each_at of_hint 0 hints

      nodes_kind : (i : Instance) → Has Nodes i → (kind i.rule ≡ 0) ⊎ (kind i.rule ≡ 1)
      nodes_kind i h =
          let e = each_out of_node 0 nodes i h in
          elim (node_only e.0 e.1 i (at_place nodes e.0 e.1 e.2) e.3) [
            | inl a ↦ inl (any_home (id_at e.0) i a).1
            | inr o ↦ inr (operation_home nodes (id_at e.0) i o).1
          ]

      differences_kind : (i : Instance) → Has Differences i
          → (kind i.rule ≡ 2) ⊎ ((kind i.rule ≡ 3) ⊎ ((kind i.rule ≡ 4) ⊎ (kind i.rule ≡ 5)))
      differences_kind i h = let e = each_out (of_difference nodes pairs) 0 nodes i h in
          (sides_home (id_at e.0) i (difference_only e.0 e.1 i (at_place nodes e.0 e.1 e.2) e.3)).1

      pairs_kind : (i : Instance) → Has Pairs i → (kind i.rule ≡ 6) ⊎ (kind i.rule ≡ 7)
      pairs_kind i h = let e = each_out (of_pair nodes pairs) 0 pairs i h in
          (pair_read nodes P (e.1).0 (e.1).1 i (pair_cases e.0 e.1 i (member e.0 e.1 e.2) e.3)).1

      hints_kind : (i : Instance) → Has Hints i → kind i.rule ≡ 8
      hints_kind i h = let e = each_out of_hint 0 hints i h in
          (hint_read e.0 e.1 i (hint_out e.0 e.1 i e.3)).1

      below_2 : (i : Instance) → Has Nodes i → kind i.rule < 2
      below_2 i h = elim (nodes_kind i h) [ inl e ↦ omega (arith, e) | inr e ↦ omega (arith, e) ]

      from_2_below_6 : (i : Instance) → Has Differences i → (1 < kind i.rule) × (kind i.rule < 6)
      from_2_below_6 i h = elim (differences_kind i h) [
        | inl e ↦ (omega (arith, e), omega (arith, e))
        | inr r ↦ elim r [
          | inl e ↦ (omega (arith, e), omega (arith, e))
          | inr s ↦ elim s [
            | inl e ↦ (omega (arith, e), omega (arith, e))
            | inr e ↦ (omega (arith, e), omega (arith, e))
          ]
        ]
      ]

      from_6_below_8 : (i : Instance) → Has Pairs i → (5 < kind i.rule) × (kind i.rule < 8)
      from_6_below_8 i h = elim (pairs_kind i h) [
        | inl e ↦ (omega (arith, e), omega (arith, e))
        | inr e ↦ (omega (arith, e), omega (arith, e))
      ]

      past_pairs : (i : Instance) → Has (Pairs ++ Hints) i → 5 < kind i.rule
      past_pairs i h = elim (has_either Pairs Hints i h) [
        | inl a ↦ (from_6_below_8 i a).0
        | inr b ↦ (let e : kind i.rule ≡ 8 = hints_kind i b in omega (arith, e))
      ]

      past_nodes : (i : Instance) → Has (Differences ++ (Pairs ++ Hints)) i → 1 < kind i.rule
      past_nodes i h = elim (has_either Differences (Pairs ++ Hints) i h) [
        | inl a ↦ (from_2_below_6 i a).0
        | inr b ↦ (let l : 5 < kind i.rule = past_pairs i b in omega (arith, l))
      ]

      all_once : IsEachOnce (instance_list nodes pairs hints)
      all_once = once_append Nodes (Differences ++ (Pairs ++ Hints)) nodes_once
          (once_append Differences (Pairs ++ Hints) differences_once
          (once_append Pairs Hints pairs_once hints_once
          (λ i a b. (let l : kind i.rule < 8 = (from_6_below_8 i a).1 in
          let e : kind i.rule ≡ 8 = hints_kind i b in absurd (omega arith))))
          (λ i a b. (let l : kind i.rule < 6 = (from_2_below_6 i a).1 in
          let m : 5 < kind i.rule = past_pairs i b in absurd (omega arith))))
          (λ i a b. (let l : kind i.rule < 2 = below_2 i a in
          let m : 1 < kind i.rule = past_nodes i b in absurd (omega arith)))

      all_only : (i : Instance) → Has (instance_list nodes pairs hints) i
          → IsInstance nodes P hints i
      all_only i h = elim (has_either Nodes (Differences ++ (Pairs ++ Hints)) i h) [
        | inl a ↦
            let e = each_out of_node 0 nodes i a in
            elim (node_only e.0 e.1 i (at_place nodes e.0 e.1 e.2) e.3) [
              | inl o ↦ of_any (id_at e.0) e.1 i (at_place nodes e.0 e.1 e.2) o
              | inr o ↦ of_operation (id_at e.0) i o
            ]
        | inr r ↦ elim (has_either Differences (Pairs ++ Hints) i r) [
          | inl b ↦
              let e = each_out (of_difference nodes pairs) 0 nodes i b in
              elim (difference_only e.0 e.1 i (at_place nodes e.0 e.1 e.2) e.3) [
                | inl o ↦ of_error (id_at e.0) i o
                | inr s ↦ elim s
                    [ inl o ↦ of_terms (id_at e.0) i o | inr o ↦ of_chain (id_at e.0) i o ]
              ]
          | inr s ↦ elim (has_either Pairs Hints i s) [
            | inl b ↦ (let e = each_out (of_pair nodes pairs) 0 pairs i b in
                of_pair_of e.0 e.1 i e.2 e.3)
            | inr b ↦ (let e = each_out of_hint 0 hints i b in of_hint_of e.0 e.1 i e.2 e.3)
          ]
        ]
      ]
        where
          of_pair_of : (k : ℕ) (p : Pair) (i : Instance) → At 0 pairs k p
              → Has (of_pair nodes pairs k p) i → IsInstance nodes P hints i
          of_pair_of k p i a m =
              by_pair p.0 p.1 i (member k p a) (pair_cases k p i (member k p a) m)

          of_hint_of : (k : ℕ) (g : HintRow) (i : Instance) → At 0 hints k g → Has (of_hint k g) i
              → IsInstance nodes P hints i
          of_hint_of k g i a m = by_hint k g i (at_place hints k g a) (hint_out k g i m)

      in_nodes : (x : ExprId) (n : Node) (i : Instance) → IsAt nodes x n → Has (of_node x.0 n) i
          → Has (instance_list nodes pairs hints) i
      in_nodes x n i at h = has_left Nodes (Differences ++ (Pairs ++ Hints)) i
          (each_in of_node 0 nodes i x.0 n (place_at nodes x.0 n at) h)

      in_sides : (x a c : ExprId) (i : Instance) → IsAt nodes x (Sub a c) → OfError nodes x i
          ⊎ (OfTerms nodes x i ⊎ OfChain nodes P x i) → Has (instance_list nodes pairs hints) i
      in_sides x a c i at o = has_right Nodes (Differences ++ (Pairs ++ Hints)) i
          (has_left Differences (Pairs ++ Hints) i (in_differences x a c i at o))

      all_each : (i : Instance) → IsInstance nodes P hints i
          → Has (instance_list nodes pairs hints) i
      all_each i (of_any x n _ at o) =
          in_nodes x n i at (has_left (at_any x) (at_operation x n) i ((any_list x).each i o))
      all_each i (of_operation x _ o) =
          let n = operation_node nodes x i o in
          in_nodes x n.0 i n.1 (has_right (at_any x)
          (at_operation x n.0) i ((operation_list nodes x n.0 n.1).each i o))
      all_each i (of_error x _ o) = let s = error_at x i o in in_sides x s.0 s.1 i s.2 (inl o)
      all_each i (of_terms x _ o) = let s = terms_at x i o in in_sides x s.0 s.1 i s.2 (inr (inl o))
      all_each i (of_chain x _ o) = let s = chain_at x i o in in_sides x s.0 s.1 i s.2 (inr (inr o))
      all_each i (by_pair x y _ p o) =
          has_right Nodes (Differences ++ (Pairs ++ Hints)) i
          (has_right Differences (Pairs ++ Hints) i (has_left Pairs Hints i
          (each_in (of_pair nodes pairs) 0 pairs i p.0 (x, y) (place_at pairs p.0 (x, y) p.1)
          (pair_back p.0 (x, y) i p o))))
      all_each i (by_hint k g _ s o) =
          has_right Nodes (Differences ++ (Pairs ++ Hints)) i
          (has_right Differences (Pairs ++ Hints) i (has_right Pairs Hints i
          (each_in of_hint 0 hints i k g (place_at hints k g s) (hint_in k g i o))))

      pub all_listed : IsListOf (IsInstance nodes P hints) (instance_list nodes pairs hints)
      all_listed = record { only = all_only; each = all_each; once = all_once }
