-- Where nodes stand, and what one more node does to a list.
use Rattle.std.proofs.Common.{◌≡◌, ℕ, zero, suc, ◌<◌, ◌≤◌, false, cond, List, [], ◌∷◌, ◌++◌, length}
use Rattle.std.proofs.Common.{get_or, slice_get, position, Some, None, ◌⊎◌, ◌↔◌, inl, inr, refl}
use Rattle.std.proofs.Common.{sym, ap, ◌∙◌, subst, arith, if◌then◌else◌, true≢false, lt-ltb, le-ltb}
use Rattle.std.proofs.Common.{length-append}
use Rattle.std.specs.List.{position_or_len, list_any}
use Rattle.std.proofs.lemmas.Bool.{cases_lt}
use Rattle.std.proofs.lemmas.Option.{slice_get_within, slice_get-get_or, get_or_from_slice_get}
use Rattle.std.proofs.lemmas.Option.{none-some}
use Rattle.std.proofs.lemmas.List.Sums.{passes_at_first, fails_before_first, prefix_len-le-length}
use Rattle.std.proofs.lemmas.List.Quantifiers.{position-Some}
use Rattle.std.proofs.lemmas.List.Folds.{list_any_at, list_any_none}
use Rattle.indexmap.specs.IndexSet.{insert_key}
use Rattle.fx_model.specs.declared.ExprId.{ExprId}
use Rattle.fx_model.specs.declared.Node.{Node}
use Rattle.fx_model.specs.Expression.{Assignment, IsOrdered, value}
use Rattle.expr_dag.specs.Nodes.{same_node, IsLawful, IsAt, IsAbsent, IsShared, IsFound, IsLast}
use Rattle.expr_dag.specs.Nodes.{IsPlaced, IsKept, place_of, placed, with_node, numbered}
use Rattle.expr_dag.proofs.Same.{same, itself}
use Rattle.expr_dag.proofs.Values.{value_stays}

abbrev number : ℕ → ExprId
number i = record { 0 = i }

before_last : (nodes : List Node) (n : Node) (i : ℕ) (m : Node) → slice_get nodes i ≡ Some m
    → slice_get (nodes ++ n ∷ []) i ≡ Some m
before_last [] n i m h = absurd (none-some m h)
before_last (y ∷ ys) n zero m h = h
before_last (y ∷ ys) n (suc i) m h = before_last ys n i m h

last_at : (nodes : List Node) (n : Node) → slice_get (nodes ++ n ∷ []) (length nodes) ≡ Some n
last_at [] n = refl
last_at (y ∷ ys) n = last_at ys n

module _ (nodes : List Node) (n : Node) where
  -- the place that a search gives
  abbrev pub first : ℕ
  first = position_or_len (same_node n) nodes

  pub at_first : first < length nodes → slice_get nodes first ≡ Some n
  at_first h = slice_get-get_or nodes first n h
      ∙ ap Some (sym (same n (get_or nodes first n) (passes_at_first (same_node n) nodes n h)))

  fails_at : length nodes ≤ first → (k : ℕ) (d : Node) → k < length nodes
      → same_node n (get_or nodes k d) ≡ false
  fails_at h k d l = fails_before_first (same_node n) nodes k d (omega arith)

  pub absent_past : length nodes ≤ first → IsAbsent nodes n
  absent_past h x at =
      let within : x.0 < length nodes = slice_get_within nodes x.0 n at in
      let is : get_or nodes x.0 n ≡ n = get_or_from_slice_get nodes x.0 n n at in
      true≢false (sym (itself n) ∙ ap (same_node n) (sym is) ∙ fails_at h x.0 n within)

  length_first : length nodes ≤ first → first ≡ length nodes
  length_first h = let k : first ≤ length nodes = prefix_len-le-length _ nodes in omega arith

  pub place_there : first < length nodes → place_of nodes n ≡ Some (number first)
  place_there h = ap (λ b. numbered (cond b (Some first) None)) (lt-ltb first (length nodes) h)

  pub place_past : length nodes ≤ first → place_of nodes n ≡ None
  place_past h = ap (λ b. numbered (cond b (Some first) None)) (le-ltb first (length nodes) h)

  put_there : first < length nodes → insert_key same_node nodes n ≡ nodes
  put_there h = ap (λ b. if b then nodes else nodes ++ n ∷ [])
      (list_any_at (same_node n) nodes first n h (passes_at_first (same_node n) nodes n h))

  put_past : length nodes ≤ first → insert_key same_node nodes n ≡ nodes ++ n ∷ []
  put_past h = ap (λ b. if b then nodes else nodes ++ n ∷ [])
      (list_any_none (same_node n) nodes (fails_at h))

  -- what a search of the set says
  pub found_at : (i : ℕ) → position (same_node n) nodes ≡ Some i → slice_get nodes i ≡ Some n
  found_at i h =
      let at = position-Some (same_node n) nodes i n h in
      slice_get-get_or nodes i n at.0 ∙ ap Some (sym (same n (get_or nodes i n) at.1))

  pub absent_from_position : position (same_node n) nodes ≡ None → IsAbsent nodes n
  absent_from_position e = elim (cases_lt first (length nodes)) [
    | inl h ↦ let there : position (same_node n) nodes ≡ Some first =
        ap (λ b. cond b (Some first) None) (lt-ltb first (length nodes) h) in absurd (cc)
    | inr h ↦ absent_past h
  ]

  pub absent_from_test : list_any (same_node n) nodes ≡ false → IsAbsent nodes n
  absent_from_test e = elim (cases_lt first (length nodes)) [
    | inl h ↦ absurd (true≢false (sym (list_any_at (same_node n) nodes first n h
        (passes_at_first (same_node n) nodes n h)) ∙ e))
    | inr h ↦ absent_past h
  ]

  -- what is put into the set is found, or goes last
  pub put_cases : IsFound nodes n (insert_key same_node nodes n) (number first)
      ⊎ IsLast nodes n (insert_key same_node nodes n) (number first)
  put_cases = elim (cases_lt first (length nodes)) [
    | inl h ↦ inl (record { there = at_first h; same = put_there h })
    | inr h ↦ inr (record { absent = absent_past h; list = put_past h; number = length_first h })
  ]

  put_at : slice_get (insert_key same_node nodes n) first ≡ Some n
  put_at = elim put_cases [
    | inl f ↦ ap (λ l. slice_get l first) f.same ∙ f.there
    | inr l ↦ ap (λ k. slice_get k first) l.list
        ∙ ap (slice_get (nodes ++ n ∷ [])) l.number ∙ last_at nodes n
  ]

  put_is : IsPlaced nodes n (insert_key same_node nodes n) (number first)
  put_is = record {
    within = slice_get_within (insert_key same_node nodes n) first n put_at;
    at = put_at;
    how = put_cases;
  }

  pub put_placed : (new : List Node) (i : ℕ) → new ≡ insert_key same_node nodes n → i ≡ first
      → IsPlaced nodes n new (number i)
  put_placed new i l p =
      let P : List Node × ℕ → Type 0 = λ y. IsPlaced nodes n y.0 (number y.1) in
      subst P (λ j. (sym l j, sym p j)) put_is

  -- and so says the function
  pub put_computes : (insert_key same_node nodes n, number first) ≡ with_node nodes n
  put_computes = elim (cases_lt first (length nodes)) [
    | inl h ↦ (λ i. (put_there h i, number first)) ∙ sym (ap (placed nodes n) (place_there h))
    | inr h ↦ (λ i. (put_past h i, number (length_first h i)))
        ∙ sym (ap (placed nodes n) (place_past h))
  ]

-- the same where the list and the node go by other names
pub put_list : {old k new : List Node} {n m : Node} → k ≡ old → m ≡ n
    → new ≡ insert_key same_node k m → new ≡ insert_key same_node old n
put_list e f l = l ∙ (λ j. insert_key same_node (e j) (f j))

pub put_first : {old k : List Node} {n m : Node} {i : ℕ} → k ≡ old → m ≡ n
    → i ≡ first k m → i ≡ first old n
put_first e f p = p ∙ (λ j. first (e j) (f j))

-- a node of a longer list stands in the list, or is its last one
ends_with : (nodes : List Node) (n : Node) (i : ℕ) (m : Node)
    → slice_get (nodes ++ n ∷ []) i ≡ Some m
    → (slice_get nodes i ≡ Some m) ⊎ ((i ≡ length nodes) × (m ≡ n))
ends_with [] n zero m h = inr (refl, cc)
ends_with [] n (suc i) m h = absurd (cc)
ends_with (y ∷ ys) n zero m h = inl h
ends_with (y ∷ ys) n (suc i) m h =
    elim (ends_with ys n i m h) [ inl a ↦ inl a | inr b ↦ inr (omega arith, b.1) ]

-- each node is made of earlier ones
pub ordered : (nodes : List Node) → IsShared nodes → IsOrdered nodes
ordered nodes s i d h = (s.lawful (number i) _ (slice_get-get_or nodes i d h)).children

module _ (nodes : List Node) (s : IsShared nodes) where
  -- the function gives the one place where a node stands
  pub place_is : (x : ExprId) (n : Node) → (place_of nodes n ≡ Some x) ↔ IsAt nodes x n
  place_is x n = elim (cases_lt (first nodes n) (length nodes)) [
    | inl h ↦
        let at : IsAt nodes (number (first nodes n)) n = at_first nodes n h in
        let there = place_there nodes n h in (
          λ e. let some : Some (number (first nodes n)) ≡ Some x = sym there ∙ e in
              let same_place : number (first nodes n) ≡ x = cc in
              subst (λ y. IsAt nodes y n) same_place at,
          λ a. there ∙ ap Some (s.distinct (number (first nodes n)) x n at a),
        )
    | inr h ↦ (
      λ e. absurd (none-some x (sym (place_past nodes n h) ∙ e)),
      λ a. absurd (absent_past nodes n h x a),
    )
  ]

  module _ (n : Node) (lawful : IsLawful (length nodes) n) (room : length nodes < 1024) where
    module _ (absent : IsAbsent nodes n) where
      no_other : (x : ExprId) (m : Node) → IsAt nodes x m → m ≡ n → ⊥
      no_other x m at e = absent x (at ∙ ap Some e)

      lawful_last : (x : ExprId) (m : Node) → IsAt (nodes ++ n ∷ []) x m → IsLawful x.0 m
      lawful_last x m at = elim (ends_with nodes n x.0 m at) [
        | inl a ↦ s.lawful x m a
        | inr b ↦ subst (λ k. IsLawful k m) (sym b.0)
            (subst (IsLawful (length nodes)) (sym b.1) lawful)
      ]

      distinct_last : (x y : ExprId) (m : Node) → IsAt (nodes ++ n ∷ []) x m
          → IsAt (nodes ++ n ∷ []) y m → x ≡ y
      distinct_last x y m at also = elim (ends_with nodes n x.0 m at) [
        | inl a ↦ elim (ends_with nodes n y.0 m also)
            [ inl b ↦ s.distinct x y m a b | inr b ↦ absurd (no_other x m a b.1) ]
        | inr a ↦ elim (ends_with nodes n y.0 m also)
            [ inl b ↦ absurd (no_other y m b a.1) | inr b ↦ (λ i. number ((a.0 ∙ sym b.0) i)) ]
      ]

      shared_last : IsShared (nodes ++ n ∷ [])
      shared_last = record {
        lawful = lawful_last;
        distinct = distinct_last;
        short = omega (arith, length-append nodes (n ∷ []));
      }

    -- the set keeps what a list of shared nodes keeps
    pub shared_put : IsShared (insert_key same_node nodes n)
    shared_put = elim (put_cases nodes n) [
      | inl f ↦ subst IsShared (sym f.same) s
      | inr l ↦ subst IsShared (sym l.list) (shared_last l.absent)
    ]

    value_put : (a : Assignment) (x : ExprId) → x.0 < length nodes
        → value (insert_key same_node nodes n) a x ≡ value nodes a x
    value_put a x h = elim (put_cases nodes n) [
      | inl f ↦ ap (λ l. value l a x) f.same
      | inr l ↦ ap (λ k. value k a x) l.list ∙ value_stays nodes (n ∷ []) a (ordered nodes s)
          (ordered (nodes ++ n ∷ []) (shared_last l.absent)) x h
    ]

    longer_put : length nodes ≤ length (insert_key same_node nodes n)
    longer_put = elim (put_cases nodes n) [
      | inl f ↦ omega (arith, ap length f.same)
      | inr l ↦ omega (arith, ap length l.list, length-append nodes (n ∷ []))
    ]

    stays_put : (x : ExprId) (m : Node) → IsAt nodes x m → IsAt (insert_key same_node nodes n) x m
    stays_put x m at = elim (put_cases nodes n) [
      | inl f ↦ ap (λ l. slice_get l x.0) f.same ∙ at
      | inr l ↦ ap (λ k. slice_get k x.0) l.list ∙ before_last nodes n x.0 m at
    ]

    -- and what was there stays
    pub kept_put : IsKept nodes (insert_key same_node nodes n)
    kept_put = record { longer = longer_put; nodes = stays_put; values = value_put }
