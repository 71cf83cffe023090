-- A variable's number, and what a reading keeps when it joins.
use Rattle.std.proofs.Common.{◌≡◌, ◌⊎◌, ℕ, suc, ◌+◌, ◌<◌, ◌≤◌, List, [], ◌∷◌, ◌++◌, length}
use Rattle.std.proofs.Common.{slice_get, Option, Some, None, Bool, true, false, not, cond, ◌||◌}
use Rattle.std.proofs.Common.{if◌then◌else◌, refl, sym, ap, subst, ◌∙◌, arith, inl, inr, ⊎_elim}
use Rattle.std.proofs.Common.{length-append}
use Rattle.std.specs.List.{list_any, position_or_len}
use Rattle.std.specs.Str.{bytes_eq}
use Rattle.fx_model.specs.declared.ExprId.{ExprId}
use Rattle.fx_model.specs.declared.Node.{Node}
use Rattle.fx_model.specs.declared.Node.TheVariants.{Var}
use Rattle.expr_dag.specs.Nodes.{IsAt, IsFull, IsPlaced, IsFound, IsLast, place_of, placed}
use Rattle.expr_dag.specs.Nodes.{with_node}
use Rattle.script_nodes.specs.Known.{Name, Known, PlacedNode, put, variable_put, variables_with}
use Rattle.script_nodes.specs.Waits.{Reading}
use Rattle.script_nodes.specs.Sound.{IsSound}
use Rattle.script_nodes.proofs.Sounds.{all_fit_more, ends_with}
use Rattle.script_nodes.proofs.Kept.{values_fit_more}

-- ---- places among names

module _ (text : Name) where
  there : (names : List Name) → list_any (bytes_eq text) names ≡ true
      → position_or_len (bytes_eq text) names < length names
  there [] h = cc
  there (n ∷ names) h = by_test (bytes_eq text n) h (there names)
    where
      by_test : (b : Bool) → (b || list_any (bytes_eq text) names) ≡ true
          → (list_any (bytes_eq text) names ≡ true
          → position_or_len (bytes_eq text) names < length names)
          → cond (not b) (1 + position_or_len (bytes_eq text) names) 0 < suc (length names)
      by_test true h more = omega arith
      by_test false h more = let k = more h in omega arith

  past : (names : List Name) → list_any (bytes_eq text) names ≡ false
      → position_or_len (bytes_eq text) names ≡ length names
  past [] h = refl
  past (n ∷ names) h = by_test (bytes_eq text n) h (past names)
    where
      by_test : (b : Bool) → (b || list_any (bytes_eq text) names) ≡ false
          → (list_any (bytes_eq text) names ≡ false
          → position_or_len (bytes_eq text) names ≡ length names)
          → cond (not b) (1 + position_or_len (bytes_eq text) names) 0 ≡ suc (length names)
      by_test true h more = cc
      by_test false h more = let k = more h in omega arith

  -- the name is there, and the names stay, or it goes last
  abbrev pub Stands : List Name → Type 0
  Stands names =
      ((position_or_len (bytes_eq text) names < length names) × (variables_with names text ≡ names))
      ⊎ ((position_or_len (bytes_eq text) names ≡ length names)
      × (variables_with names text ≡ names ++ text ∷ []))

  pub stands : (names : List Name) → Stands names
  stands names = by_test (list_any (bytes_eq text) names) refl
    where
      by_test : (b : Bool) → list_any (bytes_eq text) names ≡ b → Stands names
      by_test true h = inl (there names h, ap (λ b. if b then names else names ++ text ∷ []) h)
      by_test false h = inr (past names h, ap (λ b. if b then names else names ++ text ∷ []) h)

  pub place_within : (names : List Name) → position_or_len (bytes_eq text) names ≤ length names
  place_within names =
      ⊎_elim (λ a. let h = a.0 in omega arith) (λ b. let h = b.0 in omega arith) (stands names)

-- ---- a node joins, and its variable

module _ (r : Reading) (text : Name) (s : IsSound r) where
  abbrev known_names : List Name
  known_names = r.known.variables

  abbrev own_place : ℕ
  own_place = position_or_len (bytes_eq text) known_names

  abbrev with_variable : List Node → Reading
  with_variable nodes = record {
    known = record {
      nodes = nodes;
      variables = variables_with known_names text;
      values = r.known.values;
      operators = r.known.operators;
    };
    waits = r.waits;
  }

  more_sound : (nodes : List Node) → length r.known.nodes ≤ length nodes
      → length (variables_with known_names text) ≤ length nodes
      → ((x : ExprId) (n : ℕ) → IsAt nodes x (Var n) → n < length (variables_with known_names text))
      → IsSound (with_variable nodes)
  more_sound nodes h v n = record {
    waits = all_fit_more _ _ r.waits h s.waits;
    values = values_fit_more _ _ r.known.values h s.values;
    operators = s.operators;
    variables = v;
    numbered = n;
  }

  found : (nodes : List Node) (x : ExprId) → Stands text known_names
      → IsFound r.known.nodes (Var own_place) nodes x → IsSound (with_variable nodes)
  found nodes x (inl a) f = more_sound nodes (omega (arith, ap length f.same))
      (let v = s.variables in omega (arith, ap length f.same, ap length a.1)) (λ y n at. let k =
      s.numbered y n (ap (λ l. slice_get l y.0) (sym f.same) ∙ at) in omega (arith, ap length a.1))
  found nodes x (inr b) f = let k = s.numbered x own_place f.there in
      let e = b.0 in absurd (omega arith)

  last : (nodes : List Node) (x : ExprId) → Stands text known_names
      → IsLast r.known.nodes (Var own_place) nodes x → IsSound (with_variable nodes)
  last nodes x st l = more_sound nodes longer (held st) numbered
    where
      longer : length r.known.nodes ≤ length nodes
      longer = omega (arith, ap length l.list, length-append r.known.nodes (Var own_place ∷ []))

      held : Stands text known_names → length (variables_with known_names text) ≤ length nodes
      held (inl a) = let v = s.variables in omega
          (arith, ap length a.1, ap length l.list, length-append r.known.nodes (Var own_place ∷ []))
      held (inr b) = let v = s.variables in omega (
        arith,
        ap length b.1,
        length-append known_names (text ∷ []),
        ap length l.list,
        length-append r.known.nodes (Var own_place ∷ []),
      )

      more : Stands text known_names
          → (length known_names ≤ length (variables_with known_names text))
          × (own_place < length (variables_with known_names text))
      more (inl a) = let h = a.0 in (omega (arith, ap length a.1), omega (arith, ap length a.1))
      more (inr b) = let h = b.0 in (
        omega (arith, ap length b.1, length-append known_names (text ∷ [])),
        omega (arith, ap length b.1, length-append known_names (text ∷ [])),
      )

      same_number : (n : ℕ) → Var own_place ≡ Var n → own_place ≡ n
      same_number n e = cc

      numbered : (y : ExprId) (n : ℕ) → IsAt nodes y (Var n)
          → n < length (variables_with known_names text)
      numbered y n at =
          let m = more st in
          let m0 = m.0 in
          let m1 = m.1 in
          ⊎_elim (λ old. let k = s.numbered y n old in omega arith) (λ e. let k = same_number n e in
          omega arith) (ends_with r.known.nodes (Var own_place) y.0 (Var n)
          (ap (λ l. slice_get l y.0) (sym l.list) ∙ at))

  pub variable_sound : (nodes : List Node) (x : ExprId)
      → IsPlaced r.known.nodes (Var own_place) nodes x → IsSound (with_variable nodes)
  variable_sound nodes x p = ⊎_elim (found nodes x (stands text known_names))
      (last nodes x (stands text known_names)) p.how

-- ---- a list that is full would have more nodes

absent_grows : (nodes : List Node) (n : Node) (o : Option ExprId) → ((x : ExprId) → o ≡ Some x → ⊥)
    → length (placed nodes n o).0 ≡ length nodes + 1
absent_grows nodes n None h = length-append nodes (n ∷ [])
absent_grows nodes n (Some x) h = absurd (h x refl)

pub full_grows : (k : Known) (n : Node) → ((x : ExprId) → place_of k.nodes n ≡ Some x
    → IsAt k.nodes x n) → IsFull k.nodes n → 1024 < length (put k n).0.nodes
unfolding put
full_grows k n at f = let long = f.long in
    omega (arith, absent_grows k.nodes n (place_of k.nodes n) (λ x e. f.absent x (at x e)))

-- ---- the same where the names, the place and the reading go by other names

abbrev pub place_among : Reading → Name → ℕ
place_among r text = position_or_len (bytes_eq text) r.known.variables

abbrev pub with_both : Reading → List Node → List Name → Reading
with_both r nodes names = record {
  known = record {
    nodes = nodes;
    variables = names;
    values = r.known.values;
    operators = r.known.operators;
  };
  waits = r.waits;
}

pub sound_at : (r : Reading) (text : Name) (nodes : List Node) (names : List Name)
    (place : ℕ) (x : ExprId) → IsSound r → names ≡ variables_with r.known.variables text
    → place ≡ place_among r text → IsPlaced r.known.nodes (Var place) nodes x
    → IsSound (with_both r nodes names)
sound_at r text nodes names place x s e h p = subst (λ l. IsSound (with_both r nodes l)) (sym e)
    (variable_sound r text s nodes x (subst (λ n. IsPlaced r.known.nodes (Var n) nodes x) h p))

pub put_at : (r k : Reading) (text : Name) (nodes : List Node) (names : List Name)
    (place : ℕ) (x : ExprId) → r ≡ k → names ≡ variables_with r.known.variables text
    → place ≡ place_among r text → (nodes, x) ≡ with_node r.known.nodes (Var place)
    → ◌≡◌ {A = PlacedNode} ((with_both r nodes names).known, x) (variable_put k.known text)
unfolding put variable_put
put_at r k text nodes names place x e n h c =
    ap (λ (p : List Node × ExprId). ((with_both r p.0 names).known, p.1)) c
    ∙ ap (λ (m : ℕ). (
      (with_both r (with_node r.known.nodes (Var m)).0 names).known,
      (with_node r.known.nodes (Var m)).1,
    )) h
    ∙ ap (λ (l : List Name). (
      (with_both r (with_node r.known.nodes (Var (place_among r text))).0 l).known,
      (with_node r.known.nodes (Var (place_among r text))).1,
    )) n
    ∙ ap (λ (j : Reading). variable_put j.known text) e

pub full_at : (r k : Reading) (text : Name) (place : ℕ) → r ≡ k → place ≡ place_among r text
    → ((x : ExprId) (n : Node) → place_of r.known.nodes n ≡ Some x → IsAt r.known.nodes x n)
    → IsFull r.known.nodes (Var place) → 1024 < length (variable_put k.known text).0.nodes
unfolding variable_put
full_at r k text place e h at f =
    let here = full_grows (record {
      nodes = r.known.nodes;
      variables = variables_with r.known.variables text;
      values = r.known.values;
      operators = r.known.operators;
    }) (Var (place_among r text)) (λ x. at x (Var (place_among r text)))
    (subst (λ n. IsFull r.known.nodes (Var n)) h f) in
    subst (λ (j : Reading). 1024 < length (variable_put j.known text).0.nodes) e here
