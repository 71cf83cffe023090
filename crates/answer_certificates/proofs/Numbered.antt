-- Nodes stay where they are, and variables have numbers of names.
use Rattle.std.specs.Prelude.{◌≡◌, ◌⊎◌, ℕ, suc, ◌+◌, ◌<◌, ◌≤◌, List, [], ◌∷◌, ◌++◌, length}
use Rattle.std.specs.Prelude.{slice_get, position, Option, Some, None, Bool, true, false, not, cond}
use Rattle.std.specs.Prelude.{◌||◌, if◌then◌else◌, refl}
use Rattle.std.specs.List.{list_any, position_or_len}
use Rattle.std.specs.Str.{bytes_eq}
use Rattle.std.proofs.Common.{inl, inr, sym, ap, ◌∙◌, subst, arith, length-append, get_or}
use Rattle.std.proofs.lemmas.Option.{slice_get-get_or}
use Rattle.std.proofs.lemmas.List.Quantifiers.{position-Some}
use Rattle.fx_model.specs.declared.ExprId.{ExprId}
use Rattle.fx_model.specs.declared.Node.{Node}
use Rattle.fx_model.specs.declared.Node.TheVariants.{Var}
use Rattle.expr_dag.specs.Nodes.{IsAt, same_node, numbered, place_of, placed}
use Rattle.expr_dag.proofs.Same.{same}
use Rattle.pair_closure.proofs.Members.{some-inj, none_at, before_last, last_at, ends_with}
use Rattle.script_shape.specs.Tree.{Definition, names_operator, names_value, Script, formula}
use Rattle.script_shape.specs.Tree.{define}
use Rattle.script_nodes.specs.Known.{Name, Known, entry_of, put, variable_put, name_put, named}
use Rattle.script_nodes.specs.Known.{nothing_known}
use Rattle.script_nodes.specs.Definitions.{rounding_by, definition_value}
use Rattle.script_nodes.specs.Sound.{IsMade}
use Rattle.script_claims.specs.Claims.{formula_claims}
use Rattle.script_hints.specs.Hints.{no_hints}
use Rattle.script_grammar.specs.Meaning.{meaning_from}
use Rattle.cert_checker.specs.Faults.{IsVariable}
use Rattle.answer_certificates.proofs.Keeping.{expr_so, formula_so, hints_so}

-- ---- one node

at_place : (nodes : List Node) (n : Node) (o : Option ℕ) → position (same_node n) nodes ≡ o
    → (x : ExprId) → numbered o ≡ Some x → IsAt nodes x n
at_place nodes n None e x h = absurd (none_at x h)
at_place nodes n (Some i) e x h =
    let p = position-Some (same_node n) nodes i n e in
    let found : n ≡ get_or nodes i n = same n (get_or nodes i n) p.1 in
    let number : ExprId = record { 0 = i } in
    subst (λ (y : ExprId). slice_get nodes y.0 ≡ Some n) (some-inj number x h)
    (slice_get-get_or nodes i n p.0 ∙ ap Some (sym found))

placed_at : (nodes : List Node) (n : Node) (o : Option ExprId) → place_of nodes n ≡ o
    → IsAt (placed nodes n o).0 (placed nodes n o).1 n
placed_at nodes n (Some x) e = at_place nodes n (position (same_node n) nodes) refl x e
placed_at nodes n None e = last_at nodes n

placed_stays : (nodes : List Node) (n : Node) (o : Option ExprId) (x : ExprId) (m : Node)
    → IsAt nodes x m → IsAt (placed nodes n o).0 x m
placed_stays nodes n (Some y) x m h = h
placed_stays nodes n None x m h = before_last nodes n x.0 m h

-- ---- values and nodes that are there stay

pub record Stays (k j : Known) : Type 0 where
  pub values : j.values ≡ k.values
  pub nodes : (x : ExprId) (n : Node) → IsAt k.nodes x n → IsAt j.nodes x n

pub stays_itself : (k : Known) → Stays k k
stays_itself k = record { values = refl; nodes = λ x n h. h }

module _ (k : Known) where
  pub put_stays : (j : Known) (n : Node) → IsMade n → Stays k j → Stays k (put j n).0
  unfolding put
  put_stays j n m s = record {
    values = s.values;
    nodes = λ x i h. placed_stays j.nodes n (place_of j.nodes n) x i (s.nodes x i h);
  }

  name_stays : (j : Known) (text : Name) (o : Option ExprId) → Stays k j
      → Stays k (name_put j text o).0
  unfolding variable_put put
  name_stays j text (Some y) s = s
  name_stays j text None s = record {
    values = s.values;
    nodes = λ x i h. placed_stays j.nodes (Var (position_or_len (bytes_eq text) j.variables))
        (place_of j.nodes (Var (position_or_len (bytes_eq text) j.variables))) x i (s.nodes x i h);
  }

  pub named_stays : (j : Known) (text : Name) → Stays k j → Stays k (named j text).0
  unfolding named
  named_stays j text s = name_stays j text (entry_of j.values text) s

-- a name that has no value stands for a variable
variable_at : (k : Known) (text : Name)
    → IsVariable (variable_put k text).0.nodes (variable_put k text).1
unfolding variable_put put
variable_at k text =
    let v : ℕ = position_or_len (bytes_eq text) k.variables in
    (v, placed_at k.nodes (Var v) (place_of k.nodes (Var v)) refl)

pub named_at : (k : Known) (text : Name) → entry_of k.values text ≡ None
    → IsVariable (named k text).0.nodes (named k text).1
unfolding named
named_at k text e = subst (λ o. IsVariable (name_put k text o).0.nodes (name_put k text o).1)
    (sym e) (variable_at k text)

-- ---- variables have numbers of names, of which there are no more than nodes

pub record AreNumbered (nodes : List Node) (names : List Name) : Type 0 where
  pub few : length names ≤ length nodes
  pub below : (x : ExprId) (v : ℕ) → IsAt nodes x (Var v) → v < length names

placed_numbered : (nodes : List Node) (names : List Name) (n : Node) (o : Option ExprId) → IsMade n
    → AreNumbered nodes names → AreNumbered (placed nodes n o).0 names
placed_numbered nodes names n (Some x) m a = a
placed_numbered nodes names n None m a =
    let few = a.few in
    record {
      few = omega (arith, few, length-append nodes (n ∷ []));
      below = λ x v e. elim (ends_with nodes n x.0 (Var v) e)
          [ inl h ↦ a.below x v h | inr h ↦ absurd (subst IsMade (sym h.1) m) ];
    }

module _ {A : Type 0} (p : A → Bool) where
  -- the first place that passes is one of the list, or its end
  first_place : (xs : List A) → ((list_any p xs ≡ true) × (position_or_len p xs < length xs))
      ⊎ ((list_any p xs ≡ false) × (position_or_len p xs ≡ length xs))
  first_place [] = inr (refl, refl)
  first_place (x ∷ xs) = by_test (p x) (first_place xs)
    where
      by_test : (b : Bool) → ((list_any p xs ≡ true) × (position_or_len p xs < length xs))
          ⊎ ((list_any p xs ≡ false) × (position_or_len p xs ≡ length xs))
          → (((b || list_any p xs) ≡ true) × (cond (not b) (1 + position_or_len p xs) 0
          < suc (length xs))) ⊎ (((b || list_any p xs) ≡ false)
          × (cond (not b) (1 + position_or_len p xs) 0 ≡ suc (length xs)))
      by_test true h = inl (refl, omega arith)
      by_test false (inl h) = inl (h.0, let l = h.1 in omega arith)
      by_test false (inr h) = inr (h.0, let l = h.1 in omega arith)

same_number : (v i : ℕ) → Var v ≡ Var i → v ≡ i
same_number v i e = cc

variable_joins : (nodes : List Node) (names : List Name) (text : Name) (i : ℕ) (b : Bool)
    (o : Option ExprId) → AreNumbered nodes names → place_of nodes (Var i) ≡ o
    → ((b ≡ true) × (i < length names)) ⊎ ((b ≡ false) × (i ≡ length names))
    → AreNumbered (placed nodes (Var i) o).0 (if b then names else names ++ (text ∷ []))
variable_joins nodes names text i true (Some x) a e c = a
variable_joins nodes names text i true None a e (inr c) = absurd (cc c.0)
variable_joins nodes names text i true None a e (inl c) =
    let few = a.few in
    let low = c.1 in
    record {
      few = omega (arith, few, length-append nodes (Var i ∷ []));
      below = λ x v q. elim (ends_with nodes (Var i) x.0 (Var v) q)
          [ inl h ↦ a.below x v h | inr h ↦ omega (arith, low, same_number v i h.1) ];
    }
variable_joins nodes names text i false o a e (inl c) = absurd (cc c.0)
variable_joins nodes names text i false (Some x) a e (inr c) =
    let last = c.1 in
    let low = a.below x i (at_place nodes (Var i) (position (same_node (Var i)) nodes) refl x e) in
    absurd (omega (arith, last, low))
variable_joins nodes names text i false None a e (inr c) =
    let few = a.few in
    let last = c.1 in
    record {
      few = omega (arith, few, length-append nodes (Var i ∷ []), length-append names (text ∷ []));
      below = λ x v q. elim (ends_with nodes (Var i) x.0 (Var v) q) [
        | inl h ↦ let low = a.below x v h in omega (arith, low, length-append names (text ∷ []))
        | inr h ↦ omega (arith, last, same_number v i h.1, length-append names (text ∷ []))
      ];
    }

abbrev pub IsNumbered : Known → Type 0
IsNumbered k = AreNumbered k.nodes k.variables

put_numbered : (k : Known) (n : Node) → IsMade n → IsNumbered k → IsNumbered (put k n).0
unfolding put
put_numbered k n m a = placed_numbered k.nodes k.variables n (place_of k.nodes n) m a

name_numbered : (k : Known) (text : Name) (o : Option ExprId) → IsNumbered k
    → IsNumbered (name_put k text o).0
unfolding variable_put put
name_numbered k text (Some x) a = a
name_numbered k text None a =
    let i : ℕ = position_or_len (bytes_eq text) k.variables in
    variable_joins k.nodes k.variables text i (list_any (bytes_eq text) k.variables)
    (place_of k.nodes (Var i)) a refl (first_place (bytes_eq text) k.variables)

named_numbered : (k : Known) (text : Name) → IsNumbered k → IsNumbered (named k text).0
unfolding named
named_numbered k text a = name_numbered k text (entry_of k.values text) a

definition_numbered : (d : Definition) (k : Known) → IsNumbered k
    → IsNumbered (definition_value d k)
definition_numbered (names_operator n o) k a = a
definition_numbered (names_value n h e) k a =
    expr_so IsNumbered put_numbered named_numbered (rounding_by k h) e k a

tree_numbered : (tree : Script) (k : Known) → IsNumbered k → IsNumbered (meaning_from tree k).known
tree_numbered (formula f h) k a = hints_so IsNumbered put_numbered named_numbered h
    ((formula_claims f k).known, no_hints) (formula_so IsNumbered put_numbered named_numbered f k a)
tree_numbered (define d rest) k a =
    tree_numbered rest (definition_value d k) (definition_numbered d k a)

pub script_numbered : (tree : Script) → IsNumbered (meaning_from tree nothing_known).known
script_numbered tree = tree_numbered tree nothing_known
    (record { few = omega arith; below = λ x v e. absurd (none_at (Var v) e) })
