-- A script's variables have different names.
use Rattle.std.specs.Prelude.{◌≡◌, ℕ, List, [], ◌∷◌, ◌++◌, slice_get, zero, suc, Option, Some, None}
use Rattle.std.specs.Prelude.{Bool, true, false, ◌||◌, if◌then◌else◌, refl}
use Rattle.std.specs.List.{list_any}
use Rattle.std.specs.Str.{bytes_eq}
use Rattle.std.proofs.Common.{sym, ap, ◌∙◌, subst, inl, inr}
use Rattle.std.proofs.lemmas.Option.{none-some, same_Some}
use Rattle.std.proofs.lemmas.Slice.Eq.{bytes_eq-Decides}
use Rattle.fx_model.specs.declared.Rounding.{Rounding}
use Rattle.fx_model.specs.declared.ExprId.{ExprId}
use Rattle.fx_model.specs.declared.Node.{Node}
use Rattle.script_shape.specs.Expressions.{Expr, term, sum, difference, Term, factor, product}
use Rattle.script_shape.specs.Expressions.{quotient, Factor, negation, atom, Atom, number, variable}
use Rattle.script_shape.specs.Expressions.{parenthesized, absolute, called, rounded, fused}
use Rattle.script_shape.specs.Propositions.{Prop, lies_in, relative_in, at_most, at_least, multiple}
use Rattle.script_shape.specs.Propositions.{Stated, affirmed, denied, Formula, single, and, or}
use Rattle.script_shape.specs.Propositions.{implies}
use Rattle.script_shape.specs.Hints.{Need, nonzero, below, not_above, above, not_below, NeedList}
use Rattle.script_shape.specs.Hints.{last_need, more_needs, Needs, always, provided, Names}
use Rattle.script_shape.specs.Hints.{last_name, more_names, Halving, halved_by, with_goal, Hint}
use Rattle.script_shape.specs.Hints.{rewrite, like, split, halving, Hints, no_hint, hint}
use Rattle.script_shape.specs.Tree.{Definition, names_operator, names_value, Script, formula}
use Rattle.script_shape.specs.Tree.{define}
use Rattle.script_nodes.specs.Known.{Name, Known, PlacedNode, nothing_known, put, variables_with}
use Rattle.script_nodes.specs.Known.{variable_put, name_put, named, entry_of}
use Rattle.script_nodes.specs.Values.{then_rounded, expr_value, term_value, factor_value}
use Rattle.script_nodes.specs.Values.{atom_value}
use Rattle.script_nodes.specs.Definitions.{name_text, rounding_by, definition_value}
use Rattle.script_claims.specs.Claims.{prop_claim, stated_claim, formula_claims}
use Rattle.script_hints.specs.Hints.{NeedsSoFar, with_need, with_need_list, needs_value, HintsSoFar}
use Rattle.script_hints.specs.Hints.{no_hints, with_names, with_halving, with_hint, with_hints}
use Rattle.script_grammar.specs.Meaning.{meaning_from}
use Rattle.script_grammar.specs.Spells.{View, Spells}
use Rattle.point_text.proofs.Places.{push_cases, AreDistinct}

abbrev Distinct : Known → Type 0
Distinct k = AreDistinct k.variables

-- ---- one name more

among : (names : List Name) (i : ℕ) (v : Name) → slice_get names i ≡ Some v
    → list_any (bytes_eq v) names ≡ true
among [] i v h = absurd (none-some _ h)
among (n ∷ names) zero v h =
    ap (λ b. b || list_any (bytes_eq v) names) ((bytes_eq-Decides v n).1 (sym (same_Some _ _ h)))
among (n ∷ names) (suc i) v h = by (bytes_eq v n) (among names i v h)
  where
    by : (b : Bool) → list_any (bytes_eq v) names ≡ true → (b || list_any (bytes_eq v) names) ≡ true
    by true e = refl
    by false e = e

distinct_with : (names : List Name) (text : Name) → AreDistinct names
    → AreDistinct (variables_with names text)
distinct_with names text h = by (list_any (bytes_eq text) names) refl
  where
    fresh : list_any (bytes_eq text) names ≡ false → (i : ℕ) (v : Name) → slice_get names i ≡ Some v
        → text ≡ v → ⊥
    fresh e i v p q =
        let t : list_any (bytes_eq text) names ≡ true =
        among names i text (p ∙ ap (λ x. Some x) (sym q)) in cc

    by : (b : Bool) → list_any (bytes_eq text) names ≡ b
        → AreDistinct (if b then names else names ++ (text ∷ []))
    by true e = h
    by false e = λ i j v p q. elim (push_cases names text i v p) [
      | inl a ↦ elim (push_cases names text j v q) [
        | inl b ↦ h i j v a b
        | inr b ↦ absurd
            (fresh e i v a b.1)
      ]
      | inr a ↦ elim (push_cases names text j v q) [
        | inl b ↦ absurd (fresh e j v b a.1)
        | inr b ↦
            a.0 ∙ sym b.0
      ]
    ]

distinct_put : (k : Known) (n : Node) → Distinct k → Distinct (put k n).0
unfolding put
distinct_put k n h = h

distinct_variable : (k : Known) (text : Name) → Distinct k → Distinct (variable_put k text).0
unfolding variable_put put
distinct_variable k text h = distinct_with k.variables text h

distinct_name : (k : Known) (text : Name) (o : Option ExprId) → Distinct k
    → Distinct (name_put k text o).0
distinct_name k text None h = distinct_variable k text h
distinct_name k text (Some x) h = h

distinct_named : (k : Known) (text : Name) → Distinct k → Distinct (named k text).0
unfolding named
distinct_named k text h = distinct_name k text (entry_of k.values text) h

-- ---- expressions

module _ (q : Option Rounding) where
  distinct_rounded : (o : Option Rounding) (p : PlacedNode) → Distinct p.0
      → Distinct (then_rounded o p).0
  distinct_rounded None p h = h
  distinct_rounded (Some r) p h = distinct_put p.0 _ h

  then_operation : (p : PlacedNode) (n : Node) → Distinct p.0
      → Distinct (then_rounded q (put p.0 n)).0
  then_operation p n h = distinct_rounded q (put p.0 n) (distinct_put p.0 n h)

  mutual
    distinct_expr : (e : Expr) (k : Known) → Distinct k → Distinct (expr_value q e k).0
    distinct_expr (term t) k h = distinct_term t k h
    distinct_expr (sum e t) k h = then_operation (term_value q t (expr_value q e k).0) _
        (distinct_term t (expr_value q e k).0 (distinct_expr e k h))
    distinct_expr (difference e t) k h = then_operation (term_value q t (expr_value q e k).0) _
        (distinct_term t (expr_value q e k).0 (distinct_expr e k h))

    distinct_term : (t : Term) (k : Known) → Distinct k → Distinct (term_value q t k).0
    distinct_term (factor x) k h = distinct_factor x k h
    distinct_term (product t x) k h = then_operation (factor_value q x (term_value q t k).0) _
        (distinct_factor x (term_value q t k).0 (distinct_term t k h))
    distinct_term (quotient t x) k h = then_operation (factor_value q x (term_value q t k).0) _
        (distinct_factor x (term_value q t k).0 (distinct_term t k h))

    distinct_factor : (x : Factor) (k : Known) → Distinct k → Distinct (factor_value q x k).0
    distinct_factor (negation x) k h = distinct_put (factor_value q x k).0 _ (distinct_factor x k h)
    distinct_factor (atom a) k h = distinct_atom a k h

    distinct_atom : (a : Atom) (k : Known) → Distinct k → Distinct (atom_value q a k).0
    distinct_atom (number c text) k h = distinct_put k _ h
    distinct_atom (variable c text) k h = distinct_named k text h
    distinct_atom (parenthesized e) k h = distinct_expr e k h
    distinct_atom (absolute e) k h = distinct_put (expr_value q e k).0 _ (distinct_expr e k h)
    distinct_atom (called c text e) k h = distinct_put (expr_value q e k).0 _ (distinct_expr e k h)
    distinct_atom (rounded o e) k h = distinct_put (expr_value q e k).0 _ (distinct_expr e k h)
    distinct_atom (fused a b c) k h =
        let j = (expr_value q b (expr_value q a k).0).0 in
        let r = distinct_expr c j (distinct_expr b (expr_value q a k).0 (distinct_expr a k h)) in
        then_operation (put (expr_value q c j).0 _) _ (distinct_put (expr_value q c j).0 _ r)

-- ---- propositions and formulas

distinct_prop : (p : Prop) (k : Known) → Distinct k → Distinct (prop_claim p k).0
distinct_prop (lies_in e r) k h = distinct_expr None e k h
distinct_prop (relative_in a b r) k h =
    distinct_expr None b (expr_value None a k).0 (distinct_expr None a k h)
distinct_prop (at_most e b) k h = distinct_expr None e k h
distinct_prop (at_least e b) k h = distinct_expr None e k h
distinct_prop (multiple f e w) k h = distinct_expr None e k h

distinct_stated : (p : Stated) (k : Known) → Distinct k → Distinct (stated_claim p k).0
distinct_stated (affirmed p) k h = distinct_prop p k h
distinct_stated (denied p) k h = distinct_prop p k h

distinct_formula : (x : Formula) (k : Known) → Distinct k → Distinct (formula_claims x k).known
distinct_formula (single p) k h = distinct_stated p k h
distinct_formula (and x p) k h =
    distinct_stated p (formula_claims x k).known (distinct_formula x k h)
distinct_formula (or x p) k h =
    distinct_stated p (formula_claims x k).known (distinct_formula x k h)
distinct_formula (implies x p) k h =
    distinct_stated p (formula_claims x k).known (distinct_formula x k h)

-- ---- hints

distinct_need : (n : Need) (s : NeedsSoFar) → Distinct s.0 → Distinct (with_need n s).0
distinct_need (nonzero e zero_text) s h = distinct_expr None e s.0 h
distinct_need (below e b) s h = distinct_expr None e s.0 h
distinct_need (not_above e b) s h = distinct_expr None e s.0 h
distinct_need (above e b) s h = distinct_expr None e s.0 h
distinct_need (not_below e b) s h = distinct_expr None e s.0 h

distinct_need_list : (l : NeedList) (s : NeedsSoFar) → Distinct s.0
    → Distinct (with_need_list l s).0
distinct_need_list (last_need n) s h = distinct_need n s h
distinct_need_list (more_needs n l) s h = distinct_need_list l (with_need n s) (distinct_need n s h)

distinct_needs : (n : Needs) (k : Known) → Distinct k → Distinct (needs_value n k).0
distinct_needs always k h = h
distinct_needs (provided l) k h = distinct_need_list l (k, []) h

distinct_names : (l : Names) (s : HintsSoFar) → Distinct s.0 → Distinct (with_names l s).0
distinct_names (last_name n) s h = distinct_named s.0 (name_text n) h
distinct_names (more_names n l) s h = distinct_names l _ (distinct_named s.0 (name_text n) h)

distinct_halving : (x : Halving) (s : HintsSoFar) → Distinct s.0 → Distinct (with_halving x s).0
distinct_halving (halved_by e n) s h =
    distinct_names n ((expr_value None e s.0).0, s.1) (distinct_expr None e s.0 h)
distinct_halving (with_goal e x) s h = distinct_halving x (
  (expr_value None e s.0).0,
  s.1,
) (distinct_expr None e s.0 h)

distinct_hint : (x : Hint) (s : HintsSoFar) → Distinct s.0 → Distinct (with_hint x s).0
distinct_hint (rewrite a b n) s h =
    let j = (expr_value None a s.0).0 in
    distinct_needs n (expr_value None b j).0 (distinct_expr None b j (distinct_expr None a s.0 h))
distinct_hint (like a b) s h =
    distinct_expr None b (expr_value None a s.0).0 (distinct_expr None a s.0 h)
distinct_hint (split n c) s h = distinct_named s.0 (name_text n) h
distinct_hint (halving x) s h = distinct_halving x s h

distinct_hints : (x : Hints) (s : HintsSoFar) → Distinct s.0 → Distinct (with_hints x s).0
distinct_hints no_hint s h = h
distinct_hints (hint x l) s h = distinct_hints l (with_hint x s) (distinct_hint x s h)

-- ---- scripts

distinct_definition : (x : Definition) (k : Known) → Distinct k → Distinct (definition_value x k)
distinct_definition (names_operator n o) k h = h
distinct_definition (names_value n w e) k h = distinct_expr (rounding_by k w) e k h

distinct_from : (x : Script) (k : Known) → Distinct k → Distinct (meaning_from x k).known
distinct_from (formula f l) k h = distinct_hints l ((formula_claims f k).known, no_hints)
    (distinct_formula f k h)
distinct_from (define x rest) k h =
    distinct_from rest (definition_value x k) (distinct_definition x k h)

pub spelled_distinct : (text : List ℕ) (s : View) → Spells text s → AreDistinct s.variables
spelled_distinct text s h = subst (λ (x : View). AreDistinct x.variables) (sym h.says)
    (distinct_from h.tree nothing_known (λ i j v p q. absurd (none-some _ p)))
