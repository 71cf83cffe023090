-- Rows of a script's hints are true over its nodes.
use Rattle.std.specs.Prelude.{◌≡◌, ◌<◌, ℕ, suc, List, [], ◌∷◌, Some, slice_get, length, map, refl}
use Rattle.std.specs.List.{AllByRecursion}
use Rattle.std.proofs.Common.{arith, subst, sym}
use Rattle.std.proofs.lemmas.Option.{slice_get_within}
use Rattle.fx_model.specs.declared.ExprId.{ExprId}
use Rattle.fx_model.specs.declared.Node.{Node}
use Rattle.fx_model.specs.declared.Node.TheVariants as node
use Rattle.fx_model.specs.Expression.{IsOrdered}
use Rattle.poly_normal.specs.Mark.{EqualFormsHaveEqualValues}
use Rattle.pair_closure.specs.Reached.{Has}
use Rattle.pair_closure.proofs.Members.{has_all, no_member}
use Rattle.facts.specs.declared.hint.HintRow.{HintRow}
use Rattle.facts.proofs.CommonParts.{stands}
use Rattle.script_hints.specs.declared.hint.Constraint.{Constraint}
use Rattle.script_hints.specs.declared.hint.Constraint.TheVariants as constraint
use Rattle.script_hints.specs.declared.hint.Hint.{Hint}
use Rattle.script_hints.specs.Needs.{need_of}
use Rattle.script_hints.specs.Meets.{MeetsHint}
use Rattle.script_grammar.specs.Names.{ConstraintIsOf, HintIsOf}
use Rattle.script_meets.specs.Meets.{HintsAreMet}
use Rattle.rule_universe.specs.Licensed.{NeedIsKnown, RowIsKnown}
use Rattle.rule_universe.proofs.Licensed.{kid}
use Rattle.rewrite_hints.specs.Rows.{IsRowOf, RowsAreTrue, EqualSidesAreMet}
use Rattle.rewrite_hints.specs.Marks.{AreRows}
use Rattle.script_truths.specs.Truths.{CheckedRowsAreTrue, MetRowsAreTrue}

-- ---- lists
pub all_from : {A : Type 0} (P : A → Type 0) (xs : List A)
    → ((x : A) → Has xs x → P x) → AllByRecursion P xs
all_from P [] h = tt
all_from P (x ∷ xs) h = (h x (0, refl), all_from P xs (λ y m. h y (suc m.0, m.1)))

-- ---- the row of a hint is about nodes
need_known : (n : ℕ) (c : Constraint) → ConstraintIsOf n c → NeedIsKnown n (need_of c)
need_known n (constraint.NotZero x) h = h
need_known n (constraint.Below x w strict) h = h
need_known n (constraint.Above x w strict) h = h

needs_known : (n : ℕ) (cs : List Constraint) → AllByRecursion (ConstraintIsOf n) cs
    → AllByRecursion (NeedIsKnown n) (map need_of cs)
needs_known n [] h = tt
needs_known n (c ∷ cs) h = (need_known n c h.0, needs_known n cs h.1)

module _ (nodes : List Node) (ordered : IsOrdered nodes) where
  pub row_known : (h : Hint) (row : HintRow) → HintIsOf (length nodes) h → IsRowOf nodes h row
      → RowIsKnown (length nodes) row
  row_known h row of is = record {
    left = subst (λ (x : ExprId). x.0 < length nodes) (sym is.left) of.sides.0;
    right = subst (λ (x : ExprId). x.0 < length nodes) (sym is.right) of.sides.1;
    divisors = all_from (λ (d : ExprId). d.0 < length nodes) row.divisors (λ d m.
        let w = (is.divisors.exactly d).0 m in
        (kid nodes [] ordered (λ p n. absurd (no_member p n)) w.0 (node.Div w.1 d) w.3).1);
    needs = subst (AllByRecursion (NeedIsKnown (length nodes))) (sym is.needs)
        (needs_known (length nodes) h.constraints of.constraints);
  }

-- ---- and is true
module _ (same : EqualFormsHaveEqualValues) (equal : EqualSidesAreMet) (rows : RowsAreTrue) where
  pub checked_true : CheckedRowsAreTrue
  checked_true nodes h row ordered of mark is a =
      rows nodes a h row ordered of.sides.0 is
      (equal nodes a h (same nodes h.left h.right ordered of.sides.0 of.sides.1 mark.1))

-- each row is that of a hint
pub hint_at : (nodes : List Node) (hints : List Hint) (rows : List HintRow)
    → AreRows nodes hints rows → (k : ℕ) (row : HintRow) → slice_get rows k ≡ Some row
    → (h : Hint) × Has hints h × IsRowOf nodes h row
hint_at nodes hints rows are k row e =
    let within = slice_get_within rows k row e in
    let s = stands hints k (omega (arith, are.count, within)) in
    (s.0, (k, s.1), are.each k s.0 row s.1 e)

module _ (hints : HintsAreMet) (rows : RowsAreTrue) where
  pub met_true : MetRowsAreTrue
  met_true s a ordered names meets list are k row e =
      let h = hint_at s.nodes s.hints.rewrites list are k row e in
      rows s.nodes a h.0 row ordered ((has_all
      (HintIsOf (length s.nodes)) s.hints.rewrites names.hints.rewrites h.0 h.1).sides).0 h.2
      (has_all (MeetsHint s.nodes a) s.hints.rewrites (hints a s ordered names meets) h.0 h.1)
