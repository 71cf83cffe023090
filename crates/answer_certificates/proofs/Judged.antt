-- A script's subject is what derivations over its universe use.
use Rattle.std.specs.Prelude.{◌≡◌, ◌<◌, ◌≤◌, ◌^◌, ℕ, zero, suc, List, [], ◌∷◌, ◌++◌, length, map}
use Rattle.std.specs.Prelude.{Some, None, slice_get, refl}
use Rattle.std.proofs.Common.{sym, ◌∙◌, ap, subst, inl, inr, arith}
use Rattle.std.proofs.lemmas.List.{append_assoc, length-append}
use Rattle.std.proofs.lemmas.Bool.{cases_lt}
use Rattle.std.proofs.lemmas.Option.{slice_get_within}
use Rattle.fx_model.specs.declared.ExprId.{ExprId}
use Rattle.fx_model.specs.declared.Node.{Node}
use Rattle.fx_model.specs.declared.Node.TheVariants.{Var, Lit, Neg, Add, Sub, Mul, Div, Abs, Round}
use Rattle.fx_model.specs.Expression.{ChildrenBelow}
use Rattle.expr_dag.specs.Nodes.{IsAbsent}
use Rattle.pair_closure.specs.Closure.{difference_of, IsFollowed}
use Rattle.facts.specs.declared.fact.Fact.{Fact}
use Rattle.script_claims.specs.declared.claim.Claim.{Claim}
use Rattle.script_claims.specs.Facts.{facts_of}
use Rattle.script_grammar.specs.Spells.{View}
use Rattle.script_grammar.specs.Cases.{cases_of}
use Rattle.rule_universe.specs.Worlds.{World}
use Rattle.rewrite_hints.proofs.MarksLaws.{rows_are_one}
use Rattle.script_truths.specs.Truths.{HasUniverse}
use Rattle.cert_bytes.specs.Certificates.{HasShortParts}
use Rattle.cert_checker.specs.declared.subject.Subject.{Subject}
use Rattle.cert_checker.specs.Steps.{case_facts}
use Rattle.cert_checker.specs.Faults.{IsVariableBelow, IsFurther, JudgesNode}
use Rattle.tree_certificates.specs.Trees.{AreTaken}
use Rattle.answer_certificates.specs.Scripts.{HasRoom}
use Rattle.answer_certificates.specs.Laws.{SubjectsAreOfUniverses}
use Rattle.answer_certificates.proofs.Fronts.{front_get, seam_get, difference_behind}

-- ---- nodes
children_short : (k : ℕ) (n : Node) → k < 2 ^ 16 → ChildrenBelow k n
    → ((v : ℕ) → n ≡ Var v → v < 2 ^ 16) → HasShortParts n
children_short k (Var v) l c h = h v refl
children_short k (Lit v) l c h = tt
children_short k (Neg a) l c h = omega (arith, l, c)
children_short k (Add a b) l c h =
    (let p : a.0 < k = c.0 in omega (arith, l, p), let p : b.0 < k = c.1 in omega (arith, l, p))
children_short k (Sub a b) l c h =
    (let p : a.0 < k = c.0 in omega (arith, l, p), let p : b.0 < k = c.1 in omega (arith, l, p))
children_short k (Mul a b) l c h =
    (let p : a.0 < k = c.0 in omega (arith, l, p), let p : b.0 < k = c.1 in omega (arith, l, p))
children_short k (Div a b) l c h =
    (let p : a.0 < k = c.0 in omega (arith, l, p), let p : b.0 < k = c.1 in omega (arith, l, p))
children_short k (Abs a) l c h = omega (arith, l, c)
children_short k (Round r a) l c h = omega (arith, l, c)

not_variable : (a b : ExprId) (v : ℕ) → Sub a b ≡ Var v → ⊥
not_variable a b v e = cc

module _ (s : View) (claims : List Claim) (u : World) (has : HasUniverse s claims u)
    (room : HasRoom s u) where
  followed : IsFollowed s.nodes u.nodes
  followed = has.universe.closure.order

  abbrev further_nodes : List Node
  further_nodes = map difference_of followed.differences

  nodes_are : u.nodes ≡ s.nodes ++ further_nodes
  nodes_are = followed.list

  -- the node behind these
  module _ (before : List Node) (n : Node) (rest : List Node)
      (e : before ++ n ∷ rest ≡ u.nodes) where
    here : slice_get u.nodes (length before) ≡ Some n
    here = subst (λ l. slice_get l (length before) ≡ Some n) e (seam_get before n rest)

    here_split : slice_get (s.nodes ++ further_nodes) (length before) ≡ Some n
    here_split = subst (λ l. slice_get l (length before) ≡ Some n) nodes_are here

    within : length before < length u.nodes
    within = slice_get_within u.nodes (length before) n here

    own : length before < length s.nodes → slice_get s.nodes (length before) ≡ Some n
    own l = sym (front_get s.nodes further_nodes (length before) l) ∙ here_split

    later : length s.nodes ≤ length before → (a : ExprId) × (b : ExprId) × (n ≡ Sub a b)
    later l = difference_behind s.nodes followed.differences (length before) n l here_split

    children : ChildrenBelow (length before) n
    children = (room.lawful (record { 0 = length before }) n here).children

    absent : IsAbsent before n
    absent x h =
        let w = slice_get_within before x.0 n h in
        let a : slice_get u.nodes x.0 ≡ Some n =
        subst (λ l. slice_get l x.0 ≡ Some n) e (front_get before (n ∷ rest) x.0 w ∙ h) in
        let same : x.0 ≡ length before =
        has.universe.closure.expressions.once x.0 (length before) n a here in
        omega (arith, w, same)

    further : (variables : ℕ) → length s.nodes ≤ length before → IsFurther variables before n
    further variables l =
        let d = later l in
        record {
          room = let w = within in let m = room.short in omega (arith, w, m);
          children = children;
          variable = subst (IsVariableBelow variables) (sym d.2) tt;
          absent = absent;
        }

    short_variable : (v : ℕ) → n ≡ Var v → v < 2 ^ 16
    short_variable v q = elim (cases_lt (length before) (length s.nodes)) [
      | inl l ↦ room.numbers (record { 0 = length before }) v (own l ∙ ap Some q)
      | inr l ↦ (let d = later l in absurd (not_variable d.0 d.1 v (sym d.2 ∙ q)))
    ]

    short_parts : HasShortParts n
    short_parts = children_short (length before) n (let w = within in let m = room.short in
        omega (arith, w, m)) children short_variable

  nodes_taken : (t : Subject) → t.nodes ≡ s.nodes → (before rest : List Node)
      → before ++ rest ≡ u.nodes → AreTaken t before rest
  nodes_taken t same before [] e = tt
  nodes_taken t same before (n ∷ rest) e = (
    subst (λ o. JudgesNode o t.variables before n None) (sym same)
        (own before n rest e, further before n rest e t.variables),
    (room.lawful (record { 0 = length before }) n (here before n rest e)).limits,
    short_parts before n rest e,
    nodes_taken t same (before ++ n ∷ []) rest (append_assoc before (n ∷ []) rest ∙ e),
  )

-- ---- hypotheses and rows
-- the facts of the case in a place
case_at : (cs : List (List Claim)) (k : ℕ) (claims : List Claim) → slice_get cs k ≡ Some claims
    → case_facts (map facts_of cs) k ≡ facts_of claims
case_at [] k claims e = cc
case_at (c ∷ cs) zero claims e = let same : c ≡ claims = cc in ap facts_of same
case_at (c ∷ cs) (suc k) claims e = case_at cs k claims e

pub subjects_are_of_universes : SubjectsAreOfUniverses
subjects_are_of_universes s claims u has room case there t is = record {
  facts = ap (λ (cs : List (List Fact)). case_facts cs case) is.cases
      ∙ (case_at (cases_of s) case claims there ∙ sym has.universe.hypotheses);
  rows = rows_are_one s.nodes s.hints.rewrites t.hints u.hints is.hints has.universe.hints;
  wanted = is.goals ∙ sym has.universe.goals;
  few_goals = room.goals;
  few_marks = let few = room.hints.rewrites in let count = is.marks.count in
      omega (arith, few, count);
  own =
      let same = ap length is.nodes in
      let list = ap length (nodes_are s claims u has room) in
      omega (arith, same, list, length-append s.nodes (further_nodes s claims u has room));
  taken = nodes_taken s claims u has room t is.nodes [] u.nodes refl;
}
