-- What meets a script meets its subject.
use Rattle.std.proofs.Common.{◌≡◌, ◌<◌, ℕ, zero, suc, List, [], ◌∷◌, Some, Result, Ok, Err, length}
use Rattle.std.proofs.Common.{map, refl, sym, subst, arith}
use Rattle.std.specs.Prelude.{slice_get, IfOk}
use Rattle.std.specs.List.{AllByRecursion}
use Rattle.std.proofs.lemmas.List.{length-map}
use Rattle.fx_model.specs.Expression.{Assignment, IsOrdered}
use Rattle.fx_model.specs.declared.Node.{Node}
use Rattle.facts.specs.declared.fact.Fact.{Fact}
use Rattle.facts.specs.declared.hint.HintRow.{HintRow}
use Rattle.facts.specs.Holds.{Holds}
use Rattle.facts.specs.Order.{slot_of}
use Rattle.facts.proofs.CommonParts.{all_at}
use Rattle.goals.specs.declared.goal.Goal.{Goal}
use Rattle.goals.specs.declared.line.Line.{Line}
use Rattle.goals.specs.Holds.{LineHolds}
use Rattle.theorem_list.specs.Promises.{RowsAreTrue}
use Rattle.script_claims.specs.declared.claim.Claim.{Claim}
use Rattle.script_claims.specs.Facts.{hypothesis_fact, want_of, goal_of, facts_of}
use Rattle.script_claims.specs.Facts.{slot_of as slot_of_claim}
use Rattle.script_claims.proofs.Facts.{facts_all}
use Rattle.script_claims.specs.Meets.{IsTrueAt}
use Rattle.script_hints.specs.Meets.{MeetsHint}
use Rattle.script_grammar.specs.Spells.{View}
use Rattle.script_grammar.specs.Cases.{cases_of}
use Rattle.script_grammar.specs.Ranges.{HasFewCases}
use Rattle.script_grammar.specs.Names.{NamesNodes, HintIsOf}
use Rattle.script_meets.specs.Meets.{Meets, HintsAreMet}
use Rattle.script_meets.specs.Held.{AreHeld}
use Rattle.rewrite_hints.specs.Rows.{RowsAreTrue as HintRowsAreTrue}
use Rattle.rewrite_hints.specs.Marks.{AreRows}
use Rattle.cert_bytes.specs.declared.item.Item.{Item}
use Rattle.cert_bytes.specs.Reading.{Cursor}
use Rattle.cert_checker.specs.declared.fault.CheckStop.{CheckStop}
use Rattle.cert_checker.specs.declared.lines.Lines.{Lines}
use Rattle.cert_checker.specs.declared.subject.Subject.{Subject}
use Rattle.cert_checker.specs.Contexts.{Context}
use Rattle.cert_checker.specs.Steps.{case_facts}
use Rattle.cert_checker.specs.Accepted.{Accepts}
use Rattle.cert_checker.specs.Met.{SlotIsAmong, RowIsAmong, AcceptedHolds, GoalHolds, LinesHold}
use Rattle.cert_checker.specs.Met.{NamesNodes as SubjectNamesNodes, Meets as MeetsSubject}
use Rattle.cert_checker.specs.Outcomes.{accepted, ComesOf, CheckedHolds}
use Rattle.cert_checker.specs.Checking.{AreAccepted}
use Rattle.script_checker.specs.Subjects.{IsSubjectOf}
use Rattle.script_checker.specs.Checking.{AreAcceptedFor}
use Rattle.script_checker.proofs.Settled.{ClaimLaws, settled}
use Rattle.script_checker.proofs.CaseFacts.{some_case_met, cases_named, case_facts_named}
use Rattle.script_checker.proofs.CaseFacts.{case_facts_held}
use Rattle.script_checker.proofs.Named.{goals_named, hint_of, rows_named}

-- a claim's fact holds wherever the claim is true
abbrev FactsHold : Type 0
FactsHold = (nodes : List Node) (a : Assignment) (c : Claim) (f : Fact) → hypothesis_fact c ≡ Some f
    → IsTrueAt nodes a c → Holds nodes a f

rows_held : HintsAreMet → HintRowsAreTrue → (s : View) (a : Assignment) (rows : List HintRow)
    → IsOrdered s.nodes → NamesNodes s → Meets a s → AreRows s.nodes s.hints.rewrites rows
    → RowsAreTrue s.nodes a rows
rows_held met true s a rows ordered names meets are k row e =
    let h = hint_of s.nodes ordered s.hints.rewrites rows are k row e in
    let of = all_at (HintIsOf (length s.nodes)) s.hints.rewrites k h.0 names.hints.rewrites h.1 in
    let all = met a s ordered names meets in
    true s.nodes a h.0 row ordered of.sides.0 h.2
    (all_at (MeetsHint s.nodes a) s.hints.rewrites k h.0 all h.1)

-- the subject's parts, where they are the script's
names_nodes : (s : View) (t : Subject) → IsOrdered s.nodes → NamesNodes s → HasFewCases s
    → IsSubjectOf s t → SubjectNamesNodes t
names_nodes s t ordered names few is =
    let P : List Node → Type 0 = λ ns.
    AllByRecursion (AllByRecursion (λ (f : Fact). SlotIsAmong (length ns) (slot_of f))) t.cases in
    let Q : List Node → Type 0 =
    λ ns. AllByRecursion (λ (g : Goal). SlotIsAmong (length ns) g.of) t.goals in
    let R : List Node → Type 0 = λ ns. AllByRecursion (RowIsAmong (length ns)) t.hints in
    record {
      facts = subst P (sym is.nodes) (subst (AllByRecursion
          (AllByRecursion (λ (f : Fact). SlotIsAmong (length s.nodes) (slot_of f)))) (sym is.cases)
          (case_facts_named (length s.nodes) (cases_of s) (cases_named s few names)));
      goals = subst Q (sym is.nodes)
          (subst (AllByRecursion (λ (g : Goal). SlotIsAmong (length s.nodes) g.of)) (sym is.goals)
          (goals_named (length s.nodes) s.goals names.goals));
      hints = subst R (sym is.nodes)
          (rows_named s.nodes ordered s.hints.rewrites t.hints names.hints.rewrites is.hints);
    }

meets_subject : FactsHold → HintsAreMet → HintRowsAreTrue
    → (s : View) (t : Subject) (a : Assignment) → IsOrdered s.nodes → NamesNodes s → IsSubjectOf s t
    → Meets a s → MeetsSubject t a
meets_subject holds met true s t a ordered names is meets = record {
  rows = subst (λ (ns : List Node). RowsAreTrue ns a t.hints) (sym is.nodes)
      (rows_held met true s a t.hints ordered names meets is.hints);
  case = (some_case_met s a meets).number;
  within = let l = (some_case_met s a meets).within in
      subst (λ (cs : List (List Fact)). (some_case_met s a meets).number < length cs) (sym is.cases)
      (omega (arith, l, length-map (cases_of s) facts_of));
  facts =
      let met = some_case_met s a meets in
      let P : List (List Fact)
      → Type 0 = λ cs. AllByRecursion (Holds s.nodes a) (case_facts cs met.number) in
      let Q : List Node → Type 0 =
      λ ns. AllByRecursion (Holds ns a) (case_facts t.cases met.number) in
      subst Q (sym is.nodes) (subst P (sym is.cases)
      (case_facts_held s.nodes a (facts_all (Holds s.nodes a) (IsTrueAt s.nodes a)
      (λ c f e t. holds s.nodes a c f e t)) (cases_of s) met.number met.claims));
}

-- each goal's line holds, and the goal is true
module _ (laws : ClaimLaws) (nodes : List Node) (a : Assignment) where
  goal_true : (c : Claim) (l : Line) → GoalHolds nodes a (goal_of c) l → IsTrueAt nodes a c
  goal_true c l h = settled laws nodes a c (want_of c) h.fact refl h.settles.0 h.settles.1 h.holds

  held_at : (goals : List Claim) (lines : List Line) → LinesHold nodes a (map goal_of goals) lines
      → (k : ℕ) (c : Claim) → slice_get goals k ≡ Some c → (l : Line) × (slice_get lines k ≡ Some l)
      × LineHolds nodes a (slot_of_claim c) l × IsTrueAt nodes a c
  held_at [] lines h k c e = cc
  held_at (g ∷ goals) [] h k c e = absurd h
  held_at (g ∷ goals) (l ∷ lines) h zero c e =
      let q : g ≡ c = cc in
      let P : Claim → Type 0 = λ x. (m : Line) × (slice_get (l ∷ lines) 0 ≡ Some m)
      × LineHolds nodes a (slot_of_claim x) m × IsTrueAt nodes a x in
      subst P q (l, refl, h.0.line, goal_true g l h.0)
  held_at (g ∷ goals) (l ∷ lines) h (suc k) c e = held_at goals lines h.1 k c e

-- what the laws of the crates below give
pub record ScriptLaws : Type 0 where
  pub claims : ClaimLaws
  pub hypotheses : FactsHold
  pub hints : HintsAreMet
  pub rows : HintRowsAreTrue

module _ (laws : ScriptLaws) (s : View) (t : Subject) (ordered : IsOrdered s.nodes)
    (names : NamesNodes s) (few : HasFewCases s) (is : IsSubjectOf s t) where
  nodes_ordered : IsOrdered t.nodes
  nodes_ordered = subst IsOrdered (sym is.nodes) ordered

  -- where lines hold of what meets the subject, they are held by what meets the script
  held : (lines : List Line)
      → ((a : Assignment) → MeetsSubject t a → LinesHold t.nodes a t.goals lines) → (a : Assignment)
      → Meets a s → AreHeld s a lines
  held lines h a meets =
      let P : List Goal → Type 0 = λ gs. LinesHold s.nodes a gs lines in
      let Q : List Node → Type 0 = λ ns. LinesHold ns a t.goals lines in
      held_at laws.claims s.nodes a s.goals lines (subst P is.goals (subst Q is.nodes
      (h a (meets_subject laws.hypotheses laws.hints laws.rows s t a ordered names is meets))))

  pub checked_held : (result : Result Lines CheckStop)
      → (IsOrdered t.nodes → SubjectNamesNodes t → IfOk result (λ lines. (a : Assignment)
      → MeetsSubject t a → LinesHold t.nodes a t.goals lines.rows))
      → IfOk result (λ lines. (a : Assignment) → Meets a s → AreHeld s a lines.rows)
  checked_held (Ok lines) h =
      held lines.rows (h nodes_ordered (names_nodes s t ordered names few is))
  checked_held (Err e) h = tt

  pub accepted_so : (all : List ℕ) (result : Result Lines CheckStop)
      → IfOk result (λ lines. AreAccepted t all lines.rows)
      → IfOk result (λ lines. AreAcceptedFor s all lines.rows)
  accepted_so all (Ok lines) h = record { subject = t; is = is; accepted = h }
  accepted_so all (Err e) h = tt

  pub items_held : AcceptedHolds → (items : List Item) (lines : List Line) → Accepts t items lines
      → (a : Assignment) → Meets a s → AreHeld s a lines
  items_held holds items lines acc =
      held lines (holds t items lines nodes_ordered (names_nodes s t ordered names few is) acc)

  pub bytes_held : CheckedHolds → (p : Cursor) (end : Context) → ComesOf t p (accepted end)
      → (a : Assignment) → Meets a s → AreHeld s a end.lines
  bytes_held holds p end comes =
      held end.lines (holds t p end nodes_ordered (names_nodes s t ordered names few is) comes)
