-- A script has one subject, so what comes of bytes for it is answered.
use Rattle.std.proofs.Common.{◌≡◌, ◌≤◌, ◌<◌, Result, Ok, Err, length, sym, ap, subst, ◌∙◌, arith}
use Rattle.std.specs.Prelude.{IfOk}
use Rattle.std.proofs.lemmas.List.{length-map}
use Rattle.script_claims.specs.Facts.{goal_of}
use Rattle.script_grammar.specs.CountedHints.{HasFewHints}
use Rattle.script_grammar.specs.Spells.{View}
use Rattle.rewrite_hints.specs.Marks.{AreMarks}
use Rattle.rewrite_hints.proofs.MarksLaws.{marks_are_one, rows_are_one}
use Rattle.cert_bytes.specs.Reading.{Cursor}
use Rattle.cert_checker.specs.declared.fault.CheckStop.{CheckStop}
use Rattle.cert_checker.specs.declared.fault.CheckStop.TheVariants.{Cert, Check, Failed}
use Rattle.cert_checker.specs.declared.fault.CheckStop.TheVariants.{OutOfMemory}
use Rattle.cert_checker.specs.declared.lines.Lines.{Lines}
use Rattle.cert_checker.specs.declared.subject.Subject.{Subject}
use Rattle.cert_checker.specs.Outcomes.{Outcome, ComesOf, ComesOnce}
use Rattle.cert_checker.specs.Checking.{AreLinesOf, Checks, IsAnswer}
use Rattle.script_checker.specs.Subjects.{IsSubjectOf}
use Rattle.script_checker.specs.Checking.{ComesFor, ChecksFor, ChecksAreOne}

subjects_are_one : (s : View) (t u : Subject) → IsSubjectOf s t → IsSubjectOf s u → t ≡ u
subjects_are_one s t u a b =
    let nodes : t.nodes ≡ u.nodes = a.nodes ∙ sym b.nodes in
    let variables : t.variables ≡ u.variables = a.variables ∙ sym b.variables in
    let cases : t.cases ≡ u.cases = a.cases ∙ sym b.cases in
    let goals : t.goals ≡ u.goals = a.goals ∙ sym b.goals in
    let marks : t.marks ≡ u.marks =
    marks_are_one s.nodes s.hints.rewrites t.marks u.marks a.marks b.marks in
    let hints : t.hints ≡ u.hints =
    rows_are_one s.nodes s.hints.rewrites t.hints u.hints a.hints b.hints in
    (λ i. record {
      nodes = nodes i;
      variables = variables i;
      cases = cases i;
      goals = goals i;
      marks = marks i;
      hints = hints i;
    })

-- what comes of bytes for a script comes of them for its subject
comes_of : (s : View) (t : Subject) → IsSubjectOf s t → (p : Cursor) (o : Outcome)
    → ComesFor s p o → ComesOf t p o
comes_of s t is p o comes =
    subst (λ (u : Subject). ComesOf u p o) (subjects_are_one s comes.0 t comes.1 is) comes.2

pub checks_are_one : ComesOnce → ChecksAreOne
checks_are_one once s p o other a b = once b.0 p o other (comes_of s b.0 b.1 p o a) b.2

module _ (s : View) (t : Subject) (is : IsSubjectOf s t) where
  goals_are : length t.goals ≡ length s.goals
  goals_are = ap length is.goals ∙ length-map s.goals goal_of

  pub few_goals : length s.goals ≤ 128 → length t.goals < 65535
  few_goals l = let e = goals_are in omega (arith, e, l)

  pub few_marks : HasFewHints s.hints → length t.marks < 65535
  few_marks few = let l = few.rewrites in let e = is.marks.count in omega (arith, e, l)

  pub count_for : (result : Result Lines CheckStop) → IfOk result (AreLinesOf t)
      → IfOk result (λ lines. length lines.rows ≡ length s.goals)
  count_for (Ok lines) h = h.count ∙ goals_are
  count_for (Err e) h = tt

  pub marks_for : (result : Result Lines CheckStop) → IfOk result (AreLinesOf t)
      → IfOk result (λ lines. AreMarks s.nodes s.hints.rewrites lines.marks)
  marks_for (Ok lines) h = subst (AreMarks s.nodes s.hints.rewrites) (sym h.marks) is.marks
  marks_for (Err e) h = tt

module _ (s : View) (t : Subject) (is : IsSubjectOf s t) (p : Cursor) where
  pub checks_for : (result : Result Lines CheckStop) → Checks t p result → ChecksFor s p result
  checks_for (Ok lines) shows = record { subject = t; is = is; shows = shows }
  checks_for (Err (Cert f)) comes = (t, is, comes)
  checks_for (Err (Check f)) comes = (t, is, comes)
  checks_for (Err Failed) comes = tt
  checks_for (Err OutOfMemory) comes = tt

  pub exact_for : (result : Result Lines CheckStop) → ((o : Outcome) → ComesOf t p o
      → IsAnswer o result) → (o : Outcome) → ComesFor s p o → IsAnswer o result
  exact_for result exact o comes = exact o (comes_of s t is p o comes)
