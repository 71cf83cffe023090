-- What is answered to a script, from what its boxes come to.
use Rattle.std.specs.Prelude.{◌≡◌, ◌<◌, ℕ, List, length, get_or, Some, slice_get}
use Rattle.std.proofs.Common.{◌∙◌, ap, sym, subst, inl, arith}
use Rattle.std.proofs.lemmas.List.FromFn.{length-map-range_with_len}
use Rattle.goals.specs.declared.line.Line.{Line}
use Rattle.script_claims.specs.declared.claim.Claim.{Claim}
use Rattle.script_grammar.specs.Cases.{cases_of}
use Rattle.script_grammar.specs.Spells.{View, Spells, GoalsHaveSpans}
use Rattle.bisect.specs.declared.outcome.Leaf.{Leaf}
use Rattle.bisect.specs.Gathered.{line_of, lines_of}
use Rattle.bisect.specs.declared.outcome.Outcome.TheVariants as outcome
use Rattle.bisect.specs.declared.outcome.OpenLeaf.{OpenLeaf}
use Rattle.settler.specs.declared.cases.Case.{Case}
use Rattle.settler.specs.Answers.{Options, ComesTo, HasTooManyExpressions, IsProved, plan_of}
use Rattle.settler.specs.Cases.{AreCases}
use Rattle.settler.proofs.CasesLaws.{as_many, case_of}
use Rattle.settler.specs.Tight.{ProvedLinesAreTight}
use Rattle.settler.specs.Held.{ProvedHolds}
use Rattle.command_runs.specs.Runs.{Bytes}
use Rattle.command_runs.specs.declared.status.Status.TheVariants as status
use Rattle.report.specs.Lines.{expressions_text}
use Rattle.report.specs.Unproved.{unproved_text}
use Rattle.script_answers.specs.Answers.{IsProvedText, ProvePrints}

-- all goals are settled
pub proved_text : GoalsHaveSpans → ProvedLinesAreTight → (s : View) (o : Options) (count : ℕ)
    (leaves : List Leaf) (shown : List Line) → ProvedHolds s o → Spells s.text s
    → ComesTo s o (outcome.Leaves count leaves) → shown ≡ lines_of leaves (length s.goals)
    → IsProvedText o s.text s count shown
proved_text spans tight s o count leaves shown holds spelled comes are =
    let proved : IsProved s o shown = (count, (leaves, comes, are)) in record {
      spelled = spelled;
      proved = (leaves, comes, are);
      tight = tight s o shown proved;
      words = spans s.text s spelled;
      each = ap length are ∙ length-map-range_with_len (line_of leaves) 0 (length s.goals);
      holds = λ a meets. holds shown a proved meets;
    }

-- ---- no universe
-- there are too many expressions
pub many_expressions : (s : View) (o : Options) (lines : Bytes) → Spells s.text s
    → HasTooManyExpressions s → lines ≡ expressions_text
    → ProvePrints o s.text status.Limit lines
many_expressions s o lines spelled many e = (s, spelled, inl (many, e))

-- ---- an open leaf
-- its line, by the planned case in its place
pub open_line_in : (s : View) (depth : ℕ) (cases : List Case) → AreCases s depth (cases_of s) cases
    → (leaf : OpenLeaf) (number : ℕ) → number ≡ leaf.case → (case : Case) (lines : Bytes)
    → leaf.case < length (cases_of s) → case ≡ get_or cases number case
    → lines ≡ unproved_text s case.plan (length cases) leaf.case leaf.path leaf.goal
    → (claims : List Claim) × (slice_get (cases_of s) leaf.case ≡ Some claims)
    × (lines ≡ unproved_text s (plan_of s claims depth) (length (cases_of s)) leaf.case leaf.path
    leaf.goal)
open_line_in s depth cases are leaf number same case lines below is e =
    let many = as_many s depth (cases_of s) cases are in
    let here = case_of s depth cases are leaf.case case (omega (arith, many, below))
    (subst (λ n. case ≡ get_or cases n case) same is) in
    let plan : case.plan ≡ plan_of s case.claims depth = here.1.plan in
    let count : length cases ≡ length (cases_of s) = sym many in (
      case.claims,
      here.0,
      e ∙ (λ i. unproved_text s (plan i) (count i) leaf.case leaf.path leaf.goal),
    )
