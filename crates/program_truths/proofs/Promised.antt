-- A program's script tells its runs.
use Rattle.std.proofs.Common.{◌≡◌, inl, inr, ℕ, ℤ, List, [], ◌∷◌, ◌++◌, map, None, refl, sym, ap}
use Rattle.std.proofs.Common.{◌∙◌, subst, arith, append-nil}
use Rattle.std.specs.List.{AllByRecursion}
use Rattle.expr_dag.specs.Extended.{ValuesStay}
use Rattle.facts.proofs.CommonParts.{all_from}
use Rattle.script_words.specs.declared.lex.Token.{Token}
use Rattle.script_words.specs.Quiet.{EndsBeforeQuiet}
use Rattle.script_shape.specs.Propositions.{Formula}
use Rattle.script_shape.specs.Hints.{no_hint}
use Rattle.script_shape.specs.Roles.{LeavesSpell}
use Rattle.script_cases.specs.Met.{AreMet}
use Rattle.goal_spans.specs.declared.span.Span.{Span}
use Rattle.goal_spans.specs.Spans.{goal_spans}
use Rattle.script_nodes.specs.Literals.{LiteralsAreTold, LiteralsAreTested, SpelledOnce}
use Rattle.script_nodes.specs.Known.{Name, Known, nothing_known}
use Rattle.script_nodes.specs.Definitions.{with_value}
use Rattle.script_nodes.specs.Values.{expr_value}
use Rattle.script_claims.specs.declared.claim.Claim.{Claim}
use Rattle.script_claims.specs.Claims.{formula_claims}
use Rattle.script_claims.specs.Meets.{IsTrueAt}
use Rattle.script_hints.specs.Hints.{no_hints}
use Rattle.script_grammar.specs.Meaning.{meaning_of, meaning_from, body_meaning}
use Rattle.script_grammar.specs.Spells.{View, view_of, Spells as SpellsScript, SpellsOnce}
use Rattle.fixprog.specs.Grammar.{Input, Step, Program, outputs, step, output}
use Rattle.fixprog.specs.Faults.{program_faults}
use Rattle.fixprog.specs.Formats.{format_of, word_value}
use Rattle.fixprog.specs.Execution.{Values, value_or_zero, name_value, step_value, input_values}
use Rattle.fixprog.specs.Execution.{AreInRange}
use Rattle.fixprog.specs.Turned.{script_of}
use Rattle.fixprog.specs.First.{SpelledAreFaultless, WordsAreAlone}
use Rattle.fixprog.specs.Answer.{ScriptsAreText, ScriptsAreShort}
use Rattle.program_truths.specs.Promise.{goal_names, assignment_of, Tells, TellsRuns}
use Rattle.program_truths.specs.Promise.{ScriptsTellRuns, ScriptsAreScripts, NoRunWraps}
use Rattle.program_truths.specs.Outputs.{OutputsLie}
use Rattle.program_truths.proofs.Trees.{step_expr, script_from, program_formula, tree_of}
use Rattle.program_truths.proofs.Spelled.{faultless_is_read}
use Rattle.program_truths.proofs.Knowing.{IsFront, Knows}
use Rattle.program_truths.proofs.Growing.{front_of, steps_known}
use Rattle.program_truths.proofs.Running.{all_values, steps_ready}
use Rattle.program_truths.proofs.Saying.{Saying, said_known, said_claims, input_sayings}
use Rattle.program_truths.proofs.Saying.{format_saying, output_saying, goal_sayings, parts_before}
use Rattle.program_truths.proofs.Saying.{program_claims}
use Rattle.program_truths.proofs.Own.{HasEntry, Covers, Keeps, AreOwn, AreGiven, steps_run}
use Rattle.program_truths.proofs.Own.{outputs_have, inputs_run}
use Rattle.program_truths.proofs.Passed.{program_judged}
use Rattle.program_truths.proofs.Refused.{refused_nowhere}
use Rattle.program_truths.proofs.Telling.{HaveEntries, AreTold, told_kept, said_grow, said}
use Rattle.program_truths.proofs.Telling.{hypothesis_values, goal_values, run_ends, run_within}
use Rattle.program_truths.proofs.Telling.{hypotheses_true, goals_true, goals_within}
use Rattle.program_truths.proofs.Outputs.{goals_plain, lies_in_line}

-- ---- the meaning of the tree

meaning_is : (f : Formula) (xs : List Step) (k : Known) → meaning_from (script_from f xs) k
    ≡ body_meaning (formula_claims f (steps_known xs k)) no_hint
meaning_is f [] k = refl
meaning_is f (x ∷ xs) k = meaning_is f xs (with_value x.name (expr_value None (step_expr x) k))

abbrev view_with : List ℕ → List Token → List Span → Known → List Claim → List Claim
    → List (List (List Claim)) → View
view_with text tokens spans k hyps goals parts = record {
  text = text;
  tokens = tokens;
  nodes = k.nodes;
  variables = k.variables;
  hypotheses = hyps;
  parts = parts;
  goals = goals;
  spans = spans;
  hints = no_hints;
}

-- what is known behind the definitions, the hypotheses and the goals
abbrev defined : Program → Known
defined p = steps_known p.steps nothing_known

abbrev assumed : Program → Known
assumed p = said_known (input_sayings p.inputs) (defined p)

abbrev asked : Program → Known
asked p = said_known (goal_sayings p) (assumed p)

abbrev program_view : Program → List Token → View
program_view p tokens = view_with (script_of p) tokens (goal_spans (tree_of p)) (asked p)
    (said_claims (input_sayings p.inputs) (defined p)) (said_claims (goal_sayings p) (assumed p))
    (parts_before (input_sayings p.inputs) (defined p))

view_is : (p : Program) (tokens : List Token)
    → view_of (script_of p) tokens (meaning_of (tree_of p)) (goal_spans (tree_of p))
    ≡ program_view p tokens
view_is p tokens =
    let spans = goal_spans (tree_of p) in
    let text = script_of p in
    let cs = formula_claims (program_formula p) (defined p) in
    let c = program_claims p (defined p) in
    let of_claims = view_with text tokens spans in
    ap (λ m. view_of text tokens m spans) (meaning_is (program_formula p) p.steps nothing_known)
    ∙ ap (λ k. of_claims k cs.sides.hypotheses cs.sides.goals cs.sides.parts.before) c.known
    ∙ ap (λ l. of_claims (asked p) l cs.sides.goals cs.sides.parts.before) c.hypotheses
    ∙ ap (λ l. of_claims (asked p) (said_claims (input_sayings p.inputs) (defined p)) l
    cs.sides.parts.before) c.goals
    ∙ ap (λ l. of_claims (asked p) (said_claims (input_sayings p.inputs) (defined p))
    (said_claims (goal_sayings p) (assumed p)) l) c.parts

-- ---- one run

given_entries : (vs end : Values) (names last : List Name) (xs : List Input) (ws : List ℤ)
    → Keeps vs end last → AreGiven vs names last xs ws → HaveEntries end (input_sayings xs)
given_entries vs end names last [] ws k g = tt
given_entries vs end names last (x ∷ xs) [] k g = absurd g
given_entries vs end names last (x ∷ xs) (w ∷ ws) k g =
    let o = g.0 in
    let e : HasEntry end x.name =
    (word_value (format_of x.format) w, k x.name o.there ∙ o.own) in
    (e, (e, given_entries vs end names last xs ws k g.1))

goal_entries : (vs end : Values) (xs : List Step) (ts : List Name) → AreOwn vs end xs
    → AllByRecursion (HasEntry end) ts
    → HaveEntries end (map format_saying xs ++ map output_saying ts)
goal_entries vs end [] [] o h = tt
goal_entries vs end [] (t ∷ ts) o h = (h.0, goal_entries vs end [] ts o h.1)
goal_entries vs end (x ∷ xs) ts o h =
    let k = o.0 in
    ((step_value vs x, k.own), goal_entries ((x.name, step_value vs x) ∷ vs) end xs ts o.1 h)

all_met : (P : Claim → Type 0) (xs : List Saying) (k : Known)
    → AllByRecursion P (said_claims xs k) → AreMet P (parts_before xs k)
all_met P [] k h = tt
all_met P (x ∷ xs) k h = (inl h, tt)

module _ (stay : ValuesStay) (told : LiteralsAreTold) (once : SpelledOnce) (p : Program)
    (faultless : program_faults p ≡ []) (tokens : List Token) (words : List ℤ)
    (range : AreInRange p.inputs words)
  where
    tells_words : Tells p (program_view p tokens) words
    tells_words =
        let ins = input_values p.inputs words in
        let f = name_value ins in
        let vars = (asked p).variables in
        let a = map f vars in
        let more = map output (outputs p) in
        let start = inputs_run p.inputs words (map step p.steps ++ more)
        (record { names = []; weight = 0 }) 0 range faultless in
        let covers : Covers ins start.last.names =
        λ t k. elim (start.covers t k) [ inl e ↦ absurd (cc) | inr h ↦ h ] in
        let run = steps_run stay f vars p.steps more ins start.last start.at covers start.left in
        let end = all_values ins p.steps in
        let known : Knows a f ins nothing_known =
        λ t v e. inr (refl, ap value_or_zero e) in
        let whole : IsFront (asked p).variables vars = ([], sym (append-nil vars)) in
        let front_assumed = front_of (said_grow (goal_sayings p) (assumed p)) whole in
        let front_defined = front_of (said_grow (input_sayings p.inputs) (defined p)) front_assumed
        in
        let ready = steps_ready stay f vars p.steps ins nothing_known run.fine
        (record { ordered = λ i m h. absurd (omega arith); knows = known }) front_defined in
        let hyps = said stay f vars (input_sayings p.inputs) end (defined p)
        (given_entries ins end [] start.last.names p.inputs words run.keeps start.given) ready
        front_assumed in
        let goals = said stay f vars (goal_sayings p) end (assumed p)
        (goal_entries ins end p.steps (outputs p) run.own
        (outputs_have (outputs p) end run.last run.at run.covers run.left)) hyps.ready whole in
        let told_hyps = told_kept a (assumed p) (asked p) end (input_sayings p.inputs)
        (said_claims (input_sayings p.inputs) (defined p)) goals.kept hyps.told in
        let true_hyps = hypotheses_true (asked p).nodes a ins end [] start.last.names p.inputs words
        (said_claims (input_sayings p.inputs) (defined p)) run.keeps start.given told_hyps in
        record {
          meets = record {
            hypotheses = all_met (IsTrueAt (asked p).nodes a) (input_sayings p.inputs) (defined p)
                true_hyps;
            assumed = tt;
          };
          ends = (
            λ e. goals_true told once (asked p).nodes a end ins p.steps (outputs p)
                (said_claims (goal_sayings p) (assumed p)) run.own goals.told
                (run_within ins e.0 p.steps e.1).0,
            λ h. (
              end,
              run_ends ins p.steps (goals_within told once (asked p).nodes a end ins p.steps
                  (outputs p) (said_claims (goal_sayings p) (assumed p)) run.own goals.told h),
            ),
          );
          inputs = λ vs e. hypothesis_values a (asked p).nodes vs p.inputs _
              (subst (λ w. AreTold a (asked p).nodes w (input_sayings p.inputs)
              (said_claims (input_sayings p.inputs) (defined p)))
              (run_within ins vs p.steps e).1 told_hyps);
          steps = λ vs e. goal_values a (asked p).nodes vs p _
              (subst (λ w. AreTold a (asked p).nodes w (goal_sayings p)
              (said_claims (goal_sayings p) (assumed p)))
              (run_within ins vs p.steps e).1 goals.told);
        }

-- ---- all runs

module _ (law : EndsBeforeQuiet) (stay : ValuesStay) (told : LiteralsAreTold) (once : SpelledOnce)
    (one : SpellsOnce) (alone : WordsAreAlone) (sound : SpelledAreFaultless)
  where
    pub scripts_tell_runs : ScriptsTellRuns
    scripts_tell_runs text p spelled s script =
        let faultless = sound text p spelled in
        let read = faultless_is_read law p faultless (alone text p spelled) in
        let t = view_of (script_of p) read.tokens (meaning_of (tree_of p)) (goal_spans (tree_of p))
        in
        let same : SpellsScript (script_of p) t = record {
          accepted = script.accepted;
          lexed = read.lexed;
          tree = tree_of p;
          words = sym read.words;
          says = refl;
        } in
        let e : s ≡ program_view p read.tokens =
        one (script_of p) s t script same ∙ view_is p read.tokens in
        subst (TellsRuns p) (sym e)
        (record {
          hintless = refl;
          plain = goals_plain p.steps (outputs p) (assumed p);
          tells = tells_words stay told once p faultless read.tokens;
        })

    pub no_run_wraps : NoRunWraps
    no_run_wraps text p spelled s script h words range =
        let runs = scripts_tell_runs text p spelled s script in
        let t = runs.tells words range in
        t.ends.1 (h _ t.meets)

    pub outputs_lie : OutputsLie
    outputs_lie text p spelled s script lines hold words range =
        let runs = scripts_tell_runs text p spelled s script in
        let t = runs.tells words range in
        let a = assignment_of p s words in
        let h = hold a t.meets in
        let e = t.ends.1 (all_from (IsTrueAt s.nodes a) s.goals (λ k c g. (h k c g).3)) in
        record {
          last = e.0;
          ends = e.1;
          within = λ k x g. lies_in_line s a e.0 lines k x (goal_names p) runs.plain h
              (t.steps e.0 e.1) g;
        }

-- ---- the script is one

module _ (law : EndsBeforeQuiet) (stay : ValuesStay) (told : LiteralsAreTold) (once : SpelledOnce)
    (tested : LiteralsAreTested) (spell : LeavesSpell) (one : SpellsOnce) (alone : WordsAreAlone)
    (sound : SpelledAreFaultless) (utf8 : ScriptsAreText) (short : ScriptsAreShort)
  where
    pub scripts_are_scripts : ScriptsAreScripts
    scripts_are_scripts text p spelled =
        let faultless = sound text p spelled in
        let read = faultless_is_read law p faultless (alone text p spelled) in
        let t = view_of (script_of p) read.tokens (meaning_of (tree_of p)) (goal_spans (tree_of p))
        in
        let script : SpellsScript (script_of p) t = record {
          accepted = refused_nowhere spell (script_of p) (tree_of p) read
              (short text p spelled) (utf8 text p spelled)
              (program_judged told once tested p faultless _);
          lexed = read.lexed;
          tree = tree_of p;
          words = sym read.words;
          says = refl;
        } in
        record {
          script = t;
          spelled = script;
          tells = scripts_tell_runs law stay told once one alone sound text p spelled t script;
        }
