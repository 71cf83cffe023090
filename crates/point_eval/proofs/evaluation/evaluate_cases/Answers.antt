use Rattle.std.specs.Prelude.{◌≡◌, List, All, IfOk, length, map}
use Rattle.std.proofs.Common.{ap, sym, subst, ◌∙◌}
use Rattle.script_hints.specs.Needs.{HasNormalBounds}
use Rattle.point_values.specs.Among.{AreAmong}
use Rattle.point_values.specs.Rows.{Row, assignment_of}
use Rattle.point_values.specs.Evaluation.{Subject, evaluation_of, IsNarrow}
use Rattle.point_eval.proofs.Lasting.{cases_among, within_of, judged_is}
use Rattle.point_eval.proofs.evaluation.evaluate_cases.Goals as goal

pub evaluate-requires-clause-can_evaluate : goal.evaluate-requires-clause-can_evaluate
evaluate-requires-clause-can_evaluate c =
    let s = c.args.script.now in
    let cases = map (λ case. case.items) c.args.listed.now in
    let hints : c.as_slice.result.now ≡ c.hints.result.now.rewrites = cc in
    let same : c.as_slice.result.now ≡ s.hints.rewrites = cc in
    record {
      assumed = c.hypotheses.ensures.normal;
      in_cases = c.requires.normal;
      among = subst (λ claims. AreAmong claims cases) (sym c.hypotheses.ensures.value)
          (cases_among s cases c.laws.ensures.cases c.requires.cases);
      claimed = c.goals.ensures.normal;
      hinted = subst (All HasNormalBounds) (sym hints) c.hints.ensures.normal;
      marked = c.requires.marks.count ∙ ap length (sym same);
    }

pub evaluate-requires-clause-within : goal.evaluate-requires-clause-within
evaluate-requires-clause-within c = within_of c.args.script.now c.nodes.result.now
    c.hypotheses.result.now c.goals.result.now c.as_slice.result.now c.nodes.ensures
    c.hypotheses.ensures.value c.goals.ensures.value (cc) c.laws.ensures.names

pub returns-clause-text : goal.returns-clause-text
returns-clause-text c =
    subst (λ (p : Subject × List Row). IfOk c.evaluate.result (λ text. text.items
    ≡ evaluation_of p.0 (assignment_of p.1)))
    (judged_is c.args.script.now c.args.marks.now c.nodes.result.now c.hypotheses.result.now
    (map (λ case. case.items) c.args.listed.now) c.goals.result.now c.as_slice.result.now
    c.as_slice-2.result.now c.args.point.now.rows c.nodes.ensures c.hypotheses.ensures.value
    c.requires.cases c.goals.ensures.value (cc) (cc))
    c.evaluate.ensures.text

pub returns-clause-narrow : goal.returns-clause-narrow
returns-clause-narrow c =
    subst (λ (p : Subject × List Row). IfOk c.evaluate.result (λ text. IsNarrow p.0 p.1))
    (judged_is c.args.script.now c.args.marks.now c.nodes.result.now c.hypotheses.result.now
    (map (λ case. case.items) c.args.listed.now) c.goals.result.now c.as_slice.result.now
    c.as_slice-2.result.now c.args.point.now.rows c.nodes.ensures c.hypotheses.ensures.value
    c.requires.cases c.goals.ensures.value (cc) (cc))
    c.evaluate.ensures.narrow
