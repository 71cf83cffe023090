use Rattle.std.proofs.Common.{◌≡◌, sym, ◌∙◌, subst, IfOk}
use Rattle.std.specs.Prelude.{None}
use Rattle.point_values.specs.Judged.{cases_in}
use Rattle.point_values.proofs.Whole.{lines_are, places_are}
use Rattle.point_values.proofs.evaluation.evaluate.Goals as goal

pub returns-clause-text : goal.returns-clause-text
returns-clause-text c =
    let j = c.args.judged.now in
    subst (λ b. IfOk c.lines_of.result (λ text. text.items ≡ b))
    (lines_are j.dag.now j.hypotheses.now (cases_in j)
    j.goals.now j.hints.now j.marks.now c.args.rows.now _ _ _ _
    c.deref.ensures.value c.deref-2.ensures.value c.in_ok-entries.ensures.values
    c.in_ok-values.ensures.values c.requires.within c.requires.can_evaluate.among)
    c.lines_of.ensures.lines

pub returns-clause-narrow : goal.returns-clause-narrow
returns-clause-narrow c =
    let j = c.args.judged.now in
    subst (λ b. IfOk c.lines_of.result (λ text. b ≡ None))
    (places_are j.dag.now j.hypotheses.now (cases_in j)
    j.goals.now j.hints.now j.marks.now c.args.rows.now _ _ _ _
    c.deref.ensures.value c.deref-2.ensures.value c.in_ok-entries.ensures.values
    c.in_ok-values.ensures.values c.requires.within c.in_ok-entries.ensures.narrow
    c.in_ok-values.ensures.narrow)
    c.lines_of.ensures.narrow

pub returns-clause-wide : goal.returns-clause-wide
returns-clause-wide c p e =
    let j = c.args.judged.now in
    sym (places_are j.dag.now j.hypotheses.now (cases_in j)
    j.goals.now j.hints.now j.marks.now c.args.rows.now _ _ _ _ c.deref.ensures.value
    c.deref-2.ensures.value c.in_ok-entries.ensures.values c.in_ok-values.ensures.values
    c.requires.within c.in_ok-entries.ensures.narrow c.in_ok-values.ensures.narrow)
    ∙ c.lines_of.ensures.wide p e
