use Rattle.script_cases.proofs.MetLaws.{met_in_some_case}
use Rattle.script_claims.specs.Meets.{IsTrueAt}
use Rattle.script_meets.proofs.HintsMet.{hints_are_met, needs_give_equal_sides}
use Rattle.script_meets.proofs.met_scripts.Goals as goal

pub returns-clause-hints : goal.returns-clause-hints
returns-clause-hints c = hints_are_met c.equal_forms_have_equal_values.ensures

pub returns-clause-sides : goal.returns-clause-sides
returns-clause-sides c = needs_give_equal_sides c.equal_forms_have_equal_values.ensures
    c.rounded_needs_are_enough.ensures.sides

pub returns-clause-cases : goal.returns-clause-cases
returns-clause-cases c = λ a s. met_in_some_case (IsTrueAt s.nodes a) s.parts
