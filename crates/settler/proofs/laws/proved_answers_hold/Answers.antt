use Rattle.settler.proofs.Proved.{proved_holds}
use Rattle.settler.proofs.laws.proved_answers_hold.Goals as goal

pub returns : goal.returns
returns c = proved_holds c.some_case_is_met.ensures c.goals_are_true.ensures.settled
    c.goals_are_true.ensures.lines c.settling_facts.ensures.kind c.cases_are_told.ensures.none
    c.lines_cover_cases.ensures
