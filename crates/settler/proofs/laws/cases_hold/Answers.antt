use Rattle.settler.proofs.Held.{case_holds}
use Rattle.settler.proofs.laws.cases_hold.Goals as goal

pub returns : goal.returns
returns c = case_holds c.universes_are_one.ensures c.what_is_given_is_true.ensures.hypotheses
    c.what_is_given_is_true.ensures.hints c.what_is_given_is_true.ensures.whole_box
