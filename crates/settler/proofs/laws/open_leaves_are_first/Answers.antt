use Rattle.settler.proofs.Open.{open_first}
use Rattle.settler.proofs.laws.open_leaves_are_first.Goals as goal

pub returns : goal.returns
returns c = open_first c.cases_are_told.ensures.first c.universes_are_one.ensures
    c.boxes_come_to_one_state.ensures c.cases_answer_once.ensures.once
