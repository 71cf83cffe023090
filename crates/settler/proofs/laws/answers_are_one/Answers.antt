use Rattle.settler.proofs.Unique.{one_outcome, one_answer}
use Rattle.settler.proofs.laws.answers_are_one.Goals as goal

pub returns-clause-outcomes : goal.returns-clause-outcomes
returns-clause-outcomes c = λ s o. one_outcome c.universes_are_one.ensures
    c.boxes_come_to_one_state.ensures c.cases_answer_once.ensures.once s o

pub returns-clause-answers : goal.returns-clause-answers
returns-clause-answers c = λ s o. one_answer c.universes_are_one.ensures
    c.boxes_come_to_one_state.ensures c.cases_answer_once.ensures.once s o
