use Rattle.answer_certificates.proofs.Spelled.{scripts_have_room, goals_have_slots}
use Rattle.answer_certificates.proofs.room.scripts_have_room.Goals as goal

pub returns-clause-room : goal.returns-clause-room
returns-clause-room c =
    scripts_have_room c.spelled_are_short.ensures c.spelled_have_few_hints.ensures
    c.spelled_have_few_constraints.ensures c.spelled_have_few_cases.ensures c.lexed_once.ensures
    c.leaves_are_of_trees.ensures.are
    c.hypotheses_have_slots.ensures

pub returns-clause-slots : goal.returns-clause-slots
returns-clause-slots c = goals_have_slots
