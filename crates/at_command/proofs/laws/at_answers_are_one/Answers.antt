use Rattle.at_command.proofs.Once.{answers_once}
use Rattle.at_command.proofs.laws.at_answers_are_one.Goals as goal

pub returns : goal.returns
returns c = answers_once c.points_are_one.ensures.once
    c.points_are_one.ensures.apart c.points_are_one.ensures.faults
    c.script_or_refusal.ensures.once c.script_or_refusal.ensures.never_both
    c.firsts_are_unique.ensures
