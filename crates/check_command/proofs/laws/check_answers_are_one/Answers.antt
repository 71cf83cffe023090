use Rattle.check_command.proofs.Once.{check_once}
use Rattle.check_command.proofs.laws.check_answers_are_one.Goals as goal

pub returns : goal.returns
returns c =
    check_once c.script_or_refusal.ensures.once c.script_or_refusal.ensures.never_both
    c.firsts_are_unique.ensures c.checks_are_one.ensures
