use Rattle.trim_command.proofs.Once.{answers_are_one, acceptable_trimmed}
use Rattle.trim_command.proofs.laws.trim_answers_are_one.Goals as goal

pub returns-clause-one : goal.returns-clause-one
returns-clause-one c =
    answers_are_one c.script_or_refusal.ensures.once c.script_or_refusal.ensures.never_both
    c.checks_are_one.ensures c.check_answers_are_one.ensures

pub returns-clause-comes : goal.returns-clause-comes
returns-clause-comes c =
    acceptable_trimmed c.certificates_are_spelled_once.ensures.once
    c.bytes_are_accepted.ensures.accepted c.certificates_are_spelled_once.ensures.read
    c.trimmed_are_accepted.ensures.used c.trimmed_are_accepted.ensures.left
