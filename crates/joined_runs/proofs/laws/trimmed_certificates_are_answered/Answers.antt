use Rattle.joined_runs.proofs.Trimmed.{trimmed_are_answered}
use Rattle.joined_runs.proofs.laws.trimmed_certificates_are_answered.Goals as goal

pub returns : goal.returns
returns c =
    trimmed_are_answered c.bytes_are_accepted.ensures.accepted c.script_or_refusal.ensures.once
    c.checks_are_one.ensures c.check_answers_are_one.ensures
