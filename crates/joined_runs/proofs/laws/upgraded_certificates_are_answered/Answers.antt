use Rattle.joined_runs.proofs.Upgraded.{upgraded_are_answered}
use Rattle.joined_runs.proofs.laws.upgraded_certificates_are_answered.Goals as goal

pub returns : goal.returns
returns c =
    upgraded_are_answered c.certificates_are_spelled_once.ensures.once
    c.bytes_are_accepted.ensures.accepted c.check_answers_are_one.ensures
