use Rattle.joined_runs.proofs.Again.{written_are_answered}
use Rattle.joined_runs.proofs.laws.written_certificates_are_answered.Goals as goal

pub returns : goal.returns
returns c =
    written_are_answered c.bytes_are_accepted.ensures.accepted c.check_answers_are_one.ensures
