use Rattle.cert_checker.proofs.Spelled.{accepted_are_spelled, spelled_are_accepted}
use Rattle.cert_checker.proofs.laws.bytes_are_accepted.Goals as goal

pub returns-clause-spelled : goal.returns-clause-spelled
returns-clause-spelled c = accepted_are_spelled c.certificates_are_spelled_once.ensures.spelled

pub returns-clause-accepted : goal.returns-clause-accepted
returns-clause-accepted c = spelled_are_accepted c.certificates_are_spelled_once.ensures.read
