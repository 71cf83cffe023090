use Rattle.answer_certificates.proofs.Rows.{premises_few}
use Rattle.answer_certificates.proofs.laws.premises_are_few.Goals as goal

pub returns : goal.returns
returns c = premises_few
