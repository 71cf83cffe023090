use Rattle.answer_certificates.proofs.Sized.{universes_small}
use Rattle.answer_certificates.proofs.laws.universes_are_small.Goals as goal

pub returns : goal.returns
returns c = universes_small c.premises_are_few.ensures c.universes_extend.ensures
