use Rattle.answer_certificates.proofs.Pieces.{pieces_are_of_cuts}
use Rattle.answer_certificates.proofs.laws.pieces_are_of_cuts.Goals as goal

pub returns : goal.returns
returns c = pieces_are_of_cuts
