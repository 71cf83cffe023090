use Rattle.box_tree.proofs.OnRanges.{pieces_bounded}
use Rattle.box_tree.proofs.root.pieces_are_of_hypotheses.Goals as goal

pub returns : goal.returns
returns c = pieces_bounded
