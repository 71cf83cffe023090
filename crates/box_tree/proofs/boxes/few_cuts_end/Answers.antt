use Rattle.box_tree.proofs.Depth.{bottom}
use Rattle.box_tree.proofs.boxes.few_cuts_end.Goals as goal

pub returns : goal.returns
returns c = bottom
