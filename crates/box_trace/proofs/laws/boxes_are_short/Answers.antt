use Rattle.box_trace.proofs.Short.{boxes_short}
use Rattle.box_trace.proofs.laws.boxes_are_short.Goals as goal

pub returns : goal.returns
returns c = boxes_short
