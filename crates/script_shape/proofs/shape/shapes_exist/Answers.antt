use Rattle.script_shape.proofs.AllShaped.{shapes_exist}
use Rattle.script_shape.proofs.shape.shapes_exist.Goals as goal

pub returns : goal.returns
returns c = shapes_exist
