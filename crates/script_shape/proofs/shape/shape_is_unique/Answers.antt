use Rattle.script_shape.proofs.Once.{shape_once}
use Rattle.script_shape.proofs.shape.shape_is_unique.Goals as goal

pub returns : goal.returns
returns c = shape_once
