use Rattle.script_shape.proofs.RoleLaws.{roles_unique}
use Rattle.script_shape.proofs.shape.roles_are_unique.Goals as goal

pub returns : goal.returns
returns c = roles_unique
