use Rattle.script_shape.proofs.RoleLaws.{script_spells, leaves_of_trees}
use Rattle.script_shape.proofs.shape.leaves_are_of_trees.Goals as goal

pub returns : goal.returns
returns c = record { spell = script_spells; are = leaves_of_trees }
