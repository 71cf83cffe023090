use Rattle.script_bounds.proofs.Rounded.{outward-least}
use Rattle.script_bounds.proofs.laws.outward_is_least.Goals as goal

pub returns : goal.returns
returns c = outward-least
