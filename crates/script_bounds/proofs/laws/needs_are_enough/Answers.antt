use Rattle.script_bounds.proofs.Enough.{under_is_enough, over_is_enough}
use Rattle.script_bounds.proofs.laws.needs_are_enough.Goals as goal

pub returns-clause-below : goal.returns-clause-below
returns-clause-below c = under_is_enough

pub returns-clause-above : goal.returns-clause-above
returns-clause-above c = over_is_enough
