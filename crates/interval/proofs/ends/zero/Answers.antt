use Rattle.std.proofs.Common.{ap}
use Rattle.fx_model.specs.Grid.{At}
use Rattle.interval.proofs.ends.zero.Goals as goal

pub returns : goal.returns
returns c = ap At c.zero.ensures.value
