use Rattle.script_truths.proofs.Kept.{universes_extend}
use Rattle.script_truths.proofs.laws.universes_extend.Goals as goal

pub returns : goal.returns
returns c = universes_extend
