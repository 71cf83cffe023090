use Rattle.script_hints.proofs.HintReads.{reads_hints}
use Rattle.script_hints.proofs.laws.reads_hints.Goals as goal

pub returns : goal.returns
returns c = reads_hints c.reads_trees.ensures
