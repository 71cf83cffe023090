use Rattle.script_nodes.proofs.TreeReads.{reads_trees}
use Rattle.script_nodes.proofs.laws.reads_trees.Goals as goal

pub returns : goal.returns
returns c = reads_trees
