use Rattle.script_nodes.proofs.LiteralReads.{reads_literals}
use Rattle.script_nodes.proofs.laws.reads_literals.Goals as goal

pub returns : goal.returns
returns c = reads_literals
