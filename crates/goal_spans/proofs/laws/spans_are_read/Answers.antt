use Rattle.goal_spans.proofs.SpansRead.{reads_spans}
use Rattle.goal_spans.proofs.laws.spans_are_read.Goals as goal

pub returns : goal.returns
returns c = reads_spans c.leaves_are_of_trees.ensures.spell
