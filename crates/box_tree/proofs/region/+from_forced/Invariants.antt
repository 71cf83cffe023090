use Rattle.std.proofs.Common.{length}
use Rattle.box_tree.proofs.region.+from_forced.Given as goal

abbrev pub decreases-from_forced : goal.decreases-from_forced
decreases-from_forced l = length l.cuts.now
