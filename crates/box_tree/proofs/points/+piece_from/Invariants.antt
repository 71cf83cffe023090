use Rattle.std.proofs.Common.{◌-◌}
use Rattle.box_tree.proofs.points.+piece_from.Given as goal

abbrev pub decreases-piece_from : goal.decreases-piece_from
decreases-piece_from l = 64 - l.k
