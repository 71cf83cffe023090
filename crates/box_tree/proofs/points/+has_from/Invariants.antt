use Rattle.std.proofs.Common.{◌-◌}
use Rattle.box_tree.proofs.points.+has_from.Given as goal

abbrev pub decreases-has_from : goal.decreases-has_from
decreases-has_from l = 64 - l.k
