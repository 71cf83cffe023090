use Rattle.std.proofs.Common.{sym, ◌∙◌}
use Rattle.box_tree.proofs.Put.{range_ordered}
use Rattle.box_tree.proofs.region.points_for.Goals as goal

pub cut_points-requires-clause-ordered : goal.cut_points-requires-clause-ordered
cut_points-requires-clause-ordered c =
    range_ordered c.args.split.now.var c.args.ranges.now c.in-Some.range
    (sym c.range_in.ensures ∙ c.in-Some.is) c.requires.ordered
