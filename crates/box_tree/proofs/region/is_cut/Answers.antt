use Rattle.std.proofs.Common.{sym, ◌∙◌}
use Rattle.box_tree.proofs.Put.{range_ordered}
use Rattle.box_tree.proofs.region.is_cut.Goals as goal

pub has_points-requires-clause-ordered : goal.has_points-requires-clause-ordered
has_points-requires-clause-ordered c =
    range_ordered c.args.split.now.var c.args.ranges.now c.in-Some.range
    (sym c.range_in.ensures ∙ c.in-Some.is) c.requires.ordered
