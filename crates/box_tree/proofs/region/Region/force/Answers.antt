use Rattle.std.proofs.Common.{sym, ◌∙◌}
use Rattle.box_tree.proofs.Put.{range_ordered}
use Rattle.box_tree.proofs.region.Region.force.Goals as goal

pub cut_piece-requires-clause-ordered : goal.cut_piece-requires-clause-ordered
cut_piece-requires-clause-ordered c =
    range_ordered c.args.split.now.var c.ranges-2.result.now c.in-Some.range
    (sym c.range_in.ensures ∙ c.in-Some.is) c.ranges-2.ensures.ordered
