use Rattle.std.proofs.Common.{ap, ◌∙◌}
use Rattle.box_tree.specs.Points.{are_any}
use Rattle.box_tree.proofs.Staying.{cut_is}
use Rattle.box_tree.proofs.points.has_points.Goals as goal

pub returns : goal.returns
returns c = c.has_from.ensures ∙ ap are_any (cut_is c.args.range c.args.cut.now)
