use Rattle.box_tree.proofs.Staying.{parts_asked}
use Rattle.box_tree.proofs.points.asked_count.Goals as goal

pub returns-in-Pieces-clause-is : goal.returns-in-Pieces-clause-is
returns-in-Pieces-clause-is c = λ r.
    parts_asked r c.args.cut.now c.in-Pieces.count _ c.in-Pieces.is c.saturating_sub.ensures
