use Rattle.std.proofs.Common.{List, sym, ap, ◌∙◌, subst}
use Rattle.dyadic.specs.declared.number.Dyadic.{Dyadic}
use Rattle.script_claims.specs.declared.range.SplitRange.{SplitRange}
use Rattle.script_claims.specs.Ranges.{IsOrdered}
use Rattle.box_tree.specs.Points.{piece_of}
use Rattle.box_tree.proofs.Staying.{cut_is, cut_ordered}
use Rattle.box_tree.proofs.points.cut_piece.Goals as goal

pub returns-clause-is : goal.returns-clause-is
returns-clause-is c =
    let at : List Dyadic → SplitRange = λ ps. piece_of c.args.range ps c.args.i in
    c.piece_from.ensures ∙ ap at (cut_is c.args.range c.args.cut.now)

pub returns-clause-ordered : goal.returns-clause-ordered
returns-clause-ordered c =
    subst IsOrdered (sym (returns-clause-is c))
    (cut_ordered c.args.range c.args.cut.now c.args.i c.requires.ordered)
