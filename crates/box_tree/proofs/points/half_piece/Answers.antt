use Rattle.std.proofs.Common.{[], ◌∷◌, refl, sym, ◌∙◌, subst, arith}
use Rattle.script_claims.specs.Ranges.{IsOrdered}
use Rattle.box_tree.proofs.Staying.{first_piece, later_piece, half_ordered}
use Rattle.box_tree.proofs.points.half_piece.Goals as goal

pub returns-then-i-eq0-clause-is : goal.returns-then-i-eq0-clause-is
returns-then-i-eq0-clause-is c =
    first_piece c.args.range (c.args.m ∷ []) [] c.args.m c.args.i c.if-i-eq0.true refl

pub returns-then-i-eq0-clause-ordered : goal.returns-then-i-eq0-clause-ordered
returns-then-i-eq0-clause-ordered c =
    subst IsOrdered (sym (returns-then-i-eq0-clause-is c))
    (half_ordered c.args.range c.args.m c.args.i c.requires.ordered c.requires.within)

pub returns-clause-is : goal.returns-clause-is
returns-clause-is c =
    c.last_piece.ensures
    ∙ later_piece c.args.range (c.args.m ∷ []) [] c.args.m c.args.i (omega arith) refl

pub returns-clause-ordered : goal.returns-clause-ordered
returns-clause-ordered c =
    subst IsOrdered (sym (returns-clause-is c))
    (half_ordered c.args.range c.args.m c.args.i c.requires.ordered c.requires.within)
