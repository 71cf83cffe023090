use Rattle.goals.specs.declared.line.Line.TheVariants as line
use Rattle.case_trees.proofs.Covered.{holds_over}
use Rattle.case_trees.proofs.laws.lines_cover_cases.Goals as goal

pub returns : goal.returns
returns c = λ trees ls case t are there path facts leaf settled nodes a s k f at kind on holds.
    holds_over c.lines_hold.ensures.first c.lines_hold.ensures.more nodes a s k facts f at kind on
    holds c.answers_are_told.ensures.leaves t path leaf settled trees ls case are there line.Empty
