use Rattle.poly_normal.proofs.Marks.{IsMarkedFrom}
use Rattle.poly_normal.proofs.parts.parts.Given as goal

abbrev pub invariant-loop-i : goal.invariant-loop-i
invariant-loop-i l = IsMarkedFrom l.nodes l.sides l.i l.marks.items

abbrev pub decreases-loop-i : goal.decreases-loop-i
decreases-loop-i l = l.i
