use Rattle.poly_normal.specs.Parts.{IsMarking}
use Rattle.poly_normal.proofs.Marks.{IsSideBelow}
use Rattle.poly_normal.proofs.parts.mark_sides.Given as goal

abbrev pub invariant-loop-k : goal.invariant-loop-k
invariant-loop-k l = IsMarking l.fn.marks.items l.marks.items (IsSideBelow l.sides l.k)
