use Rattle.rewrite_hints.specs.Marks.{AreSidesOf}
use Rattle.rewrite_hints.proofs.marks.sides_of.Given as goal

abbrev pub invariant-loop-hint : goal.invariant-loop-hint
invariant-loop-hint l = AreSidesOf l.hints l.hint-index l.sides.items
