use Rattle.point_values.specs.Known.{values_of}
use Rattle.point_values.proofs.Along.{IsAlong}
use Rattle.point_values.proofs.lines.put_hints.Given as goal

abbrev pub invariant-loop-number : goal.invariant-loop-number
invariant-loop-number l = IsAlong (values_of l.values) l.hints l.marks l.fn.out.items l.out.items
    l.hold l.number
