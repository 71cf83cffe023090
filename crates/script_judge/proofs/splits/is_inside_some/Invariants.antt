use Rattle.std.proofs.Common.{◌≡◌, length}
use Rattle.std.specs.List.{list_any}
use Rattle.dyadic.specs.Values.{value_of as grid_value}
use Rattle.script_judge.specs.Splits as spec
use Rattle.script_judge.proofs.splits.is_inside_some.Given as goal

abbrev pub invariant-loop-ranges : goal.invariant-loop-ranges
invariant-loop-ranges l = list_any (spec.is_inside (grid_value l.point)) l.fn.ranges
    ≡ list_any (spec.is_inside (grid_value l.point)) l.ranges

abbrev pub decreases-loop-ranges : goal.decreases-loop-ranges
decreases-loop-ranges l = length l.ranges
