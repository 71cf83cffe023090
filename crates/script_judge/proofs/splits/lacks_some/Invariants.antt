use Rattle.std.proofs.Common.{◌≡◌, length}
use Rattle.std.specs.List.{list_any}
use Rattle.script_judge.specs.Splits as spec
use Rattle.script_judge.proofs.splits.lacks_some.Given as goal

abbrev pub invariant-loop-ranges : goal.invariant-loop-ranges
invariant-loop-ranges l = list_any spec.is_none l.fn.ranges ≡ list_any spec.is_none l.ranges

abbrev pub decreases-loop-ranges : goal.decreases-loop-ranges
decreases-loop-ranges l = length l.ranges
