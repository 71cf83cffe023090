use Rattle.std.proofs.Common.{◌≡◌, take}
use Rattle.script_judge.specs.Splits as spec
use Rattle.script_judge.proofs.splits.case_ranges.Given as goal

abbrev pub invariant-loop-number : goal.invariant-loop-number
invariant-loop-number l = l.cases.items
    ≡ take l.number (spec.case_ranges l.sides.parts.before l.var)
