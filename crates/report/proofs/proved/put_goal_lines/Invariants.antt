use Rattle.std.proofs.Common.{◌≡◌, ◌++◌, length}
use Rattle.report.specs.Proved.{goal_lines}
use Rattle.report.proofs.proved.put_goal_lines.Given as goal

abbrev pub invariant-loop-spans_left : goal.invariant-loop-spans_left
invariant-loop-spans_left l = l.out.items ++ goal_lines l.text l.tokens l.spans_left l.lines_left
    ≡ l.fn.out.items ++ goal_lines l.text l.tokens l.fn.spans l.fn.lines

abbrev pub decreases-loop-spans_left : goal.decreases-loop-spans_left
decreases-loop-spans_left l = length l.spans_left
