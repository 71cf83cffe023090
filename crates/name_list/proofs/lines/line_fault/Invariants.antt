use Rattle.std.proofs.Common.{◌≡◌, ◌≤◌, ◌<◌, ◌+◌, length}
use Rattle.name_list.specs.Lists.{lines_of, line_fault}
use Rattle.name_list.proofs.lines.line_fault.Given as goal

abbrev pub invariant-loop-rest : goal.invariant-loop-rest
invariant-loop-rest l =
    (line_fault 0 0 (lines_of l.text) ≡ line_fault l.count l.at (lines_of l.rest))
    × (0 < length l.rest → l.at + length l.rest ≤ length l.text)
    × (l.at ≤ length l.text + 1)
    × (l.count ≤ 64)

abbrev pub decreases-loop-rest : goal.decreases-loop-rest
decreases-loop-rest l = length l.rest
