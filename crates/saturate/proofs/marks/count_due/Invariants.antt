use Rattle.std.proofs.Common.{◌≡◌, count_by, take}
use Rattle.saturate.proofs.marks.count_due.Given as goal

abbrev pub invariant-loop-is_due : goal.invariant-loop-is_due
invariant-loop-is_due l = l.count ≡ count_by (λ b. b) (take l.is_due-index l.due)
