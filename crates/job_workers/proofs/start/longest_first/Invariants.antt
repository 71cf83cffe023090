use Rattle.std.proofs.Common.{◌≡◌, ◌≤◌, length, vec_capacity}
use Rattle.job_workers.proofs.start.longest_first.Given as goal

abbrev pub invariant-loop-number : goal.invariant-loop-number
invariant-loop-number g l = (length l.tasks.items ≡ l.number) × (l.count ≤ vec_capacity l.tasks)
