use Rattle.std.proofs.Common.{◌≡◌, ◌≤◌, length, vec_capacity}
use Rattle.job_workers.specs.Results.{AreSlots, AreResults}
use Rattle.job_workers.proofs.gather.finish.Given as goal

abbrev pub invariant-loop-number : goal.invariant-loop-number
invariant-loop-number g l =
    (length l.outs.items ≡ l.number)
    × (length l.slots ≤ vec_capacity l.outs)
    × AreSlots (g.J.Job.is_result l.job) l.slots
    × AreResults (g.J.Job.is_result l.job) 0 l.outs.items
