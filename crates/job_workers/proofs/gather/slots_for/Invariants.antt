use Rattle.std.proofs.Common.{◌≡◌, length}
use Rattle.job_workers.specs.Results.{AreSlots}
use Rattle.job_workers.proofs.gather.slots_for.Given as goal

abbrev pub invariant-loop : goal.invariant-loop
invariant-loop g l = (length l.slots.items ≡ l.counter)
    × AreSlots (g.J.Job.is_result l.job) l.slots.items
