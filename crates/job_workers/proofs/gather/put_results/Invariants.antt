use Rattle.job_workers.specs.Results.{AreResultsOf, AreSlots}
use Rattle.job_workers.proofs.gather.put_results.Given as goal

abbrev pub invariant-loop-number : goal.invariant-loop-number
invariant-loop-number g l = AreSlots (g.J.Job.is_result l.job) l.slots
    × AreResultsOf (g.J.Job.is_result l.job) l.done.items

abbrev pub decreases-loop-number : goal.decreases-loop-number
decreases-loop-number g l = goal.left-loop-number g l
