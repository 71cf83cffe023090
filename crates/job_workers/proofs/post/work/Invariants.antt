use Rattle.std.proofs.Common.{◌≤◌, length, vec_capacity}
use Rattle.box_deques.specs.Stealing.{CanSteal}
use Rattle.job_workers.specs.Results.{AreResultsOf}
use Rattle.job_workers.proofs.post.work.Given as goal

abbrev pub invariant-loop : goal.invariant-loop
invariant-loop g l =
    CanSteal g.Q.Naming.capacity l.hand l.thieves.items
    × (length l.done.items ≤ l.counter)
    × (l.count ≤ vec_capacity l.done)
    × AreResultsOf (g.J.Job.is_result l.job) l.done.items
