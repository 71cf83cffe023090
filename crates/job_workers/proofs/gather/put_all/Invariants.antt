use Rattle.std.proofs.Common.{◌≤◌, ◌<◌, ℕ, length, slice_index_or}
use Rattle.job_workers.specs.Results.{AreResultsOf, AreSlots}
use Rattle.job_workers.proofs.gather.put_all.Given as goal

abbrev pub invariant-loop-k : goal.invariant-loop-k
invariant-loop-k g l =
    AreSlots (g.J.Job.is_result l.job) l.slots
    × ((j : ℕ) (d : _) → l.k ≤ j → j < length l.posts
    → AreResultsOf (g.J.Job.is_result l.job) (slice_index_or l.posts j d).done.items)
