use Rattle.std.proofs.Common.{◌≡◌, ◌+◌, All, length}
use Rattle.job_workers.specs.Members.{CanTake}
use Rattle.job_workers.specs.Ready.{IsReady}
use Rattle.job_workers.proofs.start.posts_of.Given as goal

abbrev pub invariant-loop-number : goal.invariant-loop-number
invariant-loop-number g l =
    (length l.lanes.items + l.number ≡ length l.fn.lanes.items)
    × (length l.members.items + l.number ≡ length l.fn.lanes.items)
    × (length l.posts.items ≡ l.number)
    × All (CanTake g.Q.Naming.capacity) l.members.items
    × All (IsReady g.Q.Naming.capacity l.count) l.posts.items
