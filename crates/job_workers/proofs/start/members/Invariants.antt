use Rattle.std.proofs.Common.{◌≡◌, All, length, drop}
use Rattle.job_workers.specs.Members.{CanTake}
use Rattle.job_workers.proofs.start.members.Given as goal

abbrev pub invariant-loop-number : goal.invariant-loop-number
invariant-loop-number g l =
    (l.hands.items ≡ drop l.number l.initial.hands.items)
    × (length l.members.items ≡ l.number)
    × All (CanTake g.Q.Naming.capacity) l.members.items
