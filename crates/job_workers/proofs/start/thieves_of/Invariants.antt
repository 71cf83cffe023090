use Rattle.std.proofs.Common.{All}
use Rattle.job_workers.specs.Posts.{IsThief}
use Rattle.job_workers.proofs.start.thieves_of.Given as goal

abbrev pub invariant-loop-number : goal.invariant-loop-number
invariant-loop-number g l = All (IsThief l.lanes l.me) l.thieves.items
