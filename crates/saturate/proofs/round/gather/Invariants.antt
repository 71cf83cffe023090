use Rattle.std.proofs.Common.{◌≤◌, ◌+◌, take, count_by}
use Rattle.saturate.proofs.round.gather.Given as goal

abbrev pub invariant-loop-k : goal.invariant-loop-k
invariant-loop-k g l = record {
  going : g.K.Keeps.going l.uni l.fn.kept l.kept l.changed.items l.k;
  cost : g.C.Concludes.asked l.steps ≤ g.C.Concludes.asked l.initial.steps + count_by (λ b. b)
      (take l.k l.due);
}
