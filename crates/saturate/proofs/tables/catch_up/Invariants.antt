use Rattle.std.proofs.Common.{drop}
use Rattle.rule_universe.specs.Placed.{slots_of}
use Rattle.saturate.specs.Tables.{fact_at, IsShaped}
use Rattle.saturate.proofs.Caught.{IsCatching}
use Rattle.saturate.proofs.tables.catch_up.Given as goal

abbrev pub invariant-loop-p : goal.invariant-loop-p
invariant-loop-p l = record {
  catching : IsCatching (slots_of (drop l.p-index l.changed)) (fact_at l.initial.now)
      (fact_at l.now) (fact_at l.next);
  shape : IsShaped l.initial.now l.now;
}
