use Rattle.std.proofs.Common.{◌≡◌, drop}
use Rattle.derivation.specs.Decided.{first_open}
use Rattle.saturate.specs.Tables.{fact_at}
use Rattle.saturate.proofs.FirstOpen.{later_by}
use Rattle.saturate.proofs.judge.first_open.Given as goal

abbrev pub invariant-loop-k : goal.invariant-loop-k
invariant-loop-k l = first_open (fact_at l.table) l.goals
    ≡ later_by l.k (first_open (fact_at l.table) (drop l.k l.goals))
