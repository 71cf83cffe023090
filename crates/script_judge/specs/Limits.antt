-- What passes no limit.
use Rattle.std.specs.Prelude.{◌≤◌, ◌*◌, ◌<◌}
use Rattle.script_judge.specs.declared.counts.Counts.{Counts}

-- Each count is one that a script may have.
pub record IsWithinLimits (c : Counts) : Type 0 where
  pub definitions : c.definitions ≤ 256
  pub propositions : c.propositions ≤ 128
  pub hints : c.hints ≤ 64
  pub nodes : c.nodes ≤ 512
  pub splits : c.splits ≤ 4
  pub pieces : c.pieces ≤ 64
  pub cases : c.cases * c.conjunctions ≤ 64

-- There is a case, and a conjunction has begun.
pub record HasCases (c : Counts) : Type 0 where
  pub cases : 0 < c.cases
  pub conjunctions : 0 < c.conjunctions
