-- By what a worker takes jobs of other lanes.
use Rattle.std.specs.Prelude.{ℕ}
use Rattle.box_deques.specs.Stealing.{CanSteal}
use Rattle.job_workers.specs.declared.start.Member.{Member}

-- a worker that has these can take jobs of other lanes
abbrev pub CanTake : {Q : Type 0} → ℕ → Member Q → Type 0
CanTake capacity m = CanSteal capacity m.hand m.thieves.items
