-- Options in their ranges.
use Rattle.std.specs.Prelude.{◌≤◌, ℕ}
use Rattle.proof_options.specs.declared.options.Options.{Options}

-- Each number is in its range; there may be so many boxes at most.
pub record AreWithin (most : ℕ) (o : Options) : Type 0 where
  pub rounds : (1 ≤ o.rounds) × (o.rounds ≤ 64)
  pub depth : o.depth ≤ 32
  pub boxes : (1 ≤ o.boxes) × (o.boxes ≤ most)
  pub workers : (1 ≤ o.workers) × (o.workers ≤ 16)

-- A script may be proved so.
abbrev pub AreAllowed : Options → Type 0
AreAllowed o = AreWithin 8192 o
