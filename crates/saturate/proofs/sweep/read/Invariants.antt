use Rattle.std.proofs.Common.{◌≡◌, ◌≤◌, ℕ, Some, drop, take, slice_get}
use Rattle.std.specs.List.{Contains}
use Rattle.derivation.specs.Rounds.{all_at}
use Rattle.rule_universe.specs.declared.placed.Placed.{Placed}
use Rattle.rule_universe.specs.Placed.{slots_of}
use Rattle.saturate.proofs.Gather.{after}
use Rattle.saturate.proofs.sweep.read.Given as goal

abbrev pub invariant-loop-p : goal.invariant-loop-p
invariant-loop-p g l = record {
  read : all_at (g.K.Sweeps.facts l.uni l.kept) (slots_of l.placed) ≡ after l.premises.items
      (all_at (g.K.Sweeps.facts l.uni l.kept) (slots_of (drop l.p-index l.placed)));
  most : (p : Placed) (h : ℕ) → Contains (take l.p-index l.placed) p
      → slice_get l.heights p.place ≡ Some h → h ≤ l.top;
}
