use Rattle.std.proofs.Common.{◌≡◌, ◌≤◌, ◌+◌, length}
use Rattle.derivation.specs.Derivations.{At}
use Rattle.saturate.specs.Universes.{setting_by}
use Rattle.saturate.specs.Sweeping.{IsSweeping}
use Rattle.saturate.proofs.sweep.pass.Given as goal

abbrev pub invariant-loop-k : goal.invariant-loop-k
invariant-loop-k g l = record {
  sweeping : (first : At) → IsSweeping (setting_by g.C.Concludes.rules l.uni) l.uni first l.height
      (g.K.Sweeps.facts l.uni l.initial.kept) l.initial.work.heights.items l.initial.work.due.items
      → IsSweeping (setting_by g.C.Concludes.rules l.uni) l.uni first l.height
      (g.K.Sweeps.facts l.uni l.kept) l.work.heights.items l.work.due.items;
  long : length l.work.due.items ≡ length l.uni.instances;
  fits : g.K.Sweeps.fits l.uni l.kept;
  came : (first : _) → g.K.Sweeps.came l.uni first l.initial.kept
      → g.K.Sweeps.came l.uni first l.kept;
  cost : g.C.Concludes.asked l.steps + l.work.left
      ≤ g.C.Concludes.asked l.initial.steps + l.initial.work.left;
}
