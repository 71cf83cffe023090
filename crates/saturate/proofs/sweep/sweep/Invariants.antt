use Rattle.std.proofs.Common.{◌≤◌, ◌+◌}
use Rattle.saturate.specs.Universes.{setting_by}
use Rattle.saturate.specs.Sweeping.{IsSweeping}
use Rattle.saturate.proofs.sweep.sweep.Given as goal

abbrev pub invariant-loop : goal.invariant-loop
invariant-loop g l = record {
  sweeping : IsSweeping (setting_by g.C.Concludes.rules l.uni) l.uni
      (g.K.Sweeps.facts l.uni l.fn.kept) l.height (g.K.Sweeps.facts l.uni l.kept)
      l.work.heights.items l.work.due.items;
  fits : g.K.Sweeps.fits l.uni l.kept;
  came : g.K.Sweeps.came l.uni l.fn.kept l.kept;
  cost : g.C.Concludes.asked l.steps + l.work.left ≤ g.C.Concludes.asked l.fn.steps + l.fn.budget;
}
