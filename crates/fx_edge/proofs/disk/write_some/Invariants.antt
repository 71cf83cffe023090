use Rattle.std.proofs.Common.{◌≤◌}
use Rattle.std.specs.Io.KnownBytes.{Keeps}
use Rattle.fx_edge.proofs.disk.write_some.Given as goal

-- the count doesn't fall, and nothing is written
abbrev pub invariant-tries : goal.invariant-tries
invariant-tries g l = record {
  later : l.initial.faults ≤ l.faults;
  kept : Keeps (g.W.Write.contents l.initial.writer) (g.W.Write.contents l.writer);
}
