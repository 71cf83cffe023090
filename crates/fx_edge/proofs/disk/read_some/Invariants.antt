use Rattle.std.proofs.Common.{◌≤◌}
use Rattle.std.specs.Io.KnownBytes.{Keeps}
use Rattle.fx_edge.proofs.disk.read_some.Given as goal

-- the count doesn't fall, and nothing is read
abbrev pub invariant-tries : goal.invariant-tries
invariant-tries g l = record {
  later : l.initial.faults ≤ l.faults;
  kept : Keeps (g.R.Read.remaining l.initial.reader) (g.R.Read.remaining l.reader);
}
