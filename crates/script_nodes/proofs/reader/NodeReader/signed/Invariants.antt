use Rattle.std.proofs.Common.{◌≡◌, ◌<◌, length}
use Rattle.script_nodes.specs.Waits.{factor_done}
use Rattle.script_nodes.proofs.reader.NodeReader.signed.Given as goal

abbrev pub invariant-loop-self : goal.invariant-loop-self
invariant-loop-self l = record {
  below : l.factor.0 < length l.self.known.nodes;
  same : factor_done l.fn.rounds l.fn.self.waits (l.fn.self.known, l.fn.factor)
      ≡ factor_done l.fn.rounds l.self.waits (l.self.known, l.factor);
}

abbrev pub decreases-loop-self : goal.decreases-loop-self
decreases-loop-self l = length l.self.waits
