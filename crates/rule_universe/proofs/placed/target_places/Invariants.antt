use Rattle.std.specs.Prelude.{length, take}
use Rattle.rule_universe.specs.Placed.{AreTargets}
use Rattle.rule_universe.proofs.placed.target_places.Given as goal

abbrev pub invariant-loop-k : goal.invariant-loop-k
invariant-loop-k l = AreTargets (length l.nodes) l.pairs (take l.k l.instances) l.places.items
