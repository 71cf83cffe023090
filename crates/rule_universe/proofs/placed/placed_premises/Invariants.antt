use Rattle.std.specs.Prelude.{length, take}
use Rattle.rule_universe.specs.Flat.{rows_in}
use Rattle.rule_universe.specs.Placed.{ArePremises}
use Rattle.rule_universe.proofs.Cuts.{IsFull}
use Rattle.rule_universe.proofs.placed.placed_premises.Given as goal

abbrev pub invariant-loop-k : goal.invariant-loop-k
invariant-loop-k l = record {
  full : IsFull (length l.items.items) l.starts.items;
  rows : ArePremises (length l.nodes) l.pairs (take l.k l.instances)
      (rows_in l.items.items l.starts.items);
}
