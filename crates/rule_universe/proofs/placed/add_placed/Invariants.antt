use Rattle.std.specs.Prelude.{length, take}
use Rattle.rule_universe.specs.Placed.{AddsPlaced}
use Rattle.rule_universe.proofs.placed.add_placed.Given as goal

abbrev pub invariant-loop-s : goal.invariant-loop-s
invariant-loop-s l =
    AddsPlaced (length l.nodes) l.pairs (take l.s-index l.slots) l.initial.items.items l.items.items
