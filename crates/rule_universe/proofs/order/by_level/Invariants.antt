use Rattle.rule_universe.specs.Ordered.{AreNumbersOf}
use Rattle.rule_universe.proofs.order.by_level.Given as goal

abbrev pub invariant-loop-k : goal.invariant-loop-k
invariant-loop-k l = AreNumbersOf l.instances l.sorted.items
