use Rattle.rule_universe.specs.Ordered.{AreNumbersOf}
use Rattle.rule_universe.proofs.order.all_numbers.Given as goal

abbrev pub invariant-loop-k : goal.invariant-loop-k
invariant-loop-k l = AreNumbersOf l.instances l.numbers.items
