use Rattle.std.specs.Prelude.{◌≤◌}
use Rattle.pair_closure.specs.Grown.{IsGrown}
use Rattle.pair_closure.specs.Differences.{IsBehind}
use Rattle.pair_closure.proofs.order.add_behind.Given as goal

abbrev pub invariant-loop-i : goal.invariant-loop-i
invariant-loop-i l = (l.fn.from ≤ l.i) × IsGrown l.fn.pairs l.pairs (IsBehind l.all l.fn.from l.i)
