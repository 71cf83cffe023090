use Rattle.std.specs.Prelude.{◌≡◌, ◌++◌, take}
use Rattle.rule_instances.specs.InOrder.{each_at, of_pair}
use Rattle.rule_instances.proofs.all.add_pairs.Given as goal

abbrev pub invariant-loop-i : goal.invariant-loop-i
invariant-loop-i l = l.rows ≡ l.fn.rows ++ each_at (of_pair l.nodes l.pairs) 0 (take l.i l.list)
