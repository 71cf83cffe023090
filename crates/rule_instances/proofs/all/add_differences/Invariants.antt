use Rattle.std.specs.Prelude.{◌≡◌, ◌++◌, take}
use Rattle.rule_instances.specs.InOrder.{each_at, of_difference}
use Rattle.rule_instances.proofs.all.add_differences.Given as goal

abbrev pub invariant-loop-i : goal.invariant-loop-i
invariant-loop-i l =
    l.rows ≡ l.fn.rows ++ each_at (of_difference l.nodes l.pairs) 0 (take l.i l.nodes)
