use Rattle.std.specs.Prelude.{◌≡◌, ◌++◌, take}
use Rattle.rule_instances.specs.InOrder.{each_at, one_right}
use Rattle.rule_instances.proofs.all.add_all_right.Given as goal

abbrev pub invariant-loop-b : goal.invariant-loop-b
invariant-loop-b l =
    l.rows ≡ l.fn.rows ++ each_at (one_right l.nodes l.fn.x l.fn.a l.fn.c) 0 (take l.b-index l.row)
