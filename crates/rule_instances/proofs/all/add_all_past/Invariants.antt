use Rattle.std.specs.Prelude.{◌≡◌, ◌++◌, take}
use Rattle.rule_instances.specs.InOrder.{each_at, past_of}
use Rattle.rule_instances.proofs.all.add_all_past.Given as goal

abbrev pub invariant-loop-c : goal.invariant-loop-c
invariant-loop-c l =
    l.rows ≡ l.fn.rows ++ each_at (past_of l.pairs l.fn.x l.fn.y) 0 (take l.c-index l.row)
