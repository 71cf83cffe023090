use Rattle.std.specs.Prelude.{◌≡◌, ◌++◌, map, take}
use Rattle.pair_closure.specs.Closure.{difference_of}
use Rattle.pair_closure.proofs.order.add_in_order.Given as goal

abbrev pub invariant-loop-i : goal.invariant-loop-i
invariant-loop-i l = l.all ≡ l.fn.all ++ map difference_of (take l.i l.pairs)
