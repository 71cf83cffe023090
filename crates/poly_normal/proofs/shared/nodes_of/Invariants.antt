use Rattle.std.proofs.Common.{◌≡◌, take}
use Rattle.poly_normal.proofs.shared.nodes_of.Given as goal

abbrev pub invariant-loop-i : goal.invariant-loop-i
invariant-loop-i l = l.nodes.items ≡ take l.i l.dag
