use Rattle.std.proofs.Common.{map}
use Rattle.exact_fractions.specs.Exact.{value_of}
use Rattle.point_values.proofs.Walk.{IsWalked}
use Rattle.point_values.proofs.nodes.node_values.Given as goal

abbrev pub invariant-loop-number : goal.invariant-loop-number
invariant-loop-number l = IsWalked l.dag (map value_of l.entries) l.values.items l.number
