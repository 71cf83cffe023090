use Rattle.box_deques.specs.Moments.{SamePasses}
use Rattle.edge_tests.proofs.shared_lanes.steal_often.Given as goal

abbrev pub invariant-loop : goal.invariant-loop
invariant-loop g l = SamePasses l.initial.hand l.hand
