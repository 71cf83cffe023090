use Rattle.std.proofs.Common.{◌≡◌}
use Rattle.edge_tests.proofs.shared_lanes.push_all.Given as goal

abbrev pub invariant-loop-i : goal.invariant-loop-i
invariant-loop-i g l = (l.lane.number ≡ l.initial.lane.number)
    × (l.lane.hands ≡ l.initial.lane.hands) × (l.lane.name ≡ l.initial.lane.name)
