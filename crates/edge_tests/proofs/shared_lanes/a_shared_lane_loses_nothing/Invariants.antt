use Rattle.std.proofs.Common.{None}
use Rattle.edge_tests.proofs.shared_lanes.a_shared_lane_loses_nothing.Given as goal

abbrev pub ghosts-shared : goal.ghosts-shared
ghosts-shared g a = record { world = None; capacity = 100 }
