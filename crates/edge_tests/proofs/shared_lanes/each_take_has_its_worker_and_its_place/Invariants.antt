use Rattle.std.proofs.Common.{None}
use Rattle.edge_tests.proofs.shared_lanes.each_take_has_its_worker_and_its_place.Given as goal

abbrev pub ghosts-shared : goal.ghosts-shared
ghosts-shared g a = record { world = None; capacity = 100 }
