use Rattle.std.proofs.Common.{None}
use Rattle.edge_tests.proofs.of_box_deques.a_new_lane_has_no_task.Given as goal

abbrev pub ghosts-first_pop : goal.ghosts-first_pop
ghosts-first_pop g a = record { world = None; capacity = 3 }
