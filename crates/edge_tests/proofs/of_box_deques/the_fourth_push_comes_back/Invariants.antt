use Rattle.std.proofs.Common.{None}
use Rattle.edge_tests.proofs.of_box_deques.the_fourth_push_comes_back.Given as goal

abbrev pub ghosts-pushes_and_pops : goal.ghosts-pushes_and_pops
ghosts-pushes_and_pops g a = record { world = None; capacity = 3 }
