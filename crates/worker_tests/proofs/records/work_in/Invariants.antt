use Rattle.std.proofs.Common.{Some}
use Rattle.worker_tests.proofs.records.work_in.Given as goal

abbrev pub ghosts-work_with : goal.ghosts-work_with
ghosts-work_with g a = record { world = Some a.board.now; capacity = a.capacity }
