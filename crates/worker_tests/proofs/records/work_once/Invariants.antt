use Rattle.box_tree.specs.Plans.{cut_at}
use Rattle.worker_tests.proofs.records.work_once.Given as goal

abbrev pub ghosts-work_in : goal.ghosts-work_in
ghosts-work_in g a = record { cut_at = cut_at a.plan.now }
