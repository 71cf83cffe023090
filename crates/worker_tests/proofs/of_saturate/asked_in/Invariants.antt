use Rattle.worker_tests.proofs.of_saturate.asked_in.Given as goal

abbrev pub ghosts-asked_by : goal.ghosts-asked_by
ghosts-asked_by a = record { name = a.blank.name; parts = a.blank.parts }
