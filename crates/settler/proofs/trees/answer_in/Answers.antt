use Rattle.settler.proofs.trees.answer_in.Goals as goal

pub run-requires-clause-workers : goal.run-requires-clause-workers
run-requires-clause-workers g c κs within = c.requires.allowed.workers

pub run-requires-clause-boxes : goal.run-requires-clause-boxes
run-requires-clause-boxes g c κs within = c.requires.allowed.boxes
