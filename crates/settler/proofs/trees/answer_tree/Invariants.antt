use Rattle.settler.proofs.trees.answer_tree.Given as goal

abbrev pub ghosts-answer_in : goal.ghosts-answer_in
ghosts-answer_in g a =
    record { universe = a.universe.now; plan = a.plan.now; rounds = a.options.rounds }
