use Rattle.settler.proofs.trees.answer_tree_alone.Given as goal

abbrev pub ghosts-answer_in_alone : goal.ghosts-answer_in_alone
ghosts-answer_in_alone a =
    record { universe = a.universe.now; plan = a.plan.now; rounds = a.options.rounds }
