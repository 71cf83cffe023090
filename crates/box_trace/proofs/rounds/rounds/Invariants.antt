use Rattle.box_trace.proofs.rounds.rounds.Given as goal

abbrev pub ghosts-rounds_blank : goal.ghosts-rounds_blank
ghosts-rounds_blank a = record { name = a.blank.name; parts = a.blank.parts }
