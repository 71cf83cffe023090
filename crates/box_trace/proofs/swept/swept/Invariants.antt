use Rattle.box_trace.proofs.swept.swept.Given as goal

abbrev pub ghosts-swept_blank : goal.ghosts-swept_blank
ghosts-swept_blank a = record { name = a.blank.name; parts = a.blank.parts }
