use Rattle.std.proofs.lemmas.Bool.{and_parts}
use Rattle.command_line.proofs.simple.matches_by.Goals as goal

pub returns-in-Ok-clause-rows : goal.returns-in-Ok-clause-rows
returns-in-Ok-clause-rows c = (c.in-Ok.ensures.matches (and_parts _ _ c.requires).0).0
