use Rattle.fixprog.proofs.Unique.{firsts_are_unique, spells_once}
use Rattle.fixprog.proofs.turn.texts_are_one.Goals as goal

pub returns-clause-firsts : goal.returns-clause-firsts
returns-clause-firsts c = firsts_are_unique

pub returns-clause-programs : goal.returns-clause-programs
returns-clause-programs c = spells_once
