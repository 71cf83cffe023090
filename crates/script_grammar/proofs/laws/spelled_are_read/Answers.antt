use Rattle.script_grammar.proofs.WordsAreRead.{spelled_are_read}
use Rattle.script_grammar.proofs.laws.spelled_are_read.Goals as goal

pub returns : goal.returns
returns c = spelled_are_read c.literals_are_told.ensures.told c.lexed_once.ensures
    c.leaves_are_of_trees.ensures.are c.leaves_are_of_trees.ensures.spell
