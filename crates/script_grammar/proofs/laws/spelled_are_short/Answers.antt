use Rattle.script_grammar.proofs.Short.{spelled_short}
use Rattle.script_grammar.proofs.laws.spelled_are_short.Goals as goal

pub returns : goal.returns
returns c = spelled_short c.nodes_are_counted.ensures c.fronts_are_read.ensures
    c.lexed_once.ensures c.leaves_are_of_trees.ensures.are
