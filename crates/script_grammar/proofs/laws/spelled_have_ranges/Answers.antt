use Rattle.script_grammar.proofs.Short.{spelled_ranged}
use Rattle.script_grammar.proofs.laws.spelled_have_ranges.Goals as goal

pub returns : goal.returns
returns c = spelled_ranged c.splits_have_ranges.ensures c.fronts_are_read.ensures
    c.lexed_once.ensures c.leaves_are_of_trees.ensures.are
