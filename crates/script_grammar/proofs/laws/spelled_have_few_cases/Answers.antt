use Rattle.script_grammar.proofs.Short.{spelled_cases}
use Rattle.script_grammar.proofs.laws.spelled_have_few_cases.Goals as goal

pub returns : goal.returns
returns c = spelled_cases c.parts_have_hypotheses.ensures c.splits_have_ranges.ensures
    c.fronts_are_read.ensures c.lexed_once.ensures c.leaves_are_of_trees.ensures.are
