use Rattle.script_grammar.proofs.Short.{spelled_few}
use Rattle.script_grammar.proofs.laws.spelled_have_few_hints.Goals as goal

pub returns : goal.returns
returns c =
    spelled_few c.hints_are_counted.ensures c.lexed_once.ensures c.leaves_are_of_trees.ensures.are
