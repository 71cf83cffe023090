use Rattle.script_grammar.proofs.Short.{spelled_goals}
use Rattle.script_grammar.proofs.laws.spelled_have_few_goals.Goals as goal

pub returns : goal.returns
returns c =
    spelled_goals c.goals_are_counted.ensures c.lexed_once.ensures c.leaves_are_of_trees.ensures.are
