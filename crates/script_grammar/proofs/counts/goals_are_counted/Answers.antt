use Rattle.script_grammar.proofs.FewGoals.{goals_are_few}
use Rattle.script_grammar.proofs.counts.goals_are_counted.Goals as goal

pub returns : goal.returns
returns c = goals_are_few
