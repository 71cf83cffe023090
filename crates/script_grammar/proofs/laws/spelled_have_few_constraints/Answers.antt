use Rattle.script_grammar.proofs.Constraints.{spelled_few_constraints}
use Rattle.script_grammar.proofs.laws.spelled_have_few_constraints.Goals as goal

pub returns : goal.returns
returns c = spelled_few_constraints c.tokens_are_few.ensures
