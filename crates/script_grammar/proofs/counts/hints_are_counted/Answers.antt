use Rattle.script_grammar.proofs.FewSaid.{hints_are_few}
use Rattle.script_grammar.proofs.counts.hints_are_counted.Goals as goal

pub returns : goal.returns
returns c = hints_are_few
