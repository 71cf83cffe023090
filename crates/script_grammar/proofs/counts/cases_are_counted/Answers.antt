use Rattle.script_grammar.proofs.FormulaCases.{cases_are_counted}
use Rattle.script_grammar.proofs.counts.cases_are_counted.Goals as goal

pub returns : goal.returns
returns c = cases_are_counted
