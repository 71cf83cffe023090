use Rattle.script_grammar.proofs.WordsRead.{scripts_are_read}
use Rattle.script_grammar.proofs.laws.scripts_are_read.Goals as goal

pub returns : goal.returns
returns c = scripts_are_read c.fronts_are_read.ensures c.reads_hints.ensures
