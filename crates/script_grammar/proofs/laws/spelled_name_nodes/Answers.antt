use Rattle.script_grammar.proofs.ScriptNames.{spelled_names_nodes}
use Rattle.script_grammar.proofs.laws.spelled_name_nodes.Goals as goal

pub returns : goal.returns
returns c = spelled_names_nodes
