use Rattle.script_truths.proofs.Named.{facts_named, goals_named, rows_named}
use Rattle.script_truths.proofs.laws.what_is_written_names_nodes.Goals as goal

pub returns : goal.returns
returns c = record { facts = facts_named; goals = goals_named; rows = rows_named }
