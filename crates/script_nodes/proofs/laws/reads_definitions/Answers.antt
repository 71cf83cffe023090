use Rattle.script_nodes.proofs.DefinitionReads.{definition_reads, reads_definitions}
use Rattle.script_nodes.proofs.laws.reads_definitions.Goals as goal

pub returns-clause-one : goal.returns-clause-one
returns-clause-one c = definition_reads

pub returns-clause-all : goal.returns-clause-all
returns-clause-all c = reads_definitions
