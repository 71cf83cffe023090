use Rattle.script_nodes.proofs.LiteralTold.{literals_are_told, literals_are_tested, spelled_once}
use Rattle.script_nodes.proofs.laws.literals_are_told.Goals as goal

pub returns-clause-told : goal.returns-clause-told
returns-clause-told c = literals_are_told

pub returns-clause-once : goal.returns-clause-once
returns-clause-once c = spelled_once

pub returns-clause-tested : goal.returns-clause-tested
returns-clause-tested c = literals_are_tested
