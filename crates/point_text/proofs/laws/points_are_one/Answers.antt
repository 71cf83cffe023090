use Rattle.point_text.proofs.Spelled.{spelled_once, spelled_faultless}
use Rattle.point_text.proofs.OneFault.{faults_once}
use Rattle.point_text.proofs.laws.points_are_one.Goals as goal

pub returns-clause-once : goal.returns-clause-once
returns-clause-once c = spelled_once c.reads_literals.ensures c.lexed_once.ensures

pub returns-clause-apart : goal.returns-clause-apart
returns-clause-apart c = spelled_faultless c.reads_literals.ensures c.lexed_once.ensures

pub returns-clause-faults : goal.returns-clause-faults
returns-clause-faults c = faults_once c.lexed_once.ensures
