use Rattle.script_judge.proofs.Unique.{fault_once}
use Rattle.script_judge.proofs.first.faults_are_unique.Goals as goal

pub returns : goal.returns
returns c = fault_once c.lexed_once.ensures c.shape_is_unique.ensures c.roles_are_unique.ensures
