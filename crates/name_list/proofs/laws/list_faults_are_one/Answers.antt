use Rattle.name_list.proofs.Once.{faults_are_one}
use Rattle.name_list.proofs.laws.list_faults_are_one.Goals as goal

pub returns : goal.returns
returns c = faults_are_one
