use Rattle.name_list.proofs.Fronts.{fronts_decide, faultless_are_whole}
use Rattle.name_list.proofs.laws.fronts_decide.Goals as goal

pub returns-clause-fault : goal.returns-clause-fault
returns-clause-fault c = fronts_decide

pub returns-clause-whole : goal.returns-clause-whole
returns-clause-whole c = faultless_are_whole
