use Rattle.script_truths.proofs.Beginnings.{case_is_met}
use Rattle.script_truths.proofs.laws.some_case_is_met.Goals as goal

pub returns : goal.returns
returns c = case_is_met
