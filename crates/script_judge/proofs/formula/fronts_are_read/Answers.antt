use Rattle.script_judge.proofs.FrontsRead.{fronts_are_read}
use Rattle.script_judge.proofs.formula.fronts_are_read.Goals as goal

pub returns : goal.returns
returns c = fronts_are_read c.reads_definitions.ensures.one c.formulas_are_read.ensures
