use Rattle.script_claims.proofs.Formulas.{formulas_read}
use Rattle.script_claims.proofs.laws.formulas_are_read.Goals as goal

pub returns : goal.returns
returns c = formulas_read c.reads_trees.ensures
