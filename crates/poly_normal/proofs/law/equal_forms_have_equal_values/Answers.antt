use Rattle.poly_normal.proofs.Quotients.{same_values}
use Rattle.poly_normal.proofs.law.equal_forms_have_equal_values.Goals as goal

pub returns : goal.returns
returns c = same_values
