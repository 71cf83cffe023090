use Rattle.expr_dag.proofs.Values.{value_stays}
use Rattle.expr_dag.proofs.laws.values_stay.Goals as goal

pub returns : goal.returns
returns c = value_stays
