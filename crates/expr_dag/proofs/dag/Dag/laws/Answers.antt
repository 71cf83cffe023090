use Rattle.std.proofs.Common.{subst}
use Rattle.expr_dag.specs.Nodes.{IsShared}
use Rattle.expr_dag.proofs.Places.{ordered, place_is}
use Rattle.expr_dag.proofs.dag.Dag.laws.Goals as goal

pub returns-clause-lawful : goal.returns-clause-lawful
returns-clause-lawful c = (subst IsShared c.self.view_is c.self.invariant).lawful

pub returns-clause-ordered : goal.returns-clause-ordered
returns-clause-ordered c = ordered c.args.self.now (subst IsShared c.self.view_is c.self.invariant)

pub returns-clause-number : goal.returns-clause-number
returns-clause-number c = place_is c.args.self.now (subst IsShared c.self.view_is c.self.invariant)
