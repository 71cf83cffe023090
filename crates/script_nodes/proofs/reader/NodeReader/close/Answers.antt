use Rattle.expr_dag.proofs.Faults.{passed}
use Rattle.script_nodes.proofs.Grows.{closed_past}
use Rattle.script_nodes.proofs.reader.NodeReader.close.Goals as goal

pub returns-in_err-x-clause-full : goal.returns-in_err-x-clause-full
returns-in_err-x-clause-full c = λ e. closed_past c.args.rounds c.args.self.now _
    (c.in_err-x.ensures.full (passed c.from_residual.result _ c.from_residual.ensures.1 e))
