use Rattle.expr_dag.proofs.Faults.{passed}
use Rattle.script_nodes.specs.Known.{put}
use Rattle.script_nodes.proofs.Faults.{past}
use Rattle.script_nodes.proofs.Grows.{rounded_grows}
use Rattle.script_nodes.proofs.reader.NodeReader.operation.Goals as goal

pub returns-in_err-x-clause-full : goal.returns-in_err-x-clause-full
returns-in_err-x-clause-full c = λ e.
    past _ _ (c.in_err-x.ensures.full (passed c.from_residual.result _ c.from_residual.ensures.1 e))
    (rounded_grows c.args.rounds (put c.args.self.now.known c.args.node))
