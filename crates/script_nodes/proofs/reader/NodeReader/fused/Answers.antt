use Rattle.expr_dag.proofs.Faults.{passed}
use Rattle.script_nodes.proofs.Grows.{product_past}
use Rattle.script_nodes.proofs.reader.NodeReader.fused.Goals as goal

pub returns-in_err-product-clause-full : goal.returns-in_err-product-clause-full
returns-in_err-product-clause-full c =
    λ e. product_past c.args.rounds c.args.left c.args.right (c.args.self.now.known, c.args.last)
    (c.in_err-product.ensures.full (passed c.from_residual.result _ c.from_residual.ensures.1 e))
