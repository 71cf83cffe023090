use Rattle.std.proofs.Common.{sym, ap, ◌∙◌}
use Rattle.expr_dag.specs.Shapes.{is_node}
use Rattle.expr_dag.proofs.Shapes.{is_at_out}
use Rattle.expr_dag.proofs.Same.{itself}
use Rattle.cert_checker.proofs.Judged.{is_true, true_is}
use Rattle.cert_checker.proofs.nodes.is_own.Goals as goal

pub returns : goal.returns
returns c = (
  λ t. is_at_out c.args.own.now (record { 0 = c.args.number }) c.args.node (sym c.is_at.ensures
      ∙ is_true c.is_at.result t),
  λ e. true_is c.is_at.result (c.is_at.ensures
      ∙ ap (λ o. is_node o c.args.node) e ∙ itself c.args.node),
)
