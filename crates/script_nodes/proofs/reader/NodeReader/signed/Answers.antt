use Rattle.std.proofs.Common.{sym, ap, ◌∙◌}
use Rattle.expr_dag.proofs.Faults.{passed}
use Rattle.script_nodes.specs.Waits.{Reading}
use Rattle.script_nodes.proofs.Grows.{minus_past}
use Rattle.script_nodes.proofs.reader.NodeReader.signed.Goals as goal

pub returns-in_err-factor-clause-full : goal.returns-in_err-factor-clause-full
returns-in_err-factor-clause-full c = λ e.
    minus_past c.args.rounds c.loop-self.self.waits c.loop-self.self.known c.drop_top.new.self.known
    c.loop-self.factor _ c.loop-self.invariant.same (sym c.is_minus_first.ensures
    ∙ c.loop-self-test.true) (ap (λ (r : Reading). r.known) c.drop_top.ensures)
    (c.in_err-factor.ensures.full (passed c.from_residual.result _ c.from_residual.ensures.1 e))
