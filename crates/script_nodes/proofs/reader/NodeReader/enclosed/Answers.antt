use Rattle.expr_dag.proofs.Faults.{passed}
use Rattle.script_nodes.proofs.Grows.{bar_past, call_past, fma_past}
use Rattle.script_nodes.proofs.reader.NodeReader.enclosed.Goals as goal

pub returns-in_err-factor-in-Some-Bar-clause-full :
    goal.returns-in_err-factor-in-Some-Bar-clause-full
returns-in_err-factor-in-Some-Bar-clause-full c = λ e.
    bar_past c.args.rounds (c.args.self.now.known, c.args.x) _ _ _ c.in-Some-Bar.ensures.top
    c.in-Some-Bar.field-0-is
    (c.in_err-factor-in-Some-Bar.ensures.full
    (passed c.from_residual.result _ c.from_residual.ensures.1 e))

pub returns-in_err-factor-in-Some-Call-clause-full :
    goal.returns-in_err-factor-in-Some-Call-clause-full
returns-in_err-factor-in-Some-Call-clause-full c = λ e.
    call_past c.args.rounds (c.args.self.now.known, c.args.x) _ _ _ c.in-Some-Call.ensures.top
    c.in-Some-Call.rounding c.in-Some-Call.field-0-is
    (c.in_err-factor-in-Some-Call.ensures.full
    (passed c.from_residual-in_err-factor-in-Some-Call.result _
    c.from_residual-in_err-factor-in-Some-Call.ensures.1 e))

pub returns-in_err-factor-in-Some-FmaWithTwo-clause-full :
    goal.returns-in_err-factor-in-Some-FmaWithTwo-clause-full
returns-in_err-factor-in-Some-FmaWithTwo-clause-full c = λ e.
    fma_past c.args.rounds (c.args.self.now.known, c.args.x) _ _ _ c.in-Some-FmaWithTwo.ensures.top
    c.in-Some-FmaWithTwo.left c.in-Some-FmaWithTwo.right c.in-Some-FmaWithTwo.field-0-is
    (c.in_err-factor-in-Some-FmaWithTwo.ensures.full
    (passed c.from_residual-in_err-factor-in-Some-FmaWithTwo.result _
    c.from_residual-in_err-factor-in-Some-FmaWithTwo.ensures.1 e))
