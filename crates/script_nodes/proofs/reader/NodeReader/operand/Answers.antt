use Rattle.expr_dag.proofs.Faults.{passed}
use Rattle.script_nodes.proofs.OperandGrows.{literal_past, name_past}
use Rattle.script_nodes.proofs.reader.NodeReader.operand.Goals as goal

pub returns-in_err-x-in-Literal-clause-full : goal.returns-in_err-x-in-Literal-clause-full
returns-in_err-x-in-Literal-clause-full c = λ e.
    literal_past c.args.rounds c.args.self.now c.args.word _ c.in-Literal.text c.literal_of.result
    c.in-Literal.is c.literal_of.ensures.literal
    (c.in_err-x-in-Literal.ensures.full
    (passed c.from_residual.result _ c.from_residual.ensures.1 e))

pub returns-in_err-x-in-Name-clause-full : goal.returns-in_err-x-in-Name-clause-full
returns-in_err-x-in-Name-clause-full c = λ e.
    name_past c.args.rounds c.args.self.now c.args.word _ c.in-Name.text c.in-Name.is
    (c.in_err-x-in-Name.ensures.full
    (passed c.from_residual-in_err-x-in-Name.result _ c.from_residual-in_err-x-in-Name.ensures.1 e))
