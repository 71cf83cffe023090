use Rattle.std.proofs.Common.{sym}
use Rattle.script_nodes.proofs.LiteralReads.{reads_literals, fault_is_zero}
use Rattle.script_nodes.proofs.digits.literal_of.Goals as goal

pub returns-in-Ok-clause-literal : goal.returns-in-Ok-clause-literal
returns-in-Ok-clause-literal c =
    sym (reads_literals c.args.text.now c.in-Ok.literal c.in-Ok.ensures.reading)

pub returns-in-Err-clause-literal : goal.returns-in-Err-clause-literal
returns-in-Err-clause-literal c =
    sym (fault_is_zero c.args.text.now c.in-Err.field-0 c.in-Err.ensures.bad c.in-Err.ensures.past)
