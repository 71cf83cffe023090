use Rattle.fixprog.proofs.LiteralTests.{not_read}
use Rattle.fixprog.proofs.judge.literal_of.Goals as goal

pub returns-in-Err-clause-literal : goal.returns-in-Err-clause-literal
returns-in-Err-clause-literal c = not_read c.args.text.now c.in-Err.field-0
    c.literals_are_told.ensures.tested c.in-Err.ensures.bad c.in-Err.ensures.past
    c.in-Err.ensures.one
