use Rattle.std.proofs.Common.{ap, Err}
use Rattle.point_text.proofs.Faults.{stop_is}
use Rattle.point_text.proofs.Refused.{refused_told}
use Rattle.point_text.proofs.reading.rows_read.Goals as goal

pub returns-in-Err-clause-fault : goal.returns-in-Err-clause-fault
returns-in-Err-clause-fault c = λ f e.
    refused_told c.reads_literals.ensures c.args.script.now.variables c.args.text.now
    c.args.tokens.now c.args.bad c.end_of-end.result f c.requires.short c.requires.lexed
    c.end_of-end.ensures (c.in-Err.ensures.refused f (ap (λ s. Err s) (stop_is c.in-Err.stop f e)))
