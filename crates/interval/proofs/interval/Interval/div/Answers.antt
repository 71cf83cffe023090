use Rattle.std.proofs.Common.{sym}
use Rattle.interval.proofs.Results.{quotient_only}
use Rattle.interval.specs.Results.{quotient_of-none}
use Rattle.interval.proofs.interval.Interval.div.Goals as goal

pub returns-then-has_zero-clause-is : goal.returns-then-has_zero-clause-is
returns-then-has_zero-clause-is c =
    sym (quotient_of-none c.args.self c.args.other (c.has_zero.ensures.lies.0 c.if-has_zero.true))

pub returns-clause-is : goal.returns-clause-is
returns-clause-is c =
    sym (quotient_only c.args.self c.args.other c.quotient_by.result c.quotient_by.ensures)
