use Rattle.std.proofs.Common.{sym}
use Rattle.interval.proofs.Meets.{interval_from_self}
use Rattle.interval.specs.Meets.{interval_from-none}
use Rattle.interval.proofs.interval.Interval.new.Goals as goal

pub returns-then-in_order-clause-is : goal.returns-then-in_order-clause-is
returns-then-in_order-clause-is c = interval_from_self _

pub returns-else-in_order-clause-is : goal.returns-else-in_order-clause-is
returns-else-in_order-clause-is c = sym (interval_from-none c.args.lo c.args.hi
    (λ a. let e = c.in_order.ensures.1 a in let f = c.if-in_order.false in cc))
