use Rattle.std.proofs.Common.{arith}
use Rattle.literal.proofs.Numbers.{past_limit}
use Rattle.literal.proofs.number.continued.Goals as goal

pub returns-then-num-limit : goal.returns-then-num-limit
returns-then-num-limit c = past_limit c.args.radix c.loop-b.num c.loop-b.b-index
    c.args.first c.args.limit c.digit.result c.args.digits.now c.loop-b.invariant.same
    (omega arith) c.digit.ensures.value (omega arith) (omega arith)
