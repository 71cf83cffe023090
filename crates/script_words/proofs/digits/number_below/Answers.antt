use Rattle.std.proofs.Common.{arith}
use Rattle.script_words.proofs.DigitSteps.{past_limit}
use Rattle.script_words.proofs.digits.number_below.Goals as goal

pub returns-then-number-limit : goal.returns-then-number-limit
returns-then-number-limit c =
    past_limit c.args.limit c.loop-b.number c.loop-b.b-index c.digit.result c.args.digits.now
    c.loop-b.invariant.same (omega arith) c.digit.ensures.value (omega arith)
