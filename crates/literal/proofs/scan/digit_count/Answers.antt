use Rattle.std.proofs.Common.{arith}
use Rattle.std.proofs.lemmas.Int.Digits.{digits_more}
use Rattle.literal.proofs.scan.digit_count.Goals as goal

pub loop-i-preserved : goal.loop-i-preserved
loop-i-preserved c =
    digits_more _ _ _ (omega arith) c.loop-i.invariant (omega (arith, c.digit.ensures.value))
