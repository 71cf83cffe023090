use Rattle.std.proofs.Common.{take}
use Rattle.std.specs.Str.Parse.{AllDigits}
use Rattle.literal.proofs.scan.digit_count.Given as goal

abbrev pub invariant-loop-i : goal.invariant-loop-i
invariant-loop-i l = AllDigits l.radix (take l.i l.text)
