use borrow.Author.Differences.{up}
use Rattle.std.proofs.Common.{pos, ◌+ℤ◌}
use Rattle.dyadic.specs.Cut.{Dividing}
use Rattle.dyadic.proofs.cut.LeadingDigits.divided.Given as goal

abbrev pub invariant-loop-part : goal.invariant-loop-part
invariant-loop-part l =
    Dividing l.fn.self.digits l.divisor l.fn.self.two l.part.quotient l.part.rest l.part.at

abbrev pub decreases-loop-part : goal.decreases-loop-part
decreases-loop-part l = up (l.part.at +ℤ pos 3000)
