-- Laws of what specs/Given defines.
use Rattle.std.specs.Prelude.{◌≡◌, ◌<◌, ℕ, Some, None, refl}
use Rattle.std.proofs.Common.{arith}
use Rattle.cert_checker.specs.declared.given.Given.{Given}
use Rattle.cert_checker.specs.declared.given.Given.TheVariants.{Hypothesis, Variable, Piece}
use Rattle.cert_checker.specs.Given.{given_number, given_of}

-- Each has its number for itself.
pub given_back : (given : Given) → given_of (given_number given) ≡ Some given
given_back Hypothesis = refl
given_back Variable = refl
given_back Piece = refl

-- A step has room for the number.
pub given_short : (given : Given) → given_number given < 256
given_short Hypothesis = omega arith
given_short Variable = omega arith
given_short Piece = omega arith

-- A number below theirs stands for none of them.
pub given_low : (number : ℕ) → number < given_number Hypothesis → given_of number ≡ None
given_low number l = grind (arith, l)
