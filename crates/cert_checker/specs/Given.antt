-- The numbers of what steps are given.
use Rattle.std.specs.Prelude.{◌==◌, ℕ, Option, Some, None, if◌then◌else◌}
use Rattle.cert_checker.specs.declared.given.Given.{Given}
use Rattle.cert_checker.specs.declared.given.Given.TheVariants.{Hypothesis, Variable, Piece}

-- the number that stands for it in a step
abbrev pub given_number : Given → ℕ
given_number Hypothesis = 100
given_number Variable = 101
given_number Piece = 102

-- what a step with this number is given, if the number is one of these
abbrev pub given_of : ℕ → Option Given
given_of number =
    if number == given_number Hypothesis then Some Hypothesis
    else (if number == given_number Variable then Some Variable
    else (if number == given_number Piece then Some Piece else None))
