use Rattle.std.proofs.Common.{sym, ap, ◌∙◌}
use Rattle.fixprog.specs.Standing.{digits_in}
use Rattle.fixprog.specs.Views.{word_of}
use Rattle.fixprog.proofs.StepCourse.{digits_are}
use Rattle.fixprog.proofs.part.digits_in.Goals as goal

pub returns-then-is_digits : goal.returns-then-is_digits
returns-then-is_digits c = sym (ap (λ w. digits_in (word_of w)) c.in-Literal.is ∙ digits_are _)
