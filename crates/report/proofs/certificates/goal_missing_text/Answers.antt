use Rattle.std.specs.Prelude.{codes}
use Rattle.std.specs.Fmt.{decimal}
use Rattle.std.proofs.Common.{List, ℕ, ◌++◌, ◌∙◌, append_assoc, ap, sym}
use Rattle.report.proofs.certificates.goal_missing_text.Goals as goal

pub returns : goal.returns
returns c = c.in_ok-text.ensures.ok ∙ sym (ap (λ (t : List ℕ). codes "GoalMissing " ++ t)
    (append_assoc (decimal c.args.section) (codes " ") (decimal c.args.goal)))
