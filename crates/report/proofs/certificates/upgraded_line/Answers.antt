use Rattle.std.specs.Prelude.{codes}
use Rattle.std.specs.Fmt.{decimal}
use Rattle.std.proofs.Common.{ℕ, List, ◌++◌, ◌∙◌, append_assoc, ap, sym}
use Rattle.report.proofs.certificates.upgraded_line.Goals as goal

pub returns : goal.returns
returns c =
    let sections = decimal c.args.counts.sections in
    let between = codes " sections, " in
    let steps = decimal c.args.counts.steps in
    let end = codes " steps\n" in
    let one = append_assoc (sections ++ between) steps end
    ∙ append_assoc sections between (steps ++ end) in
    rw c.into_bytes.ensures.value (c.in_ok-line.ensures.ok
    ∙ sym (ap (λ (l : List ℕ). codes "upgraded: " ++ l) one))
