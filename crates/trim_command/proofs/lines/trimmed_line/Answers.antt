use Rattle.std.specs.Prelude.{codes}
use Rattle.std.specs.Fmt.{decimal}
use Rattle.std.proofs.Common.{ℕ, List, ◌++◌, ◌∙◌, append_assoc, ap, sym}
use Rattle.trim_command.proofs.lines.trimmed_line.Goals as goal

pub returns : goal.returns
returns c =
    let kept = decimal c.args.kept in
    let between = codes " of " in
    let all = decimal c.args.all in
    let end = codes " steps\n" in
    let one = append_assoc (kept ++ between) all end ∙ append_assoc kept between (all ++ end) in
    rw c.into_bytes.ensures.value (c.in_ok-line.ensures.ok
    ∙ sym (ap (λ (l : List ℕ). codes "trimmed: " ++ l) one))
