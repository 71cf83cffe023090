use Rattle.std.proofs.Common.{◌≡◌, ◌∙◌, sym, true, rules}
use Rattle.std.proofs.lemmas.Bool.{and_parts}
use Rattle.command_line.proofs.Apart.{names_differ}
use Rattle.command_line.proofs.trim.request_in.Goals as goal

pub returns-clause-apart : goal.returns-clause-apart
returns-clause-apart c =
    let may : c.are_three_names.result ≡ true = search rules in
    let behind = (and_parts _ _ (sym c.are_three_names.ensures ∙ may)).1 in
    (names_differ _ _ (and_parts _ _ behind).0, names_differ _ _ (and_parts _ _ behind).1)
