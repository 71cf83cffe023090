use Rattle.std.proofs.Common.{◌≡◌, ◌∙◌, sym, true, rules}
use Rattle.command_line.proofs.Apart.{names_differ}
use Rattle.command_line.proofs.names.names_in.Goals as goal

pub returns-clause-apart : goal.returns-clause-apart
returns-clause-apart c =
    let may : c.are_names.result ≡ true = search rules in
    names_differ _ _ (sym c.are_names.ensures ∙ may)
