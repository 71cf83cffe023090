use Rattle.std.proofs.Common.{ap₂, ◌∙◌}
use Rattle.std.proofs.lemmas.Result.{IfOk-weaker}
use Rattle.clap.specs.Words.{with_rule}
use Rattle.command_line.proofs.names.names_command.Goals as goal

pub returns : goal.returns
returns c =
    let first = c.in_ok-arg.ensures.shape c.name.ensures.local
    ∙ ap₂ with_rule c.bare.ensures c.name.ensures.rule in
    IfOk-weaker c.arg-2.result _ _
    (λ m h. h.shape c.name-2.ensures.local ∙ ap₂ with_rule first c.name-2.ensures.rule)
    c.arg-2.ensures
