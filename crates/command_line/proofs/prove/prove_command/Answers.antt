use Rattle.std.proofs.Common.{ap, ap₂, ◌∙◌}
use Rattle.std.proofs.lemmas.Result.{IfOk-weaker}
use Rattle.clap.specs.Words.{with_rule}
use Rattle.command_line.specs.Options.{with_options}
use Rattle.command_line.proofs.prove.prove_command.Goals as goal

pub returns : goal.returns
returns c =
    let script = c.in_ok-arg.ensures.shape c.name.ensures.local
    ∙ ap₂ with_rule c.bare.ensures c.name.ensures.rule in
    let cert = c.in_ok-command.ensures.shape c.option.ensures.local
    ∙ ap₂ with_rule script c.option.ensures.rule in
    IfOk-weaker c.with_options.result _ _ (λ m h. h ∙ ap with_options cert) c.with_options.ensures
