use Rattle.std.proofs.Common.{ap, ap₂, ◌∙◌}
use Rattle.std.proofs.lemmas.Result.{IfOk-weaker}
use Rattle.clap.specs.Words.{with_rule}
use Rattle.command_line.specs.Options.{with_options}
use Rattle.command_line.proofs.batch.batch_command.Goals as goal

pub returns : goal.returns
returns c =
    let list = c.in_ok-command.ensures.shape c.name.ensures.local
    ∙ ap₂ with_rule c.bare.ensures c.name.ensures.rule in
    IfOk-weaker c.with_options.result _ _ (λ m h. h ∙ ap with_options list) c.with_options.ensures
