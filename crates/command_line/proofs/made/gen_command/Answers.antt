use Rattle.std.proofs.Common.{ap₂, ◌∙◌}
use Rattle.std.proofs.lemmas.Result.{IfOk-weaker}
use Rattle.clap.specs.Words.{with_rule}
use Rattle.command_line.proofs.made.gen_command.Goals as goal

pub returns : goal.returns
returns c = IfOk-weaker c.arg.result _ _ (λ m h. h.shape c.name.ensures.local
    ∙ ap₂ with_rule c.bare.ensures c.name.ensures.rule) c.arg.ensures
