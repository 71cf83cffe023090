use Rattle.std.proofs.Common.{ap₂, refl, ◌∙◌}
use Rattle.std.proofs.lemmas.Result.{IfOk-weaker}
use Rattle.clap.specs.Words.{with_rule}
use Rattle.command_line.proofs.options.with_options.Goals as goal

pub returns : goal.returns
returns c =
    let rounds = c.in_ok-arg.ensures.shape c.option.ensures.local
    ∙ ap₂ with_rule refl c.option.ensures.rule in
    let depth = c.in_ok-arg-2.ensures.shape c.option-2.ensures.local
    ∙ ap₂ with_rule rounds c.option-2.ensures.rule in
    let boxes = c.in_ok-arg-3.ensures.shape c.option-3.ensures.local
    ∙ ap₂ with_rule depth c.option-3.ensures.rule in
    IfOk-weaker c.arg-4.result _ _
    (λ m h. h.shape c.option-4.ensures.local ∙ ap₂ with_rule boxes c.option-4.ensures.rule)
    c.arg-4.ensures
