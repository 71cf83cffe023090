use Rattle.std.proofs.Common.{◌≡◌, ◌-◌, take, ◌∙◌, length, ap, arith}
use Rattle.script_words.specs.Kept.{words_in}
use Rattle.script_shape.specs.Roles.{leaves_of}
use Rattle.script_judge.specs.Fault as spec
use Rattle.script_judge.proofs.Faulted.{earlier}
use Rattle.script_judge.proofs.fault.has_earlier_value.Goals as goal

pub returns : goal.returns
returns c =
    let words = words_in c.args.words in
    let less : c.saturating_sub.result ≡ length c.args.roles.now - 1 = omega arith in
    c.has_value.ensures
    ∙ ap (λ k. spec.has_value c.args.name.now (leaves_of (take k c.args.roles.now) words)) less
    ∙ earlier c.args.name.now c.args.roles.now words (omega arith)
