use Rattle.std.specs.Prelude.{◌≡◌}
use Rattle.std.proofs.lemmas.Result.{IfOk-weaker}
use Rattle.report.specs.Lines.{refusal_line}
use Rattle.script_texts.specs.Texts.{IsRefusedWith}
use Rattle.script_texts.proofs.refused.refused_line.Goals as goal

pub returns-in-Refused : goal.returns-in-Refused
returns-in-Refused c =
    IfOk-weaker c.refusal_line.result
    (λ line. line.items ≡ refusal_line c.in-Refused.refusal)
    (λ line. IsRefusedWith c.args.text.now line.items)
    (λ line e. (c.in-Refused.refusal, c.requires c.in-Refused.refusal c.in-Refused.is, e))
    c.refusal_line.ensures
