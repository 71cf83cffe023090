use Rattle.std.proofs.Common.{subst}
use Rattle.script_grammar.specs.Judgement.{IsJudgement}
use Rattle.script_grammar.proofs.Accepted.{only_spelled}
use Rattle.script_grammar.proofs.reading.parse.Goals as goal

pub returns-in-Ok-Refused-clause-answered : goal.returns-in-Ok-Refused-clause-answered
returns-in-Ok-Refused-clause-answered c = λ s p. (
  tt,
  λ r e. c.script_or_refusal.ensures.never_both c.args.text.now s c.in-Ok-Refused.refusal p
      (subst (IsJudgement c.args.text.now) c.in-Ok-Refused.field-0-is c.in-Ok-Refused.ensures),
)

pub returns-in-Ok-Accepted-clause-answered : goal.returns-in-Ok-Accepted-clause-answered
returns-in-Ok-Accepted-clause-answered c = only_spelled c.script_or_refusal.ensures.once
    c.args.text.now c.accepted.result c.accepted.ensures.spelled c.accepted.ensures.memory
