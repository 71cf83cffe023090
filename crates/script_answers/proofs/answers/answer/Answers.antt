use Rattle.std.proofs.Common.{ℕ, List, Err, IfOk, ap, subst}
use Rattle.script_grammar.specs.Spells.{View}
use Rattle.settler.specs.Answers.{options_from}
use Rattle.script_answers.specs.Answers.{ProvePrints}
use Rattle.script_answers.proofs.answers.answer.Goals as goal

pub refused_line-requires : goal.refused_line-requires
refused_line-requires c = λ r e. c.in-Err.ensures.refused r (ap Err e)

pub returns-in-Ok : goal.returns-in-Ok
returns-in-Ok c =
    subst
    (λ (text : List ℕ). IfOk c.script_answer.result
    (λ r. ProvePrints (options_from c.args.options) text r.0 r.1.items))
    (ap (λ (v : View). v.text) c.in-Ok.ensures.spelled.says) c.script_answer.ensures
