use Rattle.std.proofs.Common.{◌≡◌, Err, ap, rules, ◌∙◌}
use Rattle.script_grammar.specs.Spells.{View}
use Rattle.made_script.specs.Script.{script_text}
use Rattle.script_answers.proofs.made.made_text_answer.Goals as goal

pub made_script_answer-requires : goal.made_script_answer-requires
made_script_answer-requires g c =
    let text : c.in-Ok.script.text ≡ script_text c.args.n =
    ap (λ (v : View). v.text) c.in-Ok.ensures.spelled.says ∙ c.requires in
    search (rules, text)

pub made_unread-requires-clause-refused : goal.made_unread-requires-clause-refused
made_unread-requires-clause-refused g c = λ r e. c.in-Err.ensures.refused r (ap Err e)
