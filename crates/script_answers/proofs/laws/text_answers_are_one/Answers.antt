use Rattle.script_answers.proofs.Once.{texts_once}
use Rattle.script_answers.proofs.laws.text_answers_are_one.Goals as goal

pub returns : goal.returns
returns c =
    texts_once c.script_or_refusal.ensures.once c.script_or_refusal.ensures.never_both
    c.firsts_are_unique.ensures c.answers_are_one.ensures.answers
