use Rattle.script_answers.proofs.Once.{made_once}
use Rattle.script_answers.proofs.laws.made_answers_are_one.Goals as goal

pub returns : goal.returns
returns c =
    made_once c.script_or_refusal.ensures.once c.script_or_refusal.ensures.never_both
    c.firsts_are_unique.ensures c.answers_are_one.ensures.answers
    c.answers_are_one.ensures.outcomes
