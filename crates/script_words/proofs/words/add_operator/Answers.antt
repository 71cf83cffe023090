use Rattle.script_words.proofs.Marked.{added}
use Rattle.script_words.proofs.words.add_operator.Goals as goal

pub returns-in_ok-insert : goal.returns-in_ok-insert
returns-in_ok-insert c =
    added _ _ c.in-Some.name c.args.name c.in-Some.is c.in_ok-insert.ensures.updates
