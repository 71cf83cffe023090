use Rattle.script_words.proofs.Grown.{one_more}
use Rattle.script_judge.proofs.sets.add.Goals as goal

pub returns : goal.returns
returns c = one_more _ _ c.args.name c.in_ok-insert.ensures.updates
