use Rattle.std.proofs.Common.{◌∙◌}
use Rattle.script_judge.proofs.sets.has.Goals as goal

pub returns : goal.returns
returns c = λ names has. c.contains.ensures ∙ has c.args.name
