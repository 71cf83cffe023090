use Rattle.std.proofs.lemmas.List.{drop_more}
use Rattle.script_judge.proofs.judge.role_at.Goals as goal

pub returns : goal.returns
returns c = drop_more c.args.roles.now c.args.number _ c.requires
