use Rattle.script_judge.proofs.Unique.{first_once}
use Rattle.script_judge.proofs.first.firsts_are_unique.Goals as goal

pub returns : goal.returns
returns c = first_once c.lexed_once.ensures c.shape_is_unique.ensures c.roles_are_unique.ensures
    c.fronts_are_read.ensures
