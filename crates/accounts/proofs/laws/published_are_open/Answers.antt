use Rattle.accounts.proofs.Published.{published_are_open, boxes_tell}
use Rattle.accounts.proofs.laws.published_are_open.Goals as goal

pub returns-clause-once : goal.returns-clause-once
returns-clause-once g c =
    let core = c.args.core.now in
    published_are_open (g.C.Cuts.pieces_of core.plan) core.account c.keeps.ensures

pub returns-clause-told : goal.returns-clause-told
returns-clause-told g c =
    let core = c.args.core.now in
    boxes_tell (g.C.Cuts.pieces_of core.plan) core.account c.keeps.ensures
