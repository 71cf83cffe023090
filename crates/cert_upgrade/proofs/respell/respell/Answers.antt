use Rattle.std.proofs.Common.{rules}
use Rattle.cert_upgrade.proofs.Turn.{respelled}
use Rattle.cert_upgrade.proofs.respell.respell.Goals as goal

pub returns-clause-ok : goal.returns-clause-ok
returns-clause-ok g c =
    let n = c.in_ok-item.ensures in
    respelled (g.F.Folder.told c.args.folder.now c.args.reader.now.ahead.name) _ _ _ _ _ _ _ _
    (λ all t. n.gives all t c.requires.can_respell.sound) c.requires.can_respell.due n.due
    n.answers.2 n.answers.1 n.spelled
    c.item_fits.ensures n.stands.reads n.stands.grows c.requires.can_respell.few (search rules)
    c.after.ensures
    c.is_end.ensures
