use Rattle.std.proofs.Common.{rules, subst}
use Rattle.whole_texts.specs.Texts.{IsText}
use Rattle.at_command.proofs.Cut.{read_prints}
use Rattle.at_command.proofs.point.script_at.Goals as goal

pub returns-in-Ok-read_and_evaluated-clause-prints :
    goal.returns-in-Ok-read_and_evaluated-clause-prints
returns-in-Ok-read_and_evaluated-clause-prints g c =
    let known = g.F.Folder.told c.args.folder.now c.args.name.now in
    read_prints c.args.script.now.text known c.args.script.now c.laws.ensures.spelled
    c.deref.result.now (subst (IsText 65537 known) (search rules) c.in-Ok.ensures.text)
    c.in-Ok-read_and_evaluated.answer.0 c.in-Ok-read_and_evaluated.answer.1.items
    c.in-Ok-read_and_evaluated.ensures
