use Rattle.std.proofs.Common.{ℕ, List, Err, IfOk, ap, subst}
use Rattle.script_grammar.specs.Spells.{View}
use Rattle.at_command.specs.Told.{AtPrints}
use Rattle.at_command.proofs.point.at_answer.Goals as goal

pub refused_line-requires : goal.refused_line-requires
refused_line-requires g c = λ r e. c.in-Err.ensures.refused r (ap Err e)

pub returns-in-Ok-clause-prints : goal.returns-in-Ok-clause-prints
returns-in-Ok-clause-prints g c =
    let known = g.F.Folder.told c.args.folder.now c.args.name.now in
    subst
    (λ (text : List ℕ). IfOk c.script_at.result (λ r. AtPrints text known r.0 r.1.items))
    (ap (λ (v : View). v.text) c.in-Ok.ensures.spelled.says) c.script_at.ensures.prints
