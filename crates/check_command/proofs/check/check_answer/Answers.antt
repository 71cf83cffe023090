use Rattle.std.proofs.Common.{ℕ, List, Err, IfOk, ap, sym, subst}
use Rattle.script_grammar.specs.Spells.{View}
use Rattle.check_command.specs.Checked.{CheckPrints, IsAcceptable}
use Rattle.check_command.proofs.check.check_answer.Goals as goal

pub returns-in-Ok-clause-prints : goal.returns-in-Ok-clause-prints
returns-in-Ok-clause-prints g c =
    let cert = g.F.Folder.told c.args.folder.now c.args.name.now in
    subst
    (λ (text : List ℕ). IfOk c.check_certificate.result (λ r. CheckPrints text cert r.0 r.1.items))
    (ap (λ (v : View). v.text) c.in-Ok.ensures.spelled.says) c.check_certificate.ensures.prints

pub returns-in-Ok-clause-accepted : goal.returns-in-Ok-clause-accepted
returns-in-Ok-clause-accepted g c = λ all known p.
    c.check_certificate.ensures.accepted all known
    (subst (λ (text : List ℕ). IsAcceptable text all)
    (sym (ap (λ (v : View). v.text) c.in-Ok.ensures.spelled.says)) p)

pub returns-in-Ok-clause-script : goal.returns-in-Ok-clause-script
returns-in-Ok-clause-script g c = λ e. (c.in-Ok.script, c.in-Ok.ensures.spelled)

pub refused_line-requires : goal.refused_line-requires
refused_line-requires g c = λ r e. c.in-Err.ensures.refused r (ap Err e)

pub returns-in_ok-refused_line-in-Err-clause-accepted :
    goal.returns-in_ok-refused_line-in-Err-clause-accepted
returns-in_ok-refused_line-in-Err-clause-accepted g c = λ all known p.
    let line = c.in_ok-refused_line-in-Err.ensures in
    absurd
    (c.script_or_refusal.ensures.never_both c.args.text.now p.script line.0 p.spelled line.1)
