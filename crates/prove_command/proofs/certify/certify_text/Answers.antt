use Rattle.std.proofs.Common.{Err, ap, subst}
use Rattle.std.specs.Prelude.{List, ℕ}
use Rattle.script_grammar.specs.Spells.{View}
use Rattle.settler.specs.Answers.{options_from}
use Rattle.prove_command.specs.Certified.{IsCertifiedBy, name_of}
use Rattle.prove_command.proofs.Left.{spared_by}
use Rattle.prove_command.proofs.certify.certify_text.Goals as goal

pub refused_line-requires : goal.refused_line-requires
refused_line-requires g c = λ r e. c.in-Err.ensures.refused r (ap Err e)

pub returns-in-Ok : goal.returns-in-Ok
returns-in-Ok g c =
    let request = c.args.request.now in
    subst (λ (text : List ℕ). IsCertifiedBy g.F.Folder (options_from request.options) text
    (name_of request.cert) c.args.folder.now c.certify_script.new.folder c.certify_script.result)
    (ap (λ (v : View). v.text) c.in-Ok.ensures.spelled.says) c.certify_script.ensures

pub returns-in_ok-lines-in-Err : goal.returns-in_ok-lines-in-Err
returns-in_ok-lines-in-Err g c =
    let request = c.args.request.now in
    spared_by g.F.Folder (options_from request.options) c.args.text.now (name_of request.cert)
    c.args.folder.now _
    (record { other = λ e. cc e; prints = c.in_ok-lines-in-Err.ensures; done = λ h. h })
