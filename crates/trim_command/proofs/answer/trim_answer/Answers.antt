use Rattle.std.specs.Prelude.{◌≡◌, ◌⊎◌, IsErrOf}
use Rattle.std.proofs.Common.{ℕ, List, Err, IfOk, ap, subst}
use Rattle.script_grammar.specs.Spells.{View}
use Rattle.trim_command.specs.Writing.{Answers, BreaksOff}
use Rattle.trim_command.specs.declared.stop.TrimStop.TheVariants as TrimStop
use Rattle.trim_command.proofs.answer.trim_answer.Goals as goal

pub refused_line-requires : goal.refused_line-requires
refused_line-requires g c = λ r e. c.in-Err.ensures.refused r (ap Err e)

pub returns-in-Ok-clause-answers : goal.returns-in-Ok-clause-answers
returns-in-Ok-clause-answers g c =
    let old = g.F.Folder.told c.args.folder.now in
    let new = g.F.Folder.told c.trim_certificate.new.folder c.args.new.now in
    subst (λ (text : List ℕ). IfOk c.trim_certificate.result
    (λ r. Answers text (old c.args.cert.now) (old c.args.new.now) new r.0 r.1.items))
    (ap (λ (v : View). v.text) c.in-Ok.ensures.spelled.says) c.trim_certificate.ensures.answers

pub returns-in-Ok-clause-unwritten : goal.returns-in-Ok-clause-unwritten
returns-in-Ok-clause-unwritten g c =
    let old = g.F.Folder.told c.args.folder.now in
    let new = g.F.Folder.told c.trim_certificate.new.folder c.args.new.now in
    subst (λ (text : List ℕ). IsErrOf c.trim_certificate.result TrimStop.Unwritten
    → BreaksOff text (old c.args.cert.now) (old c.args.new.now) new)
    (ap (λ (v : View). v.text) c.in-Ok.ensures.spelled.says) c.trim_certificate.ensures.unwritten

pub returns-in-Ok-clause-starved : goal.returns-in-Ok-clause-starved
returns-in-Ok-clause-starved g c =
    let old = g.F.Folder.told c.args.folder.now in
    let new = g.F.Folder.told c.trim_certificate.new.folder c.args.new.now in
    subst (λ (text : List ℕ). IsErrOf c.trim_certificate.result TrimStop.OutOfMemory
    → (new ≡ old c.args.new.now)
    ⊎ BreaksOff text (old c.args.cert.now) (old c.args.new.now) new)
    (ap (λ (v : View). v.text) c.in-Ok.ensures.spelled.says) c.trim_certificate.ensures.starved
