-- A certificate that is accepted is answered.
use Rattle.std.specs.Prelude.{◌≡◌, Some, Option, Result, Err}
use Rattle.std.proofs.Common.{◌∙◌, ap, sym, subst}
use Rattle.script_grammar.specs.Spells.{View, Spells, SpellsOnce}
use Rattle.cert_bytes.specs.declared.style.Style.TheVariants.{First}
use Rattle.cert_bytes.specs.Reading.{cursor}
use Rattle.cert_bytes.specs.Pieces.{cursor_of}
use Rattle.cert_bytes.specs.Readers.{Progress, fresh}
use Rattle.cert_bytes.specs.declared.fault.CertFault.{CertFault}
use Rattle.cert_checker.specs.declared.fault.CheckFault.{CheckFault}
use Rattle.cert_checker.specs.declared.fault.CheckStop.{CheckStop}
use Rattle.cert_checker.specs.declared.fault.CheckStop.TheVariants.{Cert, Check}
use Rattle.cert_checker.specs.declared.lines.Lines.{Lines}
use Rattle.cert_checker.specs.Contexts.{Context}
use Rattle.cert_checker.specs.Outcomes.{Outcome, accepted, SpelledAreAccepted}
use Rattle.cert_checker.specs.Checking.{IsAnswer}
use Rattle.script_checker.specs.Checking.{ComesFor, AreAcceptedFor}
use Rattle.command_runs.specs.Runs.{Bytes, Told}
use Rattle.script_texts.proofs.Texts.{read_whole}
use Rattle.script_texts.specs.Texts.{IsScriptText}
use Rattle.check_command.specs.Checked.{IsAcceptable}

comes_of : SpelledAreAccepted → SpellsOnce → (s : View) → Spells s.text s → (all : Bytes)
    → IsAcceptable s.text all → (end : Context) × ComesFor s (cursor First all 0) (accepted end)
comes_of law once s spelled all p =
    let same : p.script ≡ s = once s.text p.script s p.spelled spelled in
    let here : AreAcceptedFor s all p.shown =
    subst (λ (v : View). AreAcceptedFor v all p.shown) same p.accepted in
    let there =
    law here.subject all here.accepted.items p.shown p.short here.accepted.spelled
    here.accepted.accepts in
    (there.0, (here.subject, here.is, there.1))

-- that is what is answered
pub answers_accepted : SpelledAreAccepted → SpellsOnce → (told : Told) (name : Bytes) (r : Progress)
    → r ≡ fresh name → (s : View) → Spells s.text s → (result : Result Lines CheckStop)
    → ((all : Bytes) → told r.ahead.name ≡ Some all → (o : Outcome)
    → ComesFor s (cursor_of all r.ahead) o → IsAnswer o result)
    → (all : Bytes) → told name ≡ Some all → IsAcceptable s.text all
    → (end : Context) × IsAnswer (accepted end) result
answers_accepted law once told name r begins s spelled result exact all known p =
    let comes = comes_of law once s spelled all p in
    let here : ComesFor s (cursor_of all r.ahead) (accepted comes.0) =
    subst (λ (q : Progress). ComesFor s (cursor_of all q.ahead) (accepted comes.0)) (sym begins)
    comes.1 in (
      comes.0,
      exact all (ap (λ (q : Progress). told q.ahead.name) begins ∙ known) (accepted comes.0) here,
    )

-- so no fault is
pub not_unread : (end : Context) (why : CheckStop) (f : CertFault) → why ≡ Cert f
    → ¬ IsAnswer (accepted end) (Err why)
not_unread end why f e a = subst (λ (t : CheckStop). IsAnswer (accepted end) (Err t)) e a

pub not_refused : (end : Context) (why : CheckStop) (f : CheckFault) → why ≡ Check f
    → ¬ IsAnswer (accepted end) (Err why)
not_refused end why f e a = subst (λ (t : CheckStop). IsAnswer (accepted end) (Err t)) e a

-- a text with a script was read whole
pub acceptable_read : (known : Option Bytes) (text read all : Bytes) → known ≡ Some text
    → IsScriptText known read → IsAcceptable text all → IsAcceptable read all
acceptable_read known text read all e is p =
    subst (λ (w : Bytes). IsAcceptable w all)
    (sym (read_whole known text read p.script e is p.spelled)) p
