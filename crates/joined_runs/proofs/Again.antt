-- What `prove` wrote, `check` answers.
use Rattle.std.specs.Prelude.{◌≡◌, ◌≤◌, ◌⊎◌, ◌^◌, List, length, Option, Some, None, IfSome}
use Rattle.std.proofs.Common.{inl, inr, refl, sym, ◌∙◌, subst}
use Rattle.fx_edge.specs.Outside.{Rose}
use Rattle.goals.specs.declared.line.Line.{Line}
use Rattle.script_grammar.specs.Spells.{View}
use Rattle.settler.specs.Answers.{Options}
use Rattle.cert_bytes.specs.declared.style.Style.TheVariants.{First}
use Rattle.cert_bytes.specs.Reading.{cursor}
use Rattle.cert_checker.specs.Contexts.{Context}
use Rattle.cert_checker.specs.Outcomes.{accepted, SpelledAreAccepted}
use Rattle.script_checker.specs.Checking.{ComesFor, AreAcceptedFor}
use Rattle.command_line.specs.Check.{AskedCheck}
use Rattle.command_line.specs.Reading.{Asked}
use Rattle.command_runs.specs.Fates.{Left, Leaves, Makes, Written, IsTold, EndsIn, Comes}
use Rattle.command_runs.specs.Fates.Left.{Whole}
use Rattle.command_runs.specs.Runs.{Bytes, Run, Puts}
use Rattle.command_runs.specs.declared.status.Status.TheVariants as status
use Rattle.script_answers.specs.Answers.{IsAnswered, options_of}
use Rattle.prove_command.specs.Command.{IsCutOff, IsCertificateOf, MakesFor, ProveFate}
use Rattle.check_command.specs.Checked.{IsChecked, CheckPrints}
use Rattle.check_command.specs.Command.{CheckFate}
use Rattle.check_command.specs.Laws.{CheckAnswersAreOne}
use Rattle.joined_runs.specs.Laws.{HasWritten, HasChecked, WrittenAreAnswered}

-- a told text is the one that is told
pub told_is : {t text : Bytes} (known : Option Bytes) → known ≡ Some text
    → IsTold known t → t ≡ text
told_is None e is = absurd (cc e)
told_is (Some all) e is = is ∙ cc e

-- ---- what `prove` printed and wrote
module _ (a : Asked) (r : Run) (text bytes : Bytes) (w : HasWritten a r text bytes) where
  -- the lines that were put, the answer that they print, and the certificate with them
  abbrev Printed : Type 0
  Printed = (lines : Bytes) × (d : IsAnswered (options_of a) text lines)
      × IsCertificateOf (IsCutOff r) d.script d.shown bytes × Puts r lines

  whole_bytes : (P : Bytes → Type 0) (left : Left) → MakesFor a.cert P left
      → Written a.cert left r → P bytes
  whole_bytes P left makes file =
      by (subst (λ c. MakesFor c P left) w.named makes) (file w.name w.named) where
        by : Makes P left → Leaves left (r.before.told w.name) (r.after.told w.name) → P bytes
        by (known, is, so) leaves = of_known known so
            (subst (λ l. Leaves l (Some w.old) (Some bytes)) is
            (subst (λ o. Leaves left o (Some bytes)) w.held
            (subst (λ n. Leaves left (r.before.told w.name) n) w.holds leaves))) where
              of_known : (k : Option Bytes) → IfSome k P
                  → Leaves (Whole k) (Some w.old) (Some bytes) → P bytes
              of_known None so leaves = absurd (cc leaves)
              of_known (Some all) so leaves = subst P (cc leaves) so

  printed : Printed
  printed = by (subst (λ s. EndsIn s a.cert (ProveFate a r) r) w.answered w.ran.runs.ends) where
    by : EndsIn status.Answered a.cert (ProveFate a r) r → Printed
    by (lines, left, (t, is, (d, makes)), done) =
        let same : t ≡ text = told_is (r.before.told a.script) w.script is in
        let pair = subst (λ u. (e : IsAnswered (options_of a) u lines)
        × MakesFor a.cert (IsCertificateOf (IsCutOff r) e.script e.shown) left) same (d, makes) in (
          lines,
          pair.0,
          whole_bytes (IsCertificateOf
              (IsCutOff r) pair.0.script pair.0.shown) left pair.1 done.file,
          done.put,
        )

  -- the certificate is short: the run wasn't cut off
  short : (s : View) (shown : List Line)
      → IsCertificateOf (IsCutOff r) s shown bytes → length bytes ≤ 2 ^ 44
  short s shown c = by c.short where
    by : IsCutOff r ⊎ (length bytes ≤ 2 ^ 44) → length bytes ≤ 2 ^ 44
    by (inr few) = few
    by (inl cut) = absurd (never cut.why) where
      never : ((r.status ≡ status.WriteFault) × Rose r.before.writes r.after.writes)
          ⊎ (r.status ≡ status.OutOfMemory) → ⊥
      never (inl (e, failed)) = cc (sym w.answered ∙ e)
      never (inr e) = cc (sym w.answered ∙ e)

-- ---- what `check` answers to that
-- what is checked so is checked of other bytes, too, where these are accepted with the same lines
pub checked_of : SpelledAreAccepted → (text lines bytes : Bytes) (cert : Option Bytes)
    → length bytes ≤ 2 ^ 44 → (d : IsChecked text cert lines)
    → AreAcceptedFor d.script bytes d.shown → IsChecked text (Some bytes) lines
checked_of law text lines bytes cert short d accepts =
    let comes = law accepts.subject bytes accepts.accepted.items d.shown short
    accepts.accepted.spelled accepts.accepted.accepts in
    record {
      script = d.script;
      shown = d.shown;
      marks = d.marks;
      spelled = d.spelled;
      comes = λ all known. let one : bytes ≡ all = cc known in
          subst (λ (b : Bytes). (end : Context)
          × ComesFor d.script (cursor First b 0) (accepted end)
          × (d.shown ≡ end.lines)) one
          (comes.0, (accepts.subject, accepts.is, comes.1), sym comes.2);
      accepts = λ all known are. let one : bytes ≡ all = cc known in
          subst (λ (b : Bytes). AreAcceptedFor d.script b d.shown) one accepts;
      words = d.words;
      each = d.each;
      holds = d.holds;
      marked = d.marked;
      printed = d.printed;
    }

-- the answer of `prove` is one of `check`, where the certificate is accepted
checked : SpelledAreAccepted → (o : Options) (text lines bytes : Bytes) → length bytes ≤ 2 ^ 44
    → (d : IsAnswered o text lines) → AreAcceptedFor d.script bytes d.shown
    → IsChecked text (Some bytes) lines
checked law o text lines bytes short d accepts =
    checked_of law text lines bytes None short
    (record {
      script = d.script;
      shown = d.shown;
      marks = d.marks;
      spelled = d.proved.spelled;
      comes = λ all known. absurd (cc known);
      accepts = λ all known are. absurd (cc known);
      words = d.proved.words;
      each = d.proved.each;
      holds = d.proved.holds;
      marked = d.marked;
      printed = d.printed;
    })
    accepts

module _ (once : CheckAnswersAreOne) (b : AskedCheck) (q : Run) (text bytes : Bytes)
    (k : HasChecked b q text bytes) where
  -- a run that was answered put the lines that are defined
  pub same_lines : (lines : Bytes) → IsChecked text (Some bytes) lines
      → q.status ≡ status.Answered → Puts q lines
  same_lines lines c answered =
      by (subst (λ s. EndsIn s None (CheckFate b q) q) answered k.ran.ends.runs.ends) where
        by : EndsIn status.Answered None (CheckFate b q) q → Puts q lines
        by (others, left, ((t, is, p), kept), done) =
            let same : t ≡ text = told_is (q.before.told b.script) k.script is in
            let said : CheckPrints text (Some bytes) status.Answered others =
            subst (λ u. CheckPrints u (Some bytes) status.Answered others) same
            (subst (λ o. CheckPrints t o status.Answered others) k.cert p) in
            let one = once text (Some bytes)
            (λ s spelled. (bytes, refl)) status.Answered status.Answered lines others c said in
            subst (Puts q) (sym one.1) done.put

pub written_are_answered : SpelledAreAccepted → CheckAnswersAreOne → WrittenAreAnswered
written_are_answered law once a b r q text bytes w k = by (printed a r text bytes w) where
  by : Printed a r text bytes w → Comes status.Answered q.status
      × (q.status ≡ status.Answered → (lines : Bytes) × IsAnswered (options_of a) text lines
      × Puts r lines × Puts q lines)
  by (lines, d, cert, put) =
      let few = short a r text bytes w d.script d.shown cert in
      let c = checked law (options_of a) text lines bytes few d cert.written.accepted in (
        k.ran.accepted text bytes k.script k.cert (record {
          script = d.script;
          shown = d.shown;
          spelled = d.proved.spelled;
          short = few;
          accepted = cert.written.accepted;
        }),
        λ answered. (lines, d, put, same_lines once b q text bytes k lines c answered),
      )
