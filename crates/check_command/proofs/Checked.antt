-- What is answered to a script and a certificate, from what its check answers.
use Rattle.std.specs.Prelude.{◌≡◌, length, Some, Err}
use Rattle.std.proofs.Common.{◌∙◌, ap, subst, inl, inr}
use Rattle.fx_model.specs.Expression.{Assignment}
use Rattle.script_grammar.specs.Spells.{View, Spells, GoalsHaveSpans}
use Rattle.script_meets.specs.Meets.{Meets}
use Rattle.script_meets.specs.Held.{AreHeld}
use Rattle.rewrite_hints.specs.Marks.{AreMarks}
use Rattle.cert_bytes.specs.declared.fault.CertFault.{CertFault}
use Rattle.cert_bytes.specs.declared.style.Style.TheVariants.{First}
use Rattle.cert_bytes.specs.Reading.{cursor}
use Rattle.cert_bytes.specs.Pieces.{cursor_of}
use Rattle.cert_bytes.specs.Readers.{Progress, fresh}
use Rattle.cert_bytes.specs.ReadOut.{AreBytes}
use Rattle.cert_checker.specs.declared.fault.CheckFault.{CheckFault}
use Rattle.cert_checker.specs.declared.fault.CheckStop.{CheckStop}
use Rattle.cert_checker.specs.declared.fault.CheckStop.TheVariants.{Cert, Check}
use Rattle.cert_checker.specs.declared.lines.Lines.{Lines}
use Rattle.cert_checker.specs.Outcomes.{Outcome, accepted, unread, refused}
use Rattle.script_checker.specs.Checking.{ComesFor, ShowsFor, ChecksFor, AreAcceptedFor}
use Rattle.command_runs.specs.Runs.{Bytes, Told}
use Rattle.command_runs.specs.declared.status.Status.TheVariants.{Answered, Certificate}
use Rattle.report.specs.Proved.{answer_text}
use Rattle.report.specs.Certificates.{cert_fault_line, check_fault_line}
use Rattle.check_command.specs.Checked.{ComesWhereTold, CheckPrints}

module _ (told : Told) (name : Bytes) (r : Progress) (begins : r ≡ fresh name) (s : View) where
  -- the same bytes, by the reader's name
  told_by : (all : Bytes) → told name ≡ Some all → told r.ahead.name ≡ Some all
  told_by all e = ap (λ (q : Progress). told q.ahead.name) begins ∙ e

  -- what comes from where the reader is comes from the first byte on
  from_first : (all : Bytes) (o : Outcome) → ComesFor s (cursor_of all r.ahead) o
      → ComesFor s (cursor First all 0) o
  from_first all o = subst (λ (q : Progress). ComesFor s (cursor_of all q.ahead) o) begins

  from_told : (o : Outcome)
      → ((all : Bytes) → told r.ahead.name ≡ Some all → ComesFor s (cursor_of all r.ahead) o)
      → ComesWhereTold s (told name) o
  from_told o comes all e = from_first all o (comes all (told_by all e))

  -- the bytes have a fault
  pub unread_prints : Spells s.text s → (stop : CheckStop) (f : CertFault) → stop ≡ Cert f
      → ((all : Bytes) → told r.ahead.name ≡ Some all
      → ChecksFor s (cursor_of all r.ahead) (Err stop)) → (lines : Bytes)
      → lines ≡ cert_fault_line f → CheckPrints s.text (told name) Certificate lines
  unread_prints spelled stop f is checks lines e = (
    s,
    spelled,
    inl (
      f,
      from_told (unread f) (λ all known.
          subst (λ (t : CheckStop). ChecksFor s (cursor_of all r.ahead) (Err t)) is
          (checks all known)),
      e,
    ),
  )

  -- an item has a fault
  pub refused_prints : Spells s.text s → (stop : CheckStop) (f : CheckFault) → stop ≡ Check f
      → ((all : Bytes) → told r.ahead.name ≡ Some all
      → ChecksFor s (cursor_of all r.ahead) (Err stop)) → (lines : Bytes)
      → lines ≡ check_fault_line f → CheckPrints s.text (told name) Certificate lines
  refused_prints spelled stop f is checks lines e = (
    s,
    spelled,
    inr (
      f,
      from_told (refused f) (λ all known.
          subst (λ (t : CheckStop). ChecksFor s (cursor_of all r.ahead) (Err t)) is
          (checks all known)),
      e,
    ),
  )

  -- it is accepted
  pub accepted_prints : GoalsHaveSpans → Spells s.text s → (found : Lines)
      → ((all : Bytes) → told r.ahead.name ≡ Some all → ShowsFor s (cursor_of all r.ahead) found)
      → ((all : Bytes) → told r.ahead.name ≡ Some all → AreBytes all
      → AreAcceptedFor s all found.rows)
      → ((a : Assignment) → Meets a s → AreHeld s a found.rows)
      → length found.rows ≡ length s.goals → AreMarks s.nodes s.hints.rewrites found.marks
      → (lines : Bytes) → lines ≡ answer_text s.text s.tokens s.spans found.rows found.marks
      → CheckPrints s.text (told name) Answered lines
  accepted_prints spans spelled found shows accepts holds each marked lines e = record {
    script = s;
    shown = found.rows;
    marks = found.marks;
    spelled = spelled;
    comes = λ all known.
        let shown = shows all (told_by all known) in
        let end = shown.shows.end in (
          end,
          from_first all (accepted end) (shown.subject, shown.is, shown.shows.comes),
          shown.shows.rows,
        );
    accepts = λ all known. accepts all (told_by all known);
    words = spans s.text s spelled;
    each = each;
    holds = holds;
    marked = marked;
    printed = e;
  }
