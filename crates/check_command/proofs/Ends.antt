-- How a run of `check` ends.
use Rattle.std.specs.Prelude.{⊤}
use Rattle.std.proofs.Common.{◌≡◌, ◌≢◌, Option, Some, None, refl, sym, subst, inl, inr}
use Rattle.script_grammar.specs.Spells.{View, Spells}
use Rattle.command_line.specs.Check.{AskedCheck}
use Rattle.whole_texts.specs.declared.read.ReadStop.{ReadStop}
use Rattle.whole_texts.specs.declared.read.ReadStop.TheVariants as stop
use Rattle.command_runs.proofs.Ends.{IsOnce, IsPutBy, IsStopPutBy, or_unread, put_comes, put_runs}
use Rattle.command_runs.proofs.Ends.{run_by, stop_comes, stop_runs, unread_kept, unread_once}
use Rattle.command_runs.specs.Fates.{AreTold, IsKeptFile, IsTold, MayWrite, Runs, ending, Comes}
use Rattle.command_runs.specs.Fates.Ending.{Done}
use Rattle.command_runs.specs.Fates.Left.{Kept}
use Rattle.command_runs.specs.Runs.{Bytes, Run, IsKept, ReadFailed}
use Rattle.command_runs.specs.declared.status.Status.{Status}
use Rattle.command_runs.specs.declared.status.Status.TheVariants as status
use Rattle.script_texts.proofs.Texts.{IsLong, long_refused, no_script, told_script, told_text}
use Rattle.script_texts.specs.Texts.{IsScriptText, ReadsBehind}
use Rattle.check_command.specs.Checked.{CheckPrints, IsAcceptable}
use Rattle.check_command.specs.Command.{CheckFate, CheckTold, IsCheckRun}
use Rattle.check_command.specs.Laws.{CheckAnswersAreOne, IsCertTold}
use Rattle.check_command.proofs.Complete.{acceptable_read}

-- ---- an answer
-- a run with it comes to its end
prints_done : (text : Bytes) (cert : Option Bytes) (s : Status) (lines : Bytes)
    → CheckPrints text cert s lines → ending s ≡ Done
prints_done text cert status.Answered lines p = refl
prints_done text cert status.Certificate lines p = refl
prints_done text cert status.Script lines p = refl
prints_done text cert _ lines p = absurd p

-- it is no read fault
prints_read : (text : Bytes) (cert : Option Bytes) (s : Status) (lines : Bytes)
    → CheckPrints text cert s lines → s ≢ status.ReadFault
prints_read text cert s lines p e = subst (λ t. CheckPrints text cert t lines) e p

-- all texts that are too long have the same
long_prints : (cert : Option Bytes) (s : Status) (lines t text : Bytes) → IsLong t → IsLong text
    → CheckPrints text cert s lines → CheckPrints t cert s lines
long_prints cert status.Answered lines t text a b p = absurd (no_script text p.script b p.spelled)
long_prints cert status.Certificate lines t text a b (s, p, f) = absurd (no_script text s b p)
long_prints cert status.Script lines t text a b p = long_refused t text lines a b p
long_prints cert _ lines t text a b p = absurd p

-- ---- a run
module _ (law : CheckAnswersAreOne) (a : AskedCheck) (r : Run)
    (kept : (name : Bytes) → IsKept r name) where
  told_once : AreTold (ReadsBehind r.before.told a.script a.cert) r.before.told
      → IsOnce (CheckTold a r.before.told)
  told_once tells s t ls ms l m n k ((text, is, p), e) ((other, there, q), f) =
      let told = r.before.told in
      let all = tells a.script (inl refl) in
      let one : text ≡ all.0 = subst (λ (o : Option Bytes). IsTold o text) all.1 is in
      let two : other ≡ all.0 = subst (λ (o : Option Bytes). IsTold o other) all.1 there in
      let known : IsTold (told a.script) all.0 =
      subst (λ (o : Option Bytes). IsTold o all.0) (sym all.1) refl in
      let cert : IsCertTold all.0 (told a.cert) =
      λ v spelled. tells a.cert (inr (refl, (all.0, known, (v, spelled, tt)))) in
      sym (law all.0 (told a.cert) cert s t ls ms
      (subst (λ (w : Bytes). CheckPrints w (told a.cert) s ls) one p)
      (subst (λ (w : Bytes). CheckPrints w (told a.cert) t ms) two q)).0

  run_is : Runs None (CheckFate a r) r
      → ((text all : Bytes) → r.before.told a.script ≡ Some text → r.before.told a.cert ≡ Some all
      → IsAcceptable text all → Comes status.Answered r.status) → IsCheckRun a r
  run_is h comes =
      let Reads = ReadsBehind r.before.told a.script a.cert in
      let P = CheckTold a r.before.told in
      record {
        ends = run_by None Reads MayWrite (CheckFate a r) r tt tt
            (unread_kept Reads r P MayWrite (λ s lines left still p. p.1))
            (λ tells. unread_once Reads IsKeptFile r P (told_once tells)) h;
        accepted = comes;
      }

  -- a file of this name wasn't read
  stop_is : (why : ReadStop) (name : Bytes)
      → (why ≡ stop.Fault → ReadsBehind r.before.told a.script a.cert name × ReadFailed r)
      → IsStopPutBy why name r → IsCheckRun a r
  stop_is why name met put =
      run_is
      (stop_runs None (CheckFate a r) r why name kept
      (λ e. let m = met e in (name, m.0, m.1, refl, refl)) put)
      (λ text all known told p. stop_comes why name status.Answered r put)

  -- the script wasn't read
  pub script_stop_is : (why : ReadStop) → (why ≡ stop.Fault → ReadFailed r)
      → IsStopPutBy why a.script r → IsCheckRun a r
  script_stop_is why met put = stop_is why a.script (λ e. (inl refl, met e)) put

  module _ (read : Bytes) (is : IsScriptText (r.before.told a.script) read) where
    -- it was read, and the certificate wasn't
    pub cert_stop_is : (why : ReadStop)
        → (why ≡ stop.Fault → ((s : View) × Spells read s) × ReadFailed r)
        → IsStopPutBy why a.cert r → IsCheckRun a r
    cert_stop_is why met put =
        stop_is why a.cert
        (λ e. let m = met e in
        (inr (refl, told_script r.before.told a.script read (λ s. ⊤) is (m.0.0, m.0.1, tt)), m.1))
        put

    -- the lines were put
    pub put_is : (s : Status) (lines : Bytes) → CheckPrints read (r.before.told a.cert) s lines
        → ((all : Bytes) → r.before.told a.cert ≡ Some all → IsAcceptable read all
        → s ≡ status.Answered) → IsPutBy s lines r → IsCheckRun a r
    put_is s lines p comes put =
        let cert = r.before.told a.cert in
        let told : CheckTold a r.before.told s lines Kept = (
          told_text (λ w. CheckPrints w cert s lines) (long_prints cert s lines)
              (r.before.told a.script) read is p,
          refl,
        ) in
        run_is
        (put_runs None (CheckFate a r) r s lines Kept
        (or_unread (ReadsBehind r.before.told a.script a.cert) IsKeptFile r
        (CheckTold a r.before.told) lines Kept s (prints_read read cert s lines p) told)
        (λ other _. kept other) (prints_done read cert s lines p) (λ k _. kept k) put)
        (λ text all script known q. subst (λ t. Comes t r.status)
        (comes all known (acceptable_read (r.before.told a.script) text read all script is q))
        (put_comes s lines r put))
