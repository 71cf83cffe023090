-- How a run of `at` ends.
use Rattle.std.specs.Prelude.{⊤}
use Rattle.std.proofs.Common.{◌≡◌, ◌≢◌, Option, None, refl, sym, subst, inl, inr}
use Rattle.script_grammar.specs.Spells.{View, Spells}
use Rattle.command_line.specs.At.{AskedAt}
use Rattle.whole_texts.specs.declared.read.ReadStop.{ReadStop}
use Rattle.whole_texts.specs.declared.read.ReadStop.TheVariants as stop
use Rattle.command_runs.proofs.Ends.{IsOnce, IsPutBy, IsStopPutBy, or_unread, put_runs, run_by}
use Rattle.command_runs.proofs.Ends.{stop_runs, unread_kept, unread_once}
use Rattle.command_runs.specs.Fates.{AreTold, IsKeptFile, IsTold, MayWrite, Runs, ending}
use Rattle.command_runs.specs.Fates.Ending.{Done}
use Rattle.command_runs.specs.Fates.Left.{Kept}
use Rattle.command_runs.specs.Runs.{Bytes, Run, IsKept, ReadFailed}
use Rattle.command_runs.specs.declared.status.Status.{Status}
use Rattle.command_runs.specs.declared.status.Status.TheVariants as status
use Rattle.script_texts.proofs.Texts.{IsLong, long_refused, no_script, told_script, told_text}
use Rattle.script_texts.specs.Texts.{IsScriptText, ReadsBehind}
use Rattle.at_command.specs.Told.{AtPrints}
use Rattle.at_command.specs.Command.{AtFate, AtTold, IsAtRun}
use Rattle.at_command.specs.Laws.{AtAnswersAreOne, IsPointTold}

-- ---- an answer
-- a run with it comes to its end
prints_done : (text : Bytes) (known : Option Bytes) (s : Status) (lines : Bytes)
    → AtPrints text known s lines → ending s ≡ Done
prints_done text known status.Answered lines p = refl
prints_done text known status.TooWide lines p = refl
prints_done text known status.Point lines p = refl
prints_done text known status.Script lines p = refl
prints_done text known _ lines p = absurd p

-- it is no read fault
prints_read : (text : Bytes) (known : Option Bytes) (s : Status) (lines : Bytes)
    → AtPrints text known s lines → s ≢ status.ReadFault
prints_read text known s lines p e = subst (λ t. AtPrints text known t lines) e p

-- all texts that are too long have the same
long_prints : (known : Option Bytes) (s : Status) (lines t text : Bytes) → IsLong t → IsLong text
    → AtPrints text known s lines → AtPrints t known s lines
long_prints known status.Answered lines t text a b (s, p, point, is, rest) =
    absurd (no_script text s b p)
long_prints known status.TooWide lines t text a b (s, p, point, is, rest) =
    absurd (no_script text s b p)
long_prints known status.Point lines t text a b (s, p, point, is, rest) =
    absurd (no_script text s b p)
long_prints known status.Script lines t text a b p = long_refused t text lines a b p
long_prints known _ lines t text a b p = absurd p

-- ---- a run
module _ (law : AtAnswersAreOne) (a : AskedAt) (r : Run)
    (kept : (name : Bytes) → IsKept r name) where
  told_once : AreTold (ReadsBehind r.before.told a.script a.point) r.before.told
      → IsOnce (AtTold a r.before.told)
  told_once tells s t ls ms l m n k ((text, is, p), e) ((other, there, q), f) =
      let told = r.before.told in
      let all = tells a.script (inl refl) in
      let one : text ≡ all.0 = subst (λ (o : Option Bytes). IsTold o text) all.1 is in
      let two : other ≡ all.0 = subst (λ (o : Option Bytes). IsTold o other) all.1 there in
      let known : IsTold (told a.script) all.0 =
      subst (λ (o : Option Bytes). IsTold o all.0) (sym all.1) refl in
      let point : IsPointTold all.0 (told a.point) =
      λ v spelled. tells a.point (inr (refl, (all.0, known, (v, spelled, tt)))) in
      let same = law all.0 (told a.point) point s t ls ms
      (subst (λ (w : Bytes). AtPrints w (told a.point) s ls) one p)
      (subst (λ (w : Bytes). AtPrints w (told a.point) t ms) two q) in
      sym same.0

  run_is : Runs None (AtFate a r) r → IsAtRun a r
  run_is h =
      let Reads = ReadsBehind r.before.told a.script a.point in
      let P = AtTold a r.before.told in
      run_by None Reads MayWrite (AtFate a r) r tt tt
      (unread_kept Reads r P MayWrite (λ s lines left still p. p.1))
      (λ tells. unread_once Reads IsKeptFile r P (told_once tells)) h

  -- a file of this name wasn't read
  stop_is : (why : ReadStop) (name : Bytes)
      → (why ≡ stop.Fault → ReadsBehind r.before.told a.script a.point name × ReadFailed r)
      → IsStopPutBy why name r → IsAtRun a r
  stop_is why name met put =
      run_is
      (stop_runs None (AtFate a r) r why name kept
      (λ e. let m = met e in (name, m.0, m.1, refl, refl)) put)

  -- the script wasn't read
  pub unread_is : (why : ReadStop) → (why ≡ stop.Fault → ReadFailed r)
      → IsStopPutBy why a.script r → IsAtRun a r
  unread_is why failed put = stop_is why a.script (λ e. (inl refl, failed e)) put

  module _ (read : Bytes) (is : IsScriptText (r.before.told a.script) read) where
    -- the script was read, and the point wasn't
    pub pointless_is : (why : ReadStop)
        → (why ≡ stop.Fault → ((s : View) × Spells read s) × ReadFailed r)
        → IsStopPutBy why a.point r → IsAtRun a r
    pointless_is why met put =
        stop_is why a.point
        (λ e. let m = met e in
        (inr (refl, told_script r.before.told a.script read (λ s. ⊤) is (m.0.0, m.0.1, tt)), m.1))
        put

    -- the lines were put
    pub put_is : (s : Status) (lines : Bytes) → AtPrints read (r.before.told a.point) s lines
        → IsPutBy s lines r → IsAtRun a r
    put_is s lines p put =
        let known = r.before.told a.point in
        let told : AtTold a r.before.told s lines Kept = (
          told_text (λ w. AtPrints w known s lines) (long_prints known s lines)
              (r.before.told a.script) read is p,
          refl,
        ) in
        run_is
        (put_runs None (AtFate a r) r s lines Kept
        (or_unread (ReadsBehind r.before.told a.script a.point) IsKeptFile r
        (AtTold a r.before.told) lines Kept s (prints_read read known s lines p) told)
        (λ other _. kept other) (prints_done read known s lines p) (λ k _. kept k) put)
