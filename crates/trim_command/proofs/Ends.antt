-- How a run of `trim` ends.
use Rattle.std.specs.Prelude.{◌⊎◌, ⊤}
use Rattle.std.proofs.Common.{◌≡◌, ◌≢◌, ◌∙◌, Option, Some, refl, sym, subst, inl, inr}
use Rattle.script_grammar.specs.Spells.{View, Spells}
use Rattle.command_line.specs.Trim.{AskedTrim}
use Rattle.whole_texts.specs.declared.read.ReadStop.{ReadStop}
use Rattle.whole_texts.specs.declared.read.ReadStop.TheVariants as stop
use Rattle.command_runs.proofs.Ends.{IsOnce, IsPutBy, IsStopPutBy, exhausted_runs, all_kept}
use Rattle.command_runs.proofs.Ends.{left_so, others_kept, or_unread, put_runs, run_by}
use Rattle.command_runs.proofs.Ends.{starved_runs, stop_runs, unread_kept, unread_once}
use Rattle.command_runs.proofs.Ends.{unwritten_runs}
use Rattle.command_runs.specs.Fates.{AreTold, Fate, IsKeptFile, IsTold, Left, MayWrite, Runs, begun}
use Rattle.command_runs.specs.Fates.{ending}
use Rattle.command_runs.specs.Fates.Ending.{Done}
use Rattle.command_runs.specs.Fates.Left.{Kept, Whole}
use Rattle.command_runs.specs.Runs.{Bytes, Told, Run, IsKept, IsSilent, ReadFailed, WriteFailed}
use Rattle.command_runs.specs.declared.status.Status.{Status}
use Rattle.command_runs.specs.declared.status.Status.TheVariants as status
use Rattle.script_texts.proofs.Texts.{IsLong, long_refused, no_script, told_script, told_text}
use Rattle.script_texts.specs.Texts.{IsScriptText, ReadsBehind}
use Rattle.check_command.specs.Laws.{IsCertTold}
use Rattle.trim_command.specs.Command.{TrimFate, TrimTold, IsTrimRun}
use Rattle.trim_command.specs.Laws.{AcceptableAreTrimmed, TrimAnswersAreOne}
use Rattle.trim_command.specs.Trimmed.{IsTrimmed, TrimPrints, line_of, new_bytes}
use Rattle.trim_command.specs.Writing.{Answers, BreaksOff}

-- ---- an answer
-- a run with it comes to its end
prints_done : (text : Bytes) (cert : Option Bytes) (s : Status) (lines : Bytes) (left : Left)
    → TrimPrints text cert s lines left → ending s ≡ Done
prints_done text cert status.Answered lines left p = refl
prints_done text cert status.Certificate lines left p = refl
prints_done text cert status.Script lines left p = refl
prints_done text cert _ lines left p = absurd p

-- it is no read fault
prints_read : (text : Bytes) (cert : Option Bytes) (s : Status) (lines : Bytes) (left : Left)
    → TrimPrints text cert s lines left → s ≢ status.ReadFault
prints_read text cert s lines left p e = subst (λ t. TrimPrints text cert t lines left) e p

-- it keeps the file, where it may not be written
prints_kept : (text : Bytes) (cert : Option Bytes) (s : Status) (lines : Bytes) (left : Left)
    → ¬ MayWrite s → TrimPrints text cert s lines left → left ≡ Kept
prints_kept text cert status.Answered lines left still p = absurd (still tt)
prints_kept text cert status.Certificate lines left still p = p.1
prints_kept text cert status.Script lines left still p = p.1
prints_kept text cert _ lines left still p = absurd p

-- all texts that are too long have the same
long_prints : (cert : Option Bytes) (s : Status) (lines : Bytes) (left : Left) (t text : Bytes)
    → IsLong t → IsLong text → TrimPrints text cert s lines left → TrimPrints t cert s lines left
long_prints cert status.Answered lines left t text a b p =
    absurd (no_script text p.script b p.spelled)
long_prints cert status.Certificate lines left t text a b (inl (s, p, f), k) =
    absurd (no_script text s b p)
long_prints cert status.Certificate lines left t text a b (inr p, k) =
    absurd (no_script text p.script b p.spelled)
long_prints cert status.Script lines left t text a b (p, k) = (long_refused t text lines a b p, k)
long_prints cert _ lines left t text a b p = absurd p

-- ---- a run
module _ (law : TrimAnswersAreOne) (trims : AcceptableAreTrimmed) (a : AskedTrim) (r : Run)
    (others : (other : Bytes) → other ≢ a.new → IsKept r other) where
  abbrev reads : Bytes → Type 0
  reads = ReadsBehind r.before.told a.script a.cert

  abbrev told_fate : Fate
  told_fate = TrimTold a r.before.told

  abbrev known : Option Bytes
  known = r.before.told a.cert

  abbrev old : Option Bytes
  old = r.before.told a.new

  abbrev new : Option Bytes
  new = r.after.told a.new

  told_once : AreTold reads r.before.told → IsOnce told_fate
  told_once tells s t ls ms l m n k (text, is, p) (other, there, q) =
      let told = r.before.told in
      let all = tells a.script (inl refl) in
      let one : text ≡ all.0 = subst (λ (o : Option Bytes). IsTold o text) all.1 is in
      let two : other ≡ all.0 = subst (λ (o : Option Bytes). IsTold o other) all.1 there in
      let here : IsTold (told a.script) all.0 =
      subst (λ (o : Option Bytes). IsTold o all.0) (sym all.1) refl in
      let cert : IsCertTold all.0 known =
      λ v spelled. tells a.cert (inr (refl, (all.0, here, (v, spelled, tt)))) in
      let same = law all.0 known cert s t ls ms l m
      (subst (λ (w : Bytes). TrimPrints w known s ls l) one p)
      (subst (λ (w : Bytes). TrimPrints w known t ms m) two q) in
      sym same.0

  run_is : Runs (Some a.new) (TrimFate a r) r → IsTrimRun a r
  run_is h =
      let ends = run_by (Some a.new) reads MayWrite (TrimFate a r) r tt tt
      (unread_kept reads r told_fate MayWrite (λ s lines left still p.
      prints_kept p.0 known s lines left still p.2))
      (λ tells. unread_once reads IsKeptFile r told_fate (told_once tells)) h in
      record {
        ends = ends;
        accepted = λ text all items script cert p spelled short.
            let tells : AreTold reads r.before.told = λ name reading. told_both text all script cert
            name reading in
            let here : IsTold (r.before.told a.script) text =
            subst (λ (o : Option Bytes). IsTold o text) (sym script) refl in
            let trims_so = subst (λ (o : Option Bytes). IsTrimmed text o (line_of items)
            (Whole (Some (new_bytes items)))) (sym cert) (trims text all items p spelled short) in
            ends.exact status.Answered (line_of items) (Whole (Some (new_bytes items))) tells
            (λ e. cc e) (text, here, trims_so);
      }
    where
      told_both : (text all : Bytes) → r.before.told a.script ≡ Some text
          → r.before.told a.cert ≡ Some all → (name : Bytes) → reads name
          → (b : Bytes) × (r.before.told name ≡ Some b)
      told_both text all script cert name (inl e) =
          (text, subst (λ n. r.before.told n ≡ Some text) (sym e) script)
      told_both text all script cert name (inr (e, s)) =
          (all, subst (λ n. r.before.told n ≡ Some all) (sym e) cert)

  -- a file of this name wasn't read
  pub stop_is : (why : ReadStop) (name : Bytes) → new ≡ old
      → (why ≡ stop.Fault → reads name × ReadFailed r) → IsStopPutBy why name r → IsTrimRun a r
  stop_is why name same met put =
      run_is
      (stop_runs (Some a.new) (TrimFate a r) r why name (all_kept a.new r others same)
      (λ e. let m = met e in (name, m.0, m.1, refl, refl)) put)

  module _ (read : Bytes) (is : IsScriptText (r.before.told a.script) read)
      (mid : Told) (unchanged : (n : Bytes) → mid n ≡ r.before.told n) where
    -- an answer to the text that was read is one to the told text
    told_so : (s : Status) (lines : Bytes) (left : Left) → TrimPrints read known s lines left
        → TrimFate a r s lines left
    told_so s lines left p =
        or_unread reads IsKeptFile r told_fate lines left s
        (prints_read read known s lines left p)
        (told_text (λ w. TrimPrints w known s lines left) (long_prints known s lines left)
        (r.before.told a.script) read is p)

    -- the script was read, and the certificate wasn't
    pub uncertain_is : ((s : View) × Spells read s) × (new ≡ mid a.new) → ReadFailed r
        → IsStopPutBy stop.Fault a.cert r → IsTrimRun a r
    uncertain_is (spells, same) failed put =
        stop_is stop.Fault a.cert (same ∙ unchanged a.new)
        (λ e. (
          inr (
            refl,
            told_script r.before.told a.script read (λ s. ⊤) is (spells.0, spells.1, tt),
          ),
          failed,
        )) put

    -- the lines were put
    pub put_is : (s : Status) (lines : Bytes) → Answers read (mid a.cert) (mid a.new) new s lines
        → IsPutBy s lines r → IsTrimRun a r
    put_is s lines h put =
        let answers : Answers read known old new s lines =
        subst (λ (o : Option Bytes). Answers read known o new s lines) (unchanged a.new)
        (subst (λ (o : Option Bytes). Answers read o (mid a.new) new s lines) (unchanged a.cert) h)
        in by answers where
          by : Answers read known old new s lines → IsTrimRun a r
          by (left, p, leaves) =
              run_is
              (put_runs (Some a.new) (TrimFate a r) r s lines left (told_so s lines left p)
              (others_kept a.new r others) (prints_done read known s lines left p)
              (left_so a.new r left leaves) put)

    broken_so : BreaksOff read (mid a.cert) (mid a.new) new → BreaksOff read known old new
    broken_so h =
        subst (λ (o : Option Bytes). BreaksOff read known o new) (unchanged a.new)
        (subst (λ (o : Option Bytes). BreaksOff read o (mid a.new) new) (unchanged a.cert) h)

    -- a write failed
    pub unwritten_is : BreaksOff read (mid a.cert) (mid a.new) new
        → r.status ≡ status.WriteFault → WriteFailed r → IsSilent r → IsTrimRun a r
    unwritten_is h same failed silent = by (broken_so h) where
      by : BreaksOff read known old new → IsTrimRun a r
      by (lines, left, p, leaves) =
          run_is
          (unwritten_runs (Some a.new) (TrimFate a r) r status.Answered lines left
          (told_so status.Answered lines left p) (others_kept a.new r others) silent
          (left_so a.new r (begun left) leaves) same (λ e. cc e) failed)

    -- memory ran out
    pub starved_is : (new ≡ mid a.new) ⊎ BreaksOff read (mid a.cert) (mid a.new) new
        → r.status ≡ status.OutOfMemory → IsSilent r → IsTrimRun a r
    starved_is (inl kept) same silent =
        run_is
        (starved_runs (Some a.new) (TrimFate a r) r same
        (record { silent = silent; files = all_kept a.new r others (kept ∙ unchanged a.new) }))
    starved_is (inr h) same silent = by (broken_so h) where
      by : BreaksOff read known old new → IsTrimRun a r
      by (lines, left, p, leaves) =
          run_is
          (exhausted_runs (Some a.new) (TrimFate a r) r status.Answered lines left
          (told_so status.Answered lines left p) (others_kept a.new r others) silent
          (left_so a.new r (begun left) leaves) same)
