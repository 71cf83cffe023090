-- A run of `prove`, by what its parts did.
use Rattle.std.specs.Prelude.{◌≡◌, ◌≢◌, ℕ, Option, Some, None, Result, Ok, Err}
use Rattle.std.proofs.Common.{inl, inr, refl, subst, ◌∙◌}
use Rattle.settler.specs.Answers.{Options}
use Rattle.command_line.specs.Reading.{Asked}
use Rattle.whole_texts.specs.declared.read.ReadStop.{ReadStop}
use Rattle.whole_texts.specs.declared.read.ReadStop.TheVariants as stop
use Rattle.command_runs.specs.Runs.{Bytes, Told, Run, IsKept, ReadFailed}
use Rattle.command_runs.specs.Fates.{Left, Leaves, IsTold, Written, Runs, AreTold, IsKeptFile}
use Rattle.command_runs.specs.Fates.{IsUntouched, MayWrite}
use Rattle.command_runs.specs.Fates.Left.{Kept}
use Rattle.command_runs.proofs.Ends.{IsOnce, IsStopPutBy, exhausted_runs, or_unread, put_runs}
use Rattle.command_runs.proofs.Ends.{run_by, starved_runs, stop_runs, unread_kept, unread_once}
use Rattle.command_runs.proofs.Ends.{unwritten_runs}
use Rattle.command_runs.specs.declared.status.Status.{Status}
use Rattle.command_runs.specs.declared.status.Status.TheVariants as status
use Rattle.script_texts.proofs.Texts.{told_text}
use Rattle.script_texts.specs.Texts.{IsScriptText}
use Rattle.script_answers.specs.Answers.{ProvePrints, options_of}
use Rattle.script_answers.specs.Laws.{TextAnswersAreOne}
use Rattle.script_answers.proofs.LawsLaws.{prints_done}
use Rattle.cert_writer.specs.declared.walk.WriteStop.{WriteStop}
use Rattle.cert_writer.specs.declared.walk.WriteStop.TheVariants as write_stop
use Rattle.prove_command.specs.Certified.{HasWriteCause, IsCertified, IsPutBehind, IsStopped}
use Rattle.prove_command.specs.Certified.{left_by}
use Rattle.prove_command.specs.Command.{IsCutOff, TextFate, ProveTold, ProveFate, IsProveRun}
use Rattle.prove_command.specs.declared.certify.Certified.{Certified}
use Rattle.prove_command.proofs.Fates.{fate_more, kept_of, long_fate, prints_of}

-- a text that may be behind a told name is the told one
told_is : (text t : Bytes) (known : Option Bytes) → known ≡ Some text → IsTold known t → t ≡ text
told_is text t None e is = absurd (cc e)
told_is text t (Some all) e is = let h : Some all ≡ Some text = e in is ∙ cc h

module _ (law : TextAnswersAreOne) (a : Asked) (r : Run) where
  -- the script's name is read
  abbrev Reads : Bytes → Type 0
  Reads name = name ≡ a.script

  -- ---- which status comes
  print_told : (text : Bytes) → r.before.told a.script ≡ Some text → (s : Status) (lines : Bytes)
      (left : Left) → ProveTold a r s lines left → ProvePrints (options_of a) text s lines
  print_told text e s lines left (t, is, h) = subst (λ w. ProvePrints (options_of a) w s lines)
      (told_is text t (r.before.told a.script) e is)
      (prints_of (IsCutOff r) a.cert (options_of a) t lines s left h)

  once : AreTold Reads r.before.told → IsOnce (ProveTold a r)
  once told s t ls ms l m n k p q =
      let script = told a.script refl in
      (law (options_of a) script.0 t s ms ls
      (print_told script.0 script.1 t ms m q) (print_told script.0 script.1 s ls l p)).0

  -- ---- where nothing is written
  keeps : (s : Status) (lines : Bytes) (left : Left) → ¬ MayWrite s → ProveTold a r s lines left
      → left ≡ Kept
  keeps s lines left still (t, is, h) =
      kept_of (IsCutOff r) a.cert (options_of a) t lines s left still h

  runs_prove : Runs a.cert (ProveFate a r) r → IsProveRun a r
  runs_prove h = run_by a.cert Reads MayWrite (ProveFate a r) r tt tt
      (unread_kept Reads r (ProveTold a r) MayWrite keeps)
      (λ told. unread_once Reads IsKeptFile r (ProveTold a r) (once told)) h

  -- ---- how it ended
  -- the script wasn't read
  pub stopped : (why : ReadStop) → ((name : Bytes) → IsKept r name)
      → (why ≡ stop.Fault → ReadFailed r) → IsStopPutBy why a.script r → IsProveRun a r
  stopped why kept failed put = runs_prove (stop_runs a.cert (ProveFate a r) r why a.script kept
      (λ e. (a.script, refl, failed e, refl, refl)) put)

  -- memory ran out before the lines were made
  pub starved : r.status ≡ status.OutOfMemory → IsUntouched r → IsProveRun a r
  starved is u = runs_prove (starved_runs a.cert (ProveFate a r) r is u)

  -- lines were made of the text that was read
  module _ (others : (other : Bytes) → a.cert ≢ Some other → IsKept r other) (text : Bytes)
      (read : IsScriptText (r.before.told a.script) text) (s : Status) (lines : Bytes)
      (left : Left) where
    -- they have a fate
    fate_of : (C : Type 0) → (C → IsCutOff r) → TextFate C a.cert (options_of a) text s lines left
        → ProveFate a r s lines left
    fate_of C more h = or_unread Reads IsKeptFile r (ProveTold a r) lines left s
        (λ e. subst (λ t. ProvePrints (options_of a) text t lines) e
        (prints_of C a.cert (options_of a) text lines s left h))
        (told_text (λ w. TextFate (IsCutOff r) a.cert (options_of a) w s lines left)
        (long_fate (IsCutOff r) a.cert (options_of a) s lines left)
        (r.before.told a.script) text read
        (fate_more C (IsCutOff r) more a.cert (options_of a) text lines s left h))

    certified_runs : {T : Type 0} (w : Result T WriteStop)
        → TextFate (IsStopped w) a.cert (options_of a) text s lines left
        → Written a.cert (left_by w left) r → (IsStopped w → a.cert ≢ None)
        → HasWriteCause r.before.writes r.after.writes w
        → IsPutBehind w s lines r.before.taken r.after.taken r.before.puts r.after.puts r.status
        → Runs a.cert (ProveFate a r) r
    certified_runs (Ok x) h file named cause put =
        put_runs a.cert (ProveFate a r) r s lines left (fate_of ⊥ (λ c. absurd c) h) others
        (prints_done (options_of a) text s lines
        (prints_of ⊥ a.cert (options_of a) text lines s left h)) file put
    certified_runs (Err write_stop.Failed) h file named cause (is, silent) =
        let failed = cause.failed refl in
        unwritten_runs a.cert (ProveFate a r) r s lines left
        (fate_of _ (λ _. record { silent = silent; why = inl (is, failed) }) h) others silent file
        is (named tt) failed
    certified_runs (Err write_stop.OutOfMemory) h file named cause (is, silent) =
        exhausted_runs a.cert (ProveFate a r) r s lines left
        (fate_of _ (λ _. record { silent = silent; why = inr is }) h) others silent file is

  pub certified : (c : Certified) (text : Bytes)
      → ((other : Bytes) → a.cert ≢ Some other → IsKept r other)
      → IsScriptText (r.before.told a.script) text
      → IsCertified (options_of a) text a.cert r.before.told r.after.told c
      → HasWriteCause r.before.writes r.after.writes c.written
      → IsPutBehind c.written c.status c.lines.items
      r.before.taken r.after.taken r.before.puts r.after.puts r.status → IsProveRun a r
  certified c text others read h cause put = runs_prove
      (certified_runs others text read c.status c.lines.items h.left c.written
      h.made h.file h.named cause put)

  -- the same, where the folder told the same when the text had been read
  pub certified_read : (c : Certified) (o : Options) (text : Bytes) (middle : Told) (writes : ℕ)
      → o ≡ options_of a → IsScriptText (r.before.told a.script) text
      → ((n : Bytes) → middle n ≡ r.before.told n) → writes ≡ r.before.writes
      → ((other : Bytes) → a.cert ≢ Some other → r.after.told other ≡ middle other)
      → IsCertified o text a.cert middle r.after.told c
      → HasWriteCause writes r.after.writes c.written
      → IsPutBehind c.written c.status c.lines.items
      r.before.taken r.after.taken r.before.puts r.after.puts r.status → IsProveRun a r
  certified_read c o text middle writes same read told quiet others h cause put =
      let here : IsCertified o text a.cert r.before.told r.after.told c = record {
        left = h.left;
        made = h.made;
        file = λ n named. subst (λ k. Leaves (left_by c.written h.left) k (r.after.told n)) (told n)
            (h.file n named);
        named = h.named;
      } in
      certified c text (λ other n. others other n ∙ told other) read
      (subst (λ p. IsCertified p text a.cert r.before.told r.after.told c) same here)
      (subst (λ w. HasWriteCause w r.after.writes c.written) quiet cause) put
