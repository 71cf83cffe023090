-- How `fix` ends, by what its parts did.
use Rattle.std.proofs.Common.{◌≡◌, ◌≢◌, ◌<◌, ◌^◌, ℕ, Option, Some, None, refl, sym, ap, subst}
use Rattle.std.specs.Io.KnownBytes.{Keeps}
use Rattle.fixprog.specs.First.{FirstsAreUnique}
use Rattle.command_line.specs.Fix.{AskedFix}
use Rattle.whole_texts.specs.Texts.{IsText}
use Rattle.whole_texts.specs.declared.read.ReadStop.{ReadStop}
use Rattle.whole_texts.specs.declared.read.ReadStop.TheVariants as stop
use Rattle.command_runs.specs.Runs.{Bytes, Run, IsKept, ReadFailed, WriteFailed}
use Rattle.command_runs.proofs.Ends.{IsPutBy, IsStopPutBy, put_runs, stop_runs, unwritten_runs}
use Rattle.command_runs.proofs.Ends.{run_by, unread_kept, unread_once}
use Rattle.command_runs.specs.Fates.{Left, Leaves, begun, Runs, MayWrite, IsKeptFile}
use Rattle.command_runs.specs.declared.status.Status.{Status}
use Rattle.command_runs.specs.declared.status.Status.TheVariants as status
use Rattle.fix_command.specs.Command.{FixText, FixTold, FixFate, IsFixRun, Reads}
use Rattle.fix_command.proofs.Cut.{told_text}
use Rattle.fix_command.proofs.Fated.{ended, fated, keeps, once}

-- a sink in which nothing was put
same_silent : (old : Option Bytes) → Keeps old old
same_silent None = tt
same_silent (Some bytes) = refl

module _ (a : AskedFix) (r : Run) (firsts : FirstsAreUnique) where
  whole : Runs (Some a.script) (FixFate a r) r → IsFixRun a r
  whole h = run_by (Some a.script) (Reads a) MayWrite (FixFate a r) r tt tt
      (unread_kept (Reads a) r (FixTold a r.before.told) MayWrite (keeps a r.before.told))
      (λ told. unread_once (Reads a) IsKeptFile r (FixTold a r.before.told)
      (once a r.before.told firsts told)) h

  -- the program wasn't read
  pub unread : (why : ReadStop) → (why ≡ stop.Fault → ReadFailed r) → ((n : Bytes) → IsKept r n)
      → IsStopPutBy why a.program r → IsFixRun a r
  unread why failed files put =
      whole (stop_runs (Some a.script) (FixFate a r) r why a.program files
      (λ is. (a.program, refl, failed is, refl, refl)) put)

  module _ (most : ℕ) (enough : 2 ^ 16 < most) (read : Bytes)
      (is : IsText most (r.before.told a.program) read) (s : Status) (lines : Bytes) (left : Left)
      (h : FixText read s lines left)
      (others : (other : Bytes) → other ≢ a.script → IsKept r other) where
    fate : FixFate a r s lines left
    fate = fated a r read lines left s h
        (told_text most enough (r.before.told a.program) read is s lines left h)

    apart : (other : Bytes) → Some a.script ≢ Some other → IsKept r other
    apart other n = others other (λ e. n (ap Some (sym e)))

    -- the file is as it is to be, and the line was put
    pub put : Leaves left (r.before.told a.script) (r.after.told a.script) → IsPutBy s lines r
        → IsFixRun a r
    put file took =
        whole (put_runs (Some a.script) (FixFate a r) r s lines left fate apart
        (ended read lines left s h) (λ n e. subst
        (λ k. Leaves left (r.before.told k) (r.after.told k)) (cc e) file) took)

    -- a write failed
    pub unwritten : Leaves (begun left) (r.before.told a.script) (r.after.told a.script)
        → r.after.taken ≡ r.before.taken → r.status ≡ status.WriteFault → WriteFailed r
        → IsFixRun a r
    unwritten file silent same failed =
        whole (unwritten_runs (Some a.script) (FixFate a r) r s lines left fate apart
        (subst (λ o. Keeps r.before.taken o) (sym silent) (same_silent r.before.taken))
        (λ n e. subst (λ k. Leaves (begun left) (r.before.told k) (r.after.told k)) (cc e) file)
        same (λ e. cc e) failed)
