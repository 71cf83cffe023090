-- How a run of `batch` ends.
use Rattle.std.specs.Prelude.{◌≡◌, None, refl}
use Rattle.command_line.specs.Batch.{AskedBatch}
use Rattle.name_list.specs.Lists.{FaultsAreOne}
use Rattle.command_runs.proofs.Ends.{IsPutBy, put_runs, run_by, starved_of, unread_kept}
use Rattle.command_runs.proofs.Ends.{unread_once}
use Rattle.command_runs.specs.Fates.{IsKeptFile, MayWrite, Runs, ending}
use Rattle.command_runs.specs.Fates.Ending.{Done}
use Rattle.command_runs.specs.Fates.Left.{Kept}
use Rattle.command_runs.specs.Runs.{Bytes, Told, Run, IsKept, IsSilent, ReadFailed}
use Rattle.command_runs.specs.declared.status.Status.{Status}
use Rattle.command_runs.specs.declared.status.Status.TheVariants as status
use Rattle.script_answers.specs.Laws.{TextAnswersAreOne}
use Rattle.batch_command.specs.Command.{BatchFate, BatchTold, IsBatchRun, ReadsListed, options_of}
use Rattle.batch_command.specs.Told.{Prints}
use Rattle.batch_command.proofs.Listed.{batch_of_scripts}
use Rattle.batch_command.proofs.Once.{told_once}

-- such a run comes to its end
prints_done : (failed : Type 0) (a : AskedBatch) (told : Told) (s : Status) (lines : Bytes)
    → Prints failed a told s lines → ending s ≡ Done
prints_done failed a told status.ReadFault lines p = refl
prints_done failed a told status.List lines p = refl
prints_done failed a told s lines (text, is, (none, b)) =
    (batch_of_scripts (options_of a) told _ s lines b).done

module _ (a : AskedBatch) (r : Run) where
  fated : (s : Status) (lines : Bytes) → Prints (ReadFailed r) a r.before.told s lines
      → BatchFate a r s lines Kept
  fated status.ReadFault lines (name, reads, failed, e) = (name, reads, failed, refl, e)
  fated _ lines p = (p, refl)

  module _ (faults : FaultsAreOne) (one : TextAnswersAreOne) (kept : (name : Bytes) → IsKept r name)
    where
      run_is : Runs None (BatchFate a r) r → IsBatchRun a r
      run_is h =
          let Reads = ReadsListed r.before.told a.list in
          let P = BatchTold a r.before.told in
          run_by None Reads MayWrite (BatchFate a r) r tt tt
          (unread_kept Reads r P MayWrite (λ s lines left still p. p.1))
          (λ tells. unread_once Reads IsKeptFile r P (told_once faults one a r.before.told tells)) h

      -- the lines were put
      pub put_is : (s : Status) (lines : Bytes) → Prints (ReadFailed r) a r.before.told s lines
          → IsPutBy s lines r → IsBatchRun a r
      put_is s lines p put =
          run_is
          (put_runs None (BatchFate a r) r s lines Kept (fated s lines p) (λ other _. kept other)
          (prints_done (ReadFailed r) a r.before.told s lines p) (λ k _. kept k) put)

      -- memory ran out
      pub starved_is : r.status ≡ status.OutOfMemory → IsSilent r → IsBatchRun a r
      starved_is same silent =
          starved_of None (ReadsListed r.before.told a.list) MayWrite (BatchFate a r) r tt same
          (record { silent = silent; files = kept })
