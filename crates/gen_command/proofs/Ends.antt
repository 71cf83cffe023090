-- How a run of `gen` ends.
use Rattle.std.proofs.Common.{ℕ, None, refl, sym}
use Rattle.command_runs.proofs.Ends.{IsPutBy, put_runs, run_by}
use Rattle.command_runs.specs.Fates.{MayWrite, Runs}
use Rattle.command_runs.specs.Fates.Left.{Kept}
use Rattle.command_runs.specs.Runs.{Bytes, Run, IsKept}
use Rattle.command_runs.specs.declared.status.Status.{Status}
use Rattle.script_answers.specs.Answers.{MadePrints}
use Rattle.script_answers.specs.Laws.{MadeAnswersAreOne}
use Rattle.script_answers.proofs.LawsLaws.{made_done}
use Rattle.gen_command.specs.Command.{GenFate, IsGenRun}

module _ (law : MadeAnswersAreOne) (n : ℕ) (r : Run) (kept : (name : Bytes) → IsKept r name) where
  run_is : Runs None (GenFate n) r → IsGenRun n r
  run_is h =
      run_by None (λ name. ⊥) MayWrite (GenFate n) r tt tt (λ s lines left still p. p.1)
      (λ told s t ls ms l m d e p q. sym (law n s t ls ms p.0 q.0).0) h

  -- the lines were put
  pub put_is : (s : Status) (lines : Bytes) → MadePrints n s lines → IsPutBy s lines r
      → IsGenRun n r
  put_is s lines p put =
      run_is (put_runs None (GenFate n) r s lines Kept (p, refl) (λ other _. kept other)
      (made_done n s lines p) (λ k is. kept k) put)
