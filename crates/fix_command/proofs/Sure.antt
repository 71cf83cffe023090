-- How a run ends of which nothing of the outside failed.
use Rattle.std.specs.Prelude.{◌≡◌, ◌⊎◌, Some, length}
use Rattle.std.proofs.Common.{refl, ap, subst, sym, ◌∙◌}
use Rattle.fixprog.specs.First.{Spells}
use Rattle.fixprog.specs.Grammar.{Program, outputs}
use Rattle.fixprog.specs.Turned.{script_of}
use Rattle.command_line.specs.Fix.{AskedFix}
use Rattle.command_runs.specs.Runs.{Bytes, Run, ReadFailed, WriteFailed, PutFailed}
use Rattle.command_runs.proofs.Ends.{sure_run}
use Rattle.command_runs.specs.Fates.{IsTold, IsKeptFile, MayWrite}
use Rattle.command_runs.specs.Fates.Left.{Whole}
use Rattle.command_runs.specs.declared.status.Status.TheVariants as status
use Rattle.fix_command.specs.Command.{FixTold, IsFixRun, Reads}
use Rattle.fix_command.specs.Lines.{fix_line}

module _ (a : AskedFix) (r : Run) (h : IsFixRun a r) where
  -- Where the told text spells a program, and no read, no write and no put failed, the run comes to
  -- its end, or memory ran out.
  pub spelled_ends : (text : Bytes) (p : Program) → r.before.told a.program ≡ Some text
      → Spells text p → ¬ ReadFailed r → ¬ WriteFailed r → ¬ PutFailed r
      → (r.status ≡ status.Answered) ⊎ (r.status ≡ status.OutOfMemory)
  spelled_ends text p told spelled reads writes puts =
      sure_run (Some a.script) (Reads a) (Reads a) IsKeptFile MayWrite
      (FixTold a r.before.told) r h reads writes puts
      (λ name e. (text, ap r.before.told e ∙ told)) status.Answered
      (fix_line (length p.steps) (length (outputs p))) (Whole (Some (script_of p))) (λ e. cc e)
      (text, subst (λ o. IsTold o text) (sym told) refl, (p, spelled, refl, refl))
