-- What a run of each command is.
use Rattle.std.specs.Prelude.{◌≡◌, Option, Some, None}
use Rattle.command_line.specs.Usage.{usage_line}
use Rattle.command_runs.specs.Fates.{Fate, IsRunOf, MayWrite}
use Rattle.command_runs.specs.Fates.Left.{Kept}
use Rattle.command_runs.specs.Runs.{Run}
use Rattle.command_runs.specs.declared.status.Status.TheVariants as status
use Rattle.gen_command.specs.Command.{IsGenRun}
use Rattle.prove_command.specs.Command.{IsProveRun}
use Rattle.check_command.specs.Command.{IsCheckRun}
use Rattle.upgrade_command.specs.Command.{IsUpgradeRun}
use Rattle.trim_command.specs.Command.{IsTrimRun}
use Rattle.fix_command.specs.Command.{IsFixRun}
use Rattle.at_command.specs.Command.{IsAtRun}
use Rattle.batch_command.specs.Command.{IsBatchRun}
use Rattle.fx_top.specs.Commands.{Command}
use Rattle.fx_top.specs.Commands.Command.{Prove, Check, Gen, Upgrade, Fix, At, Trim, Batch}

-- words that ask for nothing have the usage line
abbrev pub UsageFate : Fate
UsageFate status.Usage lines left = (lines ≡ usage_line) × (left ≡ Kept)
UsageFate s lines left = ⊥

-- The run is one of the command, or of none.
abbrev pub IsRun : Option Command → Run → Type 0
IsRun None r = IsRunOf None (λ name. ⊥) MayWrite UsageFate r
IsRun (Some (Prove a)) r = IsProveRun a r
IsRun (Some (Check a)) r = IsCheckRun a r
IsRun (Some (Gen n)) r = IsGenRun n r
IsRun (Some (Upgrade a)) r = IsUpgradeRun a r
IsRun (Some (Fix a)) r = IsFixRun a r
IsRun (Some (At a)) r = IsAtRun a r
IsRun (Some (Trim a)) r = IsTrimRun a r
IsRun (Some (Batch a)) r = IsBatchRun a r
