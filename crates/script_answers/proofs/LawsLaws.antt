-- Laws of what specs/Laws defines.
use Rattle.std.specs.Prelude.{◌≡◌, ℕ, refl}
use Rattle.settler.specs.Answers.{Options}
use Rattle.command_runs.specs.Runs.{Bytes}
use Rattle.command_runs.specs.Fates.{ending}
use Rattle.command_runs.specs.Fates.Ending.{Done}
use Rattle.command_runs.specs.declared.status.Status.{Status}
use Rattle.command_runs.specs.declared.status.Status.TheVariants as status
use Rattle.script_answers.specs.Answers.{ProvePrints, MadePrints}

-- ---- such a run comes to its end
pub prints_done : (o : Options) (text : Bytes) (s : Status) (lines : Bytes)
    → ProvePrints o text s lines → ending s ≡ Done
prints_done o text status.WriteFault lines p = absurd p
prints_done o text status.OutOfMemory lines p = absurd p
prints_done o text _ lines p = refl

pub made_done : (n : ℕ) (s : Status) (lines : Bytes) → MadePrints n s lines → ending s ≡ Done
made_done n status.WriteFault lines p = absurd p
made_done n status.OutOfMemory lines p = absurd p
made_done n _ lines p = refl
