-- What the command `gen` comes to.
use Rattle.std.specs.Prelude.{◌≡◌, ℕ, None}
use Rattle.command_runs.specs.Runs.{Run}
use Rattle.command_runs.specs.Fates.{Fate, IsRunOf, MayWrite}
use Rattle.command_runs.specs.Fates.Left.{Kept}
use Rattle.script_answers.specs.Answers.{MadePrints}

-- The answer to the made script of this degree; no file is written.
abbrev pub GenFate : ℕ → Fate
GenFate n s lines left = MadePrints n s lines × (left ≡ Kept)

-- A run of `gen`, which reads no file and writes none.
abbrev pub IsGenRun : ℕ → Run → Type 0
IsGenRun n r = IsRunOf None (λ name. ⊥) MayWrite (GenFate n) r
