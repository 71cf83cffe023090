-- The options that `prove` and `batch` share: numbers, of which each has its default.
use Rattle.std.specs.Prelude.{ℕ, Option, Some, codes}
use Rattle.clap.specs.Words.{App, with_rule}
use Rattle.proof_options.specs.declared.options.Options.{Options}
use Rattle.command_line.specs.Numbers.{number_or}
use Rattle.command_line.specs.Simple.{option_rule, Texts, ◌>>=◌}

-- a command with these options too
abbrev pub with_options : App → App
with_options app =
    with_rule (with_rule (with_rule (with_rule app
    (option_rule (codes "rounds"))) (option_rule (codes "depth")))
    (option_rule (codes "boxes"))) (option_rule (codes "workers"))

-- The options, by the default and the most of the boxes. Nothing, where a number isn't plain
-- decimal in its range; an option that isn't given has its default.
abbrev pub options_from : ℕ → ℕ → Texts → Option Options
options_from default most given = do
  rounds ← number_or 20 1 64 (given (codes "rounds"))
  depth ← number_or 16 0 32 (given (codes "depth"))
  boxes ← number_or default 1 most (given (codes "boxes"))
  workers ← number_or 4 1 16 (given (codes "workers"))
  Some (record { rounds = rounds; depth = depth; boxes = boxes; workers = workers })
