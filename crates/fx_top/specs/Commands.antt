-- What the words of the command line ask for.
use Rattle.std.specs.Prelude.{⊤, ◌≢◌, ℕ, List, [], ◌∷◌, Option, None, if◌then◌else◌, codes}
use Rattle.std.specs.Option.{option_map}
use Rattle.std.specs.Str.{bytes_eq}
use Rattle.command_line.specs.At.{AskedAt, asked_at, at_of}
use Rattle.command_line.specs.Batch.{AskedBatch, AreInBatchRange, asked_batch, batch_of}
use Rattle.command_line.specs.Check.{AskedCheck, asked_check, check_of}
use Rattle.command_line.specs.Fix.{AskedFix, asked_fix, fix_of}
use Rattle.command_line.specs.Made.{asked_gen}
use Rattle.command_line.specs.Reading.{Asked, AreInRange, asked, asked_of}
use Rattle.command_line.specs.Trim.{AskedTrim, asked_trim, trim_of}
use Rattle.command_line.specs.Upgrade.{AskedUpgrade, asked_upgrade, upgrade_of}
use Rattle.fx_top.specs.declared.wanted.Invocation.{Invocation}
use Rattle.fx_top.specs.declared.wanted.Invocation.TheVariants as wanted

-- One word of the command line, as its bytes.
abbrev pub Bytes : Type 0
Bytes = List ℕ

-- a command with its names, options and numbers
pub data Command : Type 0 where
  Prove : Asked → Command
  Check : AskedCheck → Command
  Gen : ℕ → Command
  Upgrade : AskedUpgrade → Command
  Fix : AskedFix → Command
  At : AskedAt → Command
  Trim : AskedTrim → Command
  Batch : AskedBatch → Command

-- The command that the words spell, or none, which is Usage: the first word names it, and the
-- others are read as its own.
abbrev pub reading : List Bytes → Option Command
reading [] = None
reading (command ∷ words) =
    if bytes_eq command (codes "prove") then option_map Prove (asked words)
    else (if bytes_eq command (codes "check") then option_map Check (asked_check words)
    else (if bytes_eq command (codes "gen") then option_map Gen (asked_gen words)
    else (if bytes_eq command (codes "upgrade") then option_map Upgrade (asked_upgrade words)
    else (if bytes_eq command (codes "fix") then option_map Fix (asked_fix words)
    else (if bytes_eq command (codes "at") then option_map At (asked_at words)
    else (if bytes_eq command (codes "trim") then option_map Trim (asked_trim words)
    else (if bytes_eq command (codes "batch") then option_map Batch (asked_batch words)
    else None)))))))

-- ---- the code's values
abbrev pub command_from : Invocation → Command
command_from (wanted.Prove request) = Prove (asked_of request)
command_from (wanted.Check request) = Check (check_of request)
command_from (wanted.Gen n) = Gen n
command_from (wanted.Upgrade request) = Upgrade (upgrade_of request)
command_from (wanted.Fix request) = Fix (fix_of request)
command_from (wanted.At request) = At (at_of request)
command_from (wanted.Trim request) = Trim (trim_of request)
command_from (wanted.Batch request) = Batch (batch_of request)

-- the numbers are in their ranges, and the new file of `upgrade` isn't its certificate
abbrev pub IsSound : Invocation → Type 0
IsSound (wanted.Prove request) = AreInRange request
IsSound (wanted.Upgrade request) = request.cert.now ≢ request.new.now
IsSound (wanted.Batch request) = AreInBatchRange request
IsSound _ = ⊤
