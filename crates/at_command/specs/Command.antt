-- What the command `at` comes to.
use Rattle.std.specs.Prelude.{◌≡◌, None}
use Rattle.command_line.specs.At.{AskedAt}
use Rattle.command_runs.specs.Runs.{Told, Run}
use Rattle.command_runs.specs.Fates.{Fate, IsRunOf, MayWrite, OrUnread, IsKeptFile, OfText}
use Rattle.command_runs.specs.Fates.Left.{Kept}
use Rattle.script_texts.specs.Texts.{ReadsBehind}
use Rattle.at_command.specs.Told.{AtPrints}

-- The answer to the script's text and the point; no file is written.
abbrev pub AtTold : AskedAt → Told → Fate
AtTold a told s lines left =
    OfText told a.script (λ text. AtPrints text (told a.point) s lines) × (left ≡ Kept)

-- The same, or the line of a file that wasn't read: of the point only behind a script.
abbrev pub AtFate : AskedAt → Run → Fate
AtFate a r = OrUnread (ReadsBehind r.before.told a.script a.point) IsKeptFile r
    (AtTold a r.before.told)

-- A run of `at`, which writes no file.
abbrev pub IsAtRun : AskedAt → Run → Type 0
IsAtRun a r = IsRunOf None (ReadsBehind r.before.told a.script a.point) MayWrite (AtFate a r) r
