-- What the command `check` comes to.
use Rattle.std.specs.Prelude.{◌≡◌, Some, None}
use Rattle.command_line.specs.Check.{AskedCheck}
use Rattle.command_runs.specs.Runs.{Bytes, Told, Run}
use Rattle.command_runs.specs.Fates.{Fate, Comes, IsRunOf, MayWrite, OrUnread, IsKeptFile, OfText}
use Rattle.command_runs.specs.Fates.Left.{Kept}
use Rattle.command_runs.specs.declared.status.Status.TheVariants as status
use Rattle.script_texts.specs.Texts.{ReadsBehind}
use Rattle.check_command.specs.Checked.{CheckPrints, IsAcceptable}

-- The answer to the script's text and the certificate; no file is written.
abbrev pub CheckTold : AskedCheck → Told → Fate
CheckTold a told s lines left =
    OfText told a.script (λ text. CheckPrints text (told a.cert) s lines) × (left ≡ Kept)

-- The same, or the line of a file that wasn't read: of the certificate only behind a script.
abbrev pub CheckFate : AskedCheck → Run → Fate
CheckFate a r = OrUnread (ReadsBehind r.before.told a.script a.cert) IsKeptFile r
    (CheckTold a r.before.told)

-- A run of `check`, which writes no file.
pub record IsCheckRun (a : AskedCheck) (r : Run) : Type 0 where
  pub ends : IsRunOf None (ReadsBehind r.before.told a.script a.cert) MayWrite (CheckFate a r) r
  -- where told bytes are accepted for the script of a told text, they are answered
  pub accepted : (text all : Bytes) → r.before.told a.script ≡ Some text
      → r.before.told a.cert ≡ Some all → IsAcceptable text all → Comes status.Answered r.status
