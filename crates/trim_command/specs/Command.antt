-- What the command `trim` comes to.
use Rattle.std.specs.Prelude.{◌≡◌, ◌≤◌, ◌^◌, List, length, Some}
use Rattle.cert_bytes.specs.declared.item.Item.{Item}
use Rattle.cert_bytes.specs.Certificates.{SpellsCertificate}
use Rattle.command_line.specs.Trim.{AskedTrim}
use Rattle.command_runs.specs.Runs.{Bytes, Told, Run}
use Rattle.command_runs.specs.Fates.{Fate, Comes, IsRunOf, MayWrite, OrUnread, IsKeptFile, OfText}
use Rattle.command_runs.specs.declared.status.Status.TheVariants as status
use Rattle.script_texts.specs.Texts.{ReadsBehind}
use Rattle.check_command.specs.Checked.{IsAcceptable}
use Rattle.trim_command.specs.Trimmed.{TrimPrints, new_bytes}

-- The answer to the script's text and the certificate, with what is left in the new file.
abbrev pub TrimTold : AskedTrim → Told → Fate
TrimTold a told s lines left =
    OfText told a.script (λ text. TrimPrints text (told a.cert) s lines left)

-- The same, or the line of a file that wasn't read: of the certificate only behind a script.
abbrev pub TrimFate : AskedTrim → Run → Fate
TrimFate a r = OrUnread (ReadsBehind r.before.told a.script a.cert) IsKeptFile r
    (TrimTold a r.before.told)

-- A run of `trim`, which writes the new file.
pub record IsTrimRun (a : AskedTrim) (r : Run) : Type 0 where
  pub ends : IsRunOf (Some a.new) (ReadsBehind r.before.told a.script a.cert) MayWrite
      (TrimFate a r) r
  -- where told bytes are accepted for the script of a told text, and what is to be written isn't
  -- too long, they are trimmed
  pub accepted : (text all : Bytes) (items : List Item) → r.before.told a.script ≡ Some text
      → r.before.told a.cert ≡ Some all → IsAcceptable text all → SpellsCertificate all items
      → length (new_bytes items) ≤ 2 ^ 44 → Comes status.Answered r.status
