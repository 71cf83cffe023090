-- What `prove` comes to: its lines, and the certificate that it writes.
use Rattle.std.specs.Prelude.{◌≡◌, ◌≤◌, ◌⊎◌, ◌^◌, List, length, Option, Some, None}
use Rattle.goals.specs.declared.line.Line.{Line}
use Rattle.script_grammar.specs.Spells.{View}
use Rattle.settler.specs.Answers.{Options}
use Rattle.command_line.specs.Reading.{Asked}
use Rattle.command_runs.specs.Runs.{Bytes, Run, IsSilent, WriteFailed}
use Rattle.command_runs.specs.Fates.{Left, Fate, Makes, OfText, OrUnread, IsKeptFile, MayWrite}
use Rattle.command_runs.specs.Fates.{IsRunOf}
use Rattle.command_runs.specs.Fates.Left.{Kept}
use Rattle.command_runs.specs.declared.status.Status.TheVariants as status
use Rattle.script_answers.specs.Answers.{IsAnswered, ProvePrints, options_of}
use Rattle.cert_writer.specs.Written.{AreWrittenFor}

-- A write of the folder failed, or memory ran out, and the sink took nothing.
pub record IsCutOff (r : Run) : Type 0 where
  pub silent : IsSilent r
  pub why : ((r.status ≡ status.WriteFault) × WriteFailed r) ⊎ (r.status ≡ status.OutOfMemory)

-- The bytes are accepted for the script with these lines, and spell their items in version 2. There
-- are 2^44 of them at most, unless this is so of their writing.
pub record IsCertificateOf (cut : Type 0) (s : View) (shown : List Line)
    (bytes : Bytes) : Type 0 where
  pub written : AreWrittenFor s bytes shown
  pub short : cut ⊎ (length bytes ≤ 2 ^ 44)

-- where a file is asked for, it has such bytes whole; where none is, nothing is written
abbrev pub MakesFor : Option Bytes → (Bytes → Type 0) → Left → Type 0
MakesFor None P left = left ≡ Kept
MakesFor (Some name) P left = Makes P left

-- How a text is answered: its status and lines, and what is left in the file for the certificate.
-- One script has both: the lines show what the certificate is accepted with.
abbrev pub TextFate : Type 0 → Option Bytes → Options → Bytes → Fate
TextFate cut cert o text status.Answered lines left = (d : IsAnswered o text lines)
    × MakesFor cert (IsCertificateOf cut d.script d.shown) left
TextFate cut cert o text s lines left = ProvePrints o text s lines × (left ≡ Kept)

-- How the script is answered, by one text that is told or may be behind its name.
abbrev pub ProveTold : Asked → Run → Fate
ProveTold a r s lines left = OfText r.before.told a.script
    (λ text. TextFate (IsCutOff r) a.cert (options_of a) text s lines left)

-- That, or the line of a read fault of the script.
abbrev pub ProveFate : Asked → Run → Fate
ProveFate a r = OrUnread (λ name. name ≡ a.script) IsKeptFile r (ProveTold a r)

-- All that is said of a run of `prove`: it reads the script, and may write the certificate.
abbrev pub IsProveRun : Asked → Run → Type 0
IsProveRun a r = IsRunOf a.cert (λ name. name ≡ a.script) MayWrite (ProveFate a r) r
