-- One answer is defined for a text and a certificate, and those that are accepted are trimmed.
use Rattle.std.specs.Prelude.{◌≡◌, ◌≤◌, ◌^◌, List, length, Option, Some}
use Rattle.cert_bytes.specs.declared.item.Item.{Item}
use Rattle.cert_bytes.specs.Certificates.{SpellsCertificate}
use Rattle.command_runs.specs.Runs.{Bytes}
use Rattle.command_runs.specs.Fates.{Left}
use Rattle.command_runs.specs.Fates.Left.{Whole}
use Rattle.command_runs.specs.declared.status.Status.{Status}
use Rattle.check_command.specs.Checked.{IsAcceptable}
use Rattle.check_command.specs.Laws.{IsCertTold}
use Rattle.trim_command.specs.Trimmed.{IsTrimmed, TrimPrints, new_bytes, line_of}

-- A text and a told certificate have one status, one text of lines and one new file at most.
abbrev pub TrimAnswersAreOne : Type 0
TrimAnswersAreOne = (text : Bytes) (cert : Option Bytes) → IsCertTold text cert
    → (s t : Status) (lines others : Bytes) (left rest : Left) → TrimPrints text cert s lines left
    → TrimPrints text cert t others rest → (s ≡ t) × (lines ≡ others) × (left ≡ rest)

-- Told bytes that are accepted for a script are trimmed, where what is written isn't too long.
abbrev pub AcceptableAreTrimmed : Type 0
AcceptableAreTrimmed = (text all : Bytes) (items : List Item) → IsAcceptable text all
    → SpellsCertificate all items → length (new_bytes items) ≤ 2 ^ 44
    → IsTrimmed text (Some all) (line_of items) (Whole (Some (new_bytes items)))
