-- One answer is defined for a text and a certificate.
use Rattle.std.specs.Prelude.{◌≡◌, Option, Some}
use Rattle.script_grammar.specs.Spells.{View, Spells}
use Rattle.command_runs.specs.Runs.{Bytes}
use Rattle.command_runs.specs.declared.status.Status.{Status}
use Rattle.check_command.specs.Checked.{CheckPrints}

-- the certificate's bytes are told wherever the text spells a script
abbrev pub IsCertTold : Bytes → Option Bytes → Type 0
IsCertTold text cert = (s : View) → Spells text s → (all : Bytes) × (cert ≡ Some all)

-- A text and a told certificate have one status and one text of lines at most.
abbrev pub CheckAnswersAreOne : Type 0
CheckAnswersAreOne = (text : Bytes) (cert : Option Bytes) → IsCertTold text cert
    → (s t : Status) (lines others : Bytes) → CheckPrints text cert s lines
    → CheckPrints text cert t others → (s ≡ t) × (lines ≡ others)
