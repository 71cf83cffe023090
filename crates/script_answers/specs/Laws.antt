-- One answer is defined for a text.
use Rattle.std.specs.Prelude.{◌≡◌, ℕ}
use Rattle.settler.specs.Answers.{Options}
use Rattle.command_runs.specs.Runs.{Bytes}
use Rattle.command_runs.specs.declared.status.Status.{Status}
use Rattle.script_answers.specs.Answers.{ProvePrints, MadePrints}

-- A text has one status and one text of lines at most, under given options.
abbrev pub TextAnswersAreOne : Type 0
TextAnswersAreOne = (o : Options) (text : Bytes) (s t : Status) (lines others : Bytes)
    → ProvePrints o text s lines → ProvePrints o text t others → (s ≡ t) × (lines ≡ others)

-- A degree has one status and one text of lines at most.
abbrev pub MadeAnswersAreOne : Type 0
MadeAnswersAreOne = (n : ℕ) (s t : Status) (lines others : Bytes)
    → MadePrints n s lines → MadePrints n t others → (s ≡ t) × (lines ≡ others)
