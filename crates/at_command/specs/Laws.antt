-- One answer is defined for a text and a point, and what the last line says is so.
use Rattle.std.specs.Prelude.{◌≡◌, List, Option, Some, codes}
use Rattle.script_grammar.specs.Spells.{View, Spells}
use Rattle.script_meets.specs.Meets.{Meets}
use Rattle.point_values.specs.Rows.{Row, assignment_of}
use Rattle.point_eval.specs.Judged.{EndsIn}
use Rattle.command_runs.specs.Runs.{Bytes}
use Rattle.command_runs.specs.declared.status.Status.{Status}
use Rattle.at_command.specs.Told.{AtPrints, IsEvaluated}

-- the point's bytes are told wherever the text spells a script
abbrev pub IsPointTold : Bytes → Option Bytes → Type 0
IsPointTold text known = (s : View) → Spells text s → (all : Bytes) × (known ≡ Some all)

-- A text and a told point have one status and one text of lines at most.
abbrev pub AtAnswersAreOne : Type 0
AtAnswersAreOne = (text : Bytes) (known : Option Bytes) → IsPointTold text known
    → (s t : Status) (lines others : Bytes) → AtPrints text known s lines
    → AtPrints text known t others → (s ≡ t) × (lines ≡ others)

-- Where the last line says that the point meets, its assignment meets the script.
abbrev pub MeetingIsMet : Type 0
MeetingIsMet = (s : View) (rows : List Row) (lines : Bytes) → IsEvaluated s rows lines
    → EndsIn lines (codes "point: meets\n") → Meets (assignment_of rows) s
