-- The first refusal of a text.
use Rattle.std.specs.Prelude.{◌≡◌, ℕ, ◌==◌, ◌&&◌, ◌||◌, nat_lt, List, length, Option, Some, None}
use Rattle.std.specs.Prelude.{Bool, if◌then◌else◌}
use Rattle.script_judge.specs.declared.refusal.Refusal.{Refusal}
use Rattle.script_judge.specs.declared.refusal.RefusalKind.{RefusalKind}
use Rattle.script_judge.specs.declared.refusal.RefusalKind.TheVariants as kind
use Rattle.script_judge.specs.declared.fault.Fault.{Fault}
use Rattle.script_judge.specs.Reading.{Reading, IsReadable, IsReadingOf, IsTextRefusal, IsFaultOf}
use Rattle.script_judge.specs.Reading.{at_word, fault}
use Rattle.script_judge.specs.Said.{Said, Says}
use Rattle.script_judge.specs.Judge.{Judged, nothing_seen}

-- the number of a kind in the table of refusals
abbrev pub number : RefusalKind → ℕ
number kind.NotText = 1
number kind.BadToken = 2
number kind.Unexpected = 3
number kind.FormulaForm = 4
number kind.UnsupportedOperator = 5
number kind.NameUsed = 6
number kind.BadBound = 7
number kind.SplitRange = 8
number kind.BadSplit = 9
number kind.LiteralLimit = 10
number (kind.Limit k) = 11

-- a lower byte, or the same with the lower number
abbrev pub is_before : Refusal → Refusal → Bool
is_before one other =
    nat_lt one.at other.at || (one.at == other.at && nat_lt (number one.kind) (number other.kind))

-- the first of two refusals
abbrev pub first_of : Option Refusal → Option Refusal → Option Refusal
first_of None other = other
first_of (Some one) None = Some one
first_of (Some one) (Some other) = if is_before other one then Some other else Some one

-- the refusal of a judged word
abbrev pub refusal_of : Reading → Option Fault → Option Refusal
refusal_of r None = None
refusal_of r (Some f) = Some (at_word r.tokens f)

-- The first refusal: of the bytes, else the first of that at which the reading ends and that of the
-- words before it. These are judged by what their formula says.
pub data IsFirstRefusal : List ℕ → Option Refusal → Type 0 where
  unread : {text : List ℕ} {r : Refusal} → IsTextRefusal text (Some r)
      → IsFirstRefusal text (Some r)
  read : {text : List ℕ} {r : Reading} {said : Option Said} {found : Option Fault}
      → IsReadable text → IsReadingOf text r → Says r.leaves said
      → Judged 0 (nothing_seen said) r.leaves found
      → IsFirstRefusal text (first_of (fault (length text) r) (refusal_of r found))

-- A text has one answer of each.
abbrev pub FaultsAreUnique : Type 0
FaultsAreUnique = (text : List ℕ) (a b : Option Refusal) → IsFaultOf text a
    → IsFaultOf text b → a ≡ b

-- A text has one first refusal.
abbrev pub FirstsAreUnique : Type 0
FirstsAreUnique = (text : List ℕ) (a b : Option Refusal) → IsFirstRefusal text a
    → IsFirstRefusal text b → a ≡ b
