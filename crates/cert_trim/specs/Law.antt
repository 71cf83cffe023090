-- Acceptance and lines don't depend on steps that no other item cites.
use Rattle.std.specs.Prelude.{◌≡◌, ℕ, Bool, List, Some}
use Rattle.std.specs.List.{AllByRecursion}
use Rattle.goals.specs.declared.line.Line.{Line}
use Rattle.cert_bytes.specs.Certificates.{HasSpelling}
use Rattle.cert_bytes.specs.declared.item.Item.{Item}
use Rattle.cert_bytes.specs.declared.order.DueItem.TheVariants.{Head}
use Rattle.cert_checker.specs.declared.subject.Subject.{Subject}
use Rattle.cert_checker.specs.Contexts.{Context, first}
use Rattle.cert_checker.specs.Accepted.{LeadsTo, Accepts, AreInOrder}
use Rattle.cert_trim.specs.Trimmed.{trimmed_by}
use Rattle.cert_trim.specs.Used.{AreEnough, AreAllUsed, CiteEarlier, trimmed}

-- Items in order with which nothing is wrong lead to the same lines and the same case without any
-- steps that no item which stays cites.
abbrev pub TrimmedAreAccepted : Type 0
TrimmedAreAccepted = (used : ℕ → Bool) (s : Subject) (items : List Item) (end : Context)
    → AreEnough used 0 items → AreInOrder (Some Head) items → LeadsTo s (first s) items end
    → (other : Context) × LeadsTo s (first s) (trimmed_by used 0 items) other
    × (other.lines ≡ end.lines) × (other.case ≡ end.case)

-- Items that are accepted are accepted without unused steps, with the same lines.
abbrev pub AcceptsTrimmed : Type 0
AcceptsTrimmed = (s : Subject) (items : List Item) (lines : List Line)
    → Accepts s items lines → Accepts s (trimmed items) lines

-- Of items with which nothing is wrong, each step that is left is used.
abbrev pub AllLeftAreUsed : Type 0
AllLeftAreUsed = (s : Subject) (items : List Item) (end : Context)
    → LeadsTo s (first s) items end → AreAllUsed (trimmed items)

-- Items with which nothing is wrong cite earlier steps alone.
abbrev pub LedCiteEarlier : Type 0
LedCiteEarlier = (s : Subject) (items : List Item) (end : Context)
    → LeadsTo s (first s) items end → CiteEarlier 0 items

-- Items that have spellings have them without unused steps, too.
abbrev pub SpelledStaySo : Type 0
SpelledStaySo = (items : List Item)
    → AllByRecursion HasSpelling items → AllByRecursion HasSpelling (trimmed items)

-- For some subject nothing is wrong with any of the items.
abbrev pub AreLedBySome : List Item → Type 0
AreLedBySome items = (s : Subject) × (end : Context) × LeadsTo s (first s) items end

-- Who accepts the first items accepts the others, with the same lines.
abbrev pub AreAcceptedAlike : List Item → List Item → Type 0
AreAcceptedAlike items others = (s : Subject) (lines : List Line)
    → Accepts s items lines → Accepts s others lines
