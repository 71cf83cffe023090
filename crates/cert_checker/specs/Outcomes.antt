-- What comes of a certificate's bytes: they are accepted, or this is the first fault in the order
-- of reading.
use Rattle.std.specs.Prelude.{◌≡◌, ◌≤◌, ℕ, List, [], ◌∷◌, length, Some, None, Ok, Err}
use Rattle.fx_model.specs.Expression.{Assignment, IsOrdered}
use Rattle.goals.specs.declared.line.Line.{Line}
use Rattle.cert_bytes.specs.declared.fault.CertFault.{CertFault}
use Rattle.cert_bytes.specs.declared.item.Item.{Item}
use Rattle.cert_bytes.specs.declared.order.DueItem.{DueItem}
use Rattle.cert_bytes.specs.declared.order.DueItem.TheVariants.{Head, Done}
use Rattle.cert_bytes.specs.declared.style.Style.TheVariants.{First}
use Rattle.cert_bytes.specs.Due.{due_behind}
use Rattle.cert_bytes.specs.Certificates.{SpellsCertificate}
use Rattle.cert_bytes.specs.Reading.{Cursor, cursor, item_at}
use Rattle.cert_bytes.specs.ReadOut.{AreBytes}
use Rattle.cert_checker.specs.declared.fault.CheckFault.{CheckFault}
use Rattle.cert_checker.specs.declared.subject.Subject.{Subject}
use Rattle.cert_checker.specs.Contexts.{Context, first}
use Rattle.cert_checker.specs.Faults.{JudgesItem}
use Rattle.cert_checker.specs.After.{after}
use Rattle.cert_checker.specs.Accepted.{Accepts}
use Rattle.cert_checker.specs.Met.{NamesNodes, Meets, LinesHold}

-- All is read and nothing is wrong, with what it comes to; the bytes have a fault; or an item has
-- one.
pub data Outcome : Type 0 where
  accepted : Context → Outcome
  unread : CertFault → Outcome
  refused : CheckFault → Outcome

-- Where an item is due, no item is read or something is wrong with it; or none is due any more.
abbrev pub StopsAt : Subject → DueItem → Cursor → Context → Outcome → Type 0
StopsAt s d p c (accepted end) = (d ≡ Done) × (c ≡ end)
StopsAt s d p c (unread f) = item_at d p ≡ Err f
StopsAt s d p c (refused f) = (i : Item) × (q : Cursor) × (item_at d p ≡ Ok (i, q))
    × JudgesItem s c i (Some f)

-- Where items are due, these are read and nothing is wrong with them, and then reading and judging
-- stop so.
abbrev pub Comes : Subject → DueItem → Cursor → Context → List Item → Outcome → Type 0
Comes s d p c [] o = StopsAt s d p c o
Comes s d p c (i ∷ items) o = ¬ (d ≡ Done) × ((q : Cursor) × (item_at d p ≡ Ok (i, q))
    × JudgesItem s c i None × Comes s (due_behind d i) q (after c i) items o)

-- What comes of the bytes from their begin.
abbrev pub ComesOf : Subject → Cursor → Outcome → Type 0
ComesOf s p o = (items : List Item) × Comes s Head p (first s) items o

-- One thing comes of bytes.
abbrev pub ComesOnce : Type 0
ComesOnce = (s : Subject) (p : Cursor) (o other : Outcome) → ComesOf s p o
    → ComesOf s p other → o ≡ other

-- Where bytes are accepted, each line holds of every assignment that meets the subject, whoever
-- wrote them.
abbrev pub CheckedHolds : Type 0
CheckedHolds = (s : Subject) (p : Cursor) (end : Context)
    → IsOrdered s.nodes → NamesNodes s → ComesOf s p (accepted end)
    → (a : Assignment) → Meets s a → LinesHold s.nodes a s.goals end.lines

-- What comes of bytes from their first one, where they are accepted: they spell a certificate,
-- which is accepted with these lines.
abbrev pub AcceptedAreSpelled : Type 0
AcceptedAreSpelled = (s : Subject) (bytes : List ℕ) (end : Context)
    → AreBytes bytes → ComesOf s (cursor First bytes 0) (accepted end)
    → (items : List Item) × SpellsCertificate bytes items × Accepts s items end.lines

-- A certificate that is accepted is read and accepted, as far as byte 2^44 isn't asked for.
abbrev pub SpelledAreAccepted : Type 0
SpelledAreAccepted = (s : Subject) (bytes : List ℕ) (items : List Item) (lines : List Line)
    → length bytes ≤ 17592186044416 → SpellsCertificate bytes items → Accepts s items lines
    → (end : Context) × ComesOf s (cursor First bytes 0) (accepted end) × (end.lines ≡ lines)
