-- What is read is what was spelled, and bytes spell items or have one first fault.
use Rattle.std.specs.Prelude.{◌≡◌, ◌≤◌, ◌<◌, ◌⊎◌, ◌++◌, [], ◌∷◌, ℕ, List, length, Some, Ok, Err}
use Rattle.std.specs.List.{AllByRecursion}
use Rattle.cert_bytes.specs.declared.fault.CertFault.{CertFault}
use Rattle.cert_bytes.specs.declared.item.Item.{Item}
use Rattle.cert_bytes.specs.declared.style.Style.{Style}
use Rattle.cert_bytes.specs.declared.style.Style.TheVariants.{First}
use Rattle.cert_bytes.specs.Styles.{style_after, IsStyleFor}
use Rattle.cert_bytes.specs.declared.order.DueItem.{DueItem}
use Rattle.cert_bytes.specs.declared.order.DueItem.TheVariants.{Head, Done}
use Rattle.cert_bytes.specs.Due.{due_after, due_behind}
use Rattle.cert_bytes.specs.Certificates.{HasSpelling, Fits, SpellsCertificate}
use Rattle.cert_bytes.specs.Reading.{Cursor, cursor, item_at}
use Rattle.cert_bytes.specs.Spelling as spell

-- numbers that are bytes
abbrev pub AreBytes : List ℕ → Type 0
AreBytes bytes = AllByRecursion (λ b. b < 256) bytes

-- An item that was read is one that is due, and its spelling is what stands between the two places.
pub record IsRead (d : DueItem) (c next : Cursor) (i : Item) : Type 0 where
  pub style : Style
  pub is_style : IsStyleFor d c.style style
  pub styled : next.style ≡ style_after style i
  pub due : due_after d i ≡ Some (due_behind d i)
  pub spelling : HasSpelling i
  pub fits : Fits i
  pub bytes : c.rest ≡ spell.spelling i style ++ next.rest
  pub behind : AreBytes next.rest

-- Before the end was read, an item that is read of bytes is one that is due, with its spelling.
abbrev pub ItemsReadOut : Type 0
ItemsReadOut = (d : DueItem) (c next : Cursor) (i : Item) → AreBytes c.rest → ¬ (d ≡ Done)
    → item_at d c ≡ Ok (i, next) → IsRead d c next i

-- What is due behind an item that is due, as a function.
abbrev pub DueBehind : Type 0
DueBehind = (d : DueItem) (i : Item) (e : DueItem) → due_after d i ≡ Some e
    → due_after d i ≡ Some (due_behind d i)

-- ---- whole certificates

-- These items are read one after the other, to the end.
abbrev pub AreRead : DueItem → Cursor → List Item → Type 0
AreRead d c [] = d ≡ Done
AreRead d c (i ∷ items) = (next : Cursor) × (item_at d c ≡ Ok (i, next)) × (¬ (d ≡ Done))
    × AreRead (due_behind d i) next items

-- These items are read, and then the fault is met.
abbrev pub FailsBehind : DueItem → Cursor → List Item → CertFault → Type 0
FailsBehind d c [] f = item_at d c ≡ Err f
FailsBehind d c (i ∷ items) f = (next : Cursor) × (item_at d c ≡ Ok (i, next)) × (¬ (d ≡ Done))
    × FailsBehind (due_behind d i) next items f

-- the first fault of the bytes; which version they have stands in them
abbrev pub HasFault : List ℕ → CertFault → Type 0
HasFault bytes f = (items : List Item) × FailsBehind Head (cursor First bytes 0) items f

-- Items that are read to the end are those that the bytes spell.
abbrev pub ReadsAreSpelled : Type 0
ReadsAreSpelled = (bytes : List ℕ) (items : List Item) → AreBytes bytes
    → AreRead Head (cursor First bytes 0) items → SpellsCertificate bytes items

-- What is spelled is read to the end, as far as byte 2^44 isn't asked for.
abbrev pub SpelledAreRead : Type 0
SpelledAreRead = (bytes : List ℕ) (items : List Item) → length bytes ≤ 17592186044416
    → SpellsCertificate bytes items → AreRead Head (cursor First bytes 0) items

-- Bytes spell items or have a fault,
abbrev pub SpellOrFail : Type 0
SpellOrFail = (bytes : List ℕ) → AreBytes bytes
    → ((items : List Item) × SpellsCertificate bytes items) ⊎ ((f : CertFault) × HasFault bytes f)

-- never both,
abbrev pub NeverBoth : Type 0
NeverBoth = (bytes : List ℕ) (items : List Item) (f : CertFault) → length bytes ≤ 17592186044416
    → SpellsCertificate bytes items → HasFault bytes f → ⊥

-- and one fault at most.
abbrev pub OneFault : Type 0
OneFault = (bytes : List ℕ) (f g : CertFault) → HasFault bytes f → HasFault bytes g → f ≡ g
