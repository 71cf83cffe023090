-- The items of a certificate under some name, as far as they were read.
use Rattle.std.specs.Prelude.{◌≡◌, ◌≤◌, ◌^◌, ◌++◌, ℕ, List, Bool, true, Option, Some, None, Ok}
use Rattle.cert_bytes.specs.declared.item.Item.{Item}
use Rattle.cert_bytes.specs.declared.order.DueItem.TheVariants.{Head, Done}
use Rattle.cert_bytes.specs.declared.fault.CertFault.{CertFault}
use Rattle.cert_bytes.specs.declared.style.Seen.{Seen}
use Rattle.cert_bytes.specs.declared.style.Style.TheVariants.{First, Second}
use Rattle.cert_bytes.specs.Certificates.{HasSpelling, Fits, AreCertificate, SpellsCertificate}
use Rattle.cert_bytes.specs.Due.{due_after, due_behind}
use Rattle.cert_bytes.specs.Pieces.{cursor_of}
use Rattle.cert_bytes.specs.ReadOut.{AreBytes, AreRead, HasFault}
use Rattle.cert_bytes.specs.Readers.{Progress}
use Rattle.cert_bytes.specs.Reading.{cursor, item_at}
use Rattle.cert_bytes.specs.Styles.{seen_after, IsFew}
use Rattle.cert_bytes.specs.Spelling.{spelling_of}

-- ---- of bytes that are told

-- These are a certificate's items: they are read to the end, in either version; and they are what
-- the bytes spell, each of which is a byte.
pub record AreItemsOf (all : List ℕ) (items : List Item) : Type 0 where
  pub read : AreRead Head (cursor First all 0) items
  pub spelled : AreBytes all → SpellsCertificate all items

-- Bytes have one list of items at most, and none where they have a fault.
pub record ItemsAreOne : Type 0 where
  pub once : (all : List ℕ) (items others : List Item) → AreItemsOf all items
      → AreItemsOf all others → items ≡ others
  pub sound : (all : List ℕ) (items : List Item) (f : CertFault) → AreItemsOf all items
      → HasFault all f → ⊥

-- ---- whatever the bytes are

-- These items are a certificate's, and where the bytes are told they are those of the bytes.
pub record AreItemsFor (told : Option (List ℕ)) (items : List Item) : Type 0 where
  pub are : (all : List ℕ) → told ≡ Some all → AreItemsOf all items
  pub certificate : AreCertificate items

-- ---- of a reader

-- One more item can be read and spelled, where this was seen before it.
pub record CanRespell (seen : Seen) (r : Progress) : Type 0 where
  -- no fault was met, and the end wasn't read
  pub sound : r.fault ≡ None
  pub due : ¬ (r.due ≡ Done)
  -- what was seen has a byte each, and there are at most 2^44
  pub few : IsFew (Second seen) r.ahead.at
  pub within : r.ahead.at ≤ 2 ^ 44

-- A reader of a name whose bytes may be told read one more item, which is the end or isn't, and
-- what that spells in version 2 was added to the bytes.
pub record Respells (told : Option (List ℕ)) (before after : Progress) (seen next : Seen)
    (ended : Bool) (old new : List ℕ) : Type 0 where
  pub item : Item
  pub read : (all : List ℕ) → told ≡ Some all
      → item_at before.due (cursor_of all before.ahead) ≡ Ok (item, cursor_of all after.ahead)
  pub due : after.due ≡ due_behind before.due item
  pub due_is : due_after before.due item ≡ Some after.due
  pub fit : HasSpelling item × Fits item
  pub sound : after.fault ≡ None
  pub bytes : new ≡ old ++ spelling_of seen item
  pub seen_is : next ≡ seen_after seen item
  pub few : IsFew (Second next) after.ahead.at
  pub end : (ended ≡ true → after.due ≡ Done) × (after.due ≡ Done → ended ≡ true)
