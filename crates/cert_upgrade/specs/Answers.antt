-- What comes of a certificate that is to be rewritten.
use Rattle.std.specs.Prelude.{◌≡◌, ◌≤◌, ◌<◌, ◌⊎◌, ⊤, ℕ, List, length, Option, Some, Result, Ok, Err}
use Rattle.std.specs.Prelude.{IsErrOf}
use Rattle.std.specs.Io.KnownBytes.{Appends}
use Rattle.fx_edge.specs.Outside.{Rose}
use Rattle.cert_bytes.specs.declared.item.Item.{Item}
use Rattle.cert_bytes.specs.declared.style.Seen.{Seen}
use Rattle.cert_bytes.specs.Certificates.{AreCertificate}
use Rattle.cert_bytes.specs.ReadOut.{HasFault}
use Rattle.cert_bytes.specs.Spelling.{certificate_of}
use Rattle.cert_bytes.specs.Styles.{seen_in}
use Rattle.whole_texts.specs.Pieces.{AppendsFront}
use Rattle.cert_upgrade.specs.declared.stop.UpgradeStop.{UpgradeStop}
use Rattle.cert_upgrade.specs.declared.stop.UpgradeStop.TheVariants.{Fault, NewTooLong, ReadFailed}
use Rattle.cert_upgrade.specs.declared.stop.UpgradeStop.TheVariants.{WriteFailed, OutOfMemory}
use Rattle.cert_upgrade.specs.Files.{Holds, HoldsFront}
use Rattle.cert_upgrade.specs.Items.{AreItemsFor, AreItemsOf}
use Rattle.cert_upgrade.specs.Spelled.{most}

-- The bytes spell these items, whose spelling in version 2 isn't too long.
pub record MayBecome (all : List ℕ) (items : List Item) : Type 0 where
  pub are : AreItemsOf all items
  pub short : length (certificate_of items) ≤ most

-- The new file holds exactly the spelling of the items in version 2, and so many steps and sections
-- they have.
pub record IsUpgraded (all : List ℕ) (counts : Seen) (old new : Option (List ℕ)) : Type 0 where
  pub items : List Item
  pub may : MayBecome all items
  pub counts_are : counts ≡ seen_in items
  pub holds : Holds (certificate_of items) old new

-- The bytes spell items, whose spelling in version 2 is too long.
abbrev pub IsTooLong : List ℕ → Type 0
IsTooLong all = (items : List Item) × AreItemsOf all items
    × (most < length (certificate_of items))

-- The new file holds what it held, or, if its items may be written, a front of their spelling in
-- version 2.
abbrev pub IsBrokenOff : List ℕ → Option (List ℕ) → Option (List ℕ) → Type 0
IsBrokenOff all old new = (new ≡ old)
    ⊎ ((items : List Item) × MayBecome all items × HoldsFront (certificate_of items) old new)

-- There are such items, and the new file holds what it held, or a front of their spelling in
-- version 2.
abbrev pub IsUnwritten : (List Item → Type 0) → Option (List ℕ) → Option (List ℕ) → Type 0
IsUnwritten P old new = (items : List Item) × P items
    × ((new ≡ old) ⊎ HoldsFront (certificate_of items) old new)

-- Of bytes that are told, in the order in which it is judged: their first fault, or that the new
-- spelling is too long; then the new file is what it was. Otherwise it is written.
abbrev pub ComesOf : List ℕ → Option (List ℕ) → Option (List ℕ) → Result Seen UpgradeStop → Type 0
ComesOf all old new (Err (Fault f)) = HasFault all f × (new ≡ old)
ComesOf all old new (Err NewTooLong) = IsTooLong all × (new ≡ old)
ComesOf all old new (Ok counts) = IsUpgraded all counts old new
ComesOf all old new (Err ReadFailed) = IsBrokenOff all old new
ComesOf all old new (Err WriteFailed) = IsUnwritten (MayBecome all) old new
ComesOf all old new (Err OutOfMemory) = IsBrokenOff all old new

-- The new file holds what it held, or a front of what some certificate's items spell in version 2.
abbrev pub IsSomeFront : Option (List ℕ) → Option (List ℕ) → Type 0
IsSomeFront old new = (new ≡ old)
    ⊎ ((items : List Item) × AreCertificate items × HoldsFront (certificate_of items) old new)

-- Whatever the bytes are, told or not: the new file holds what some certificate's items spell in
-- version 2, and the counts are theirs; where it wasn't written whole, what it held or a front of
-- that. (Bytes that aren't told may be others at the second reading.)
abbrev pub ComesOfAny : Option (List ℕ) → Option (List ℕ) → Result Seen UpgradeStop → Type 0
ComesOfAny old new (Ok counts) = (items : List Item) × AreCertificate items
    × (counts ≡ seen_in items) × Holds (certificate_of items) old new
ComesOfAny old new (Err NewTooLong) = new ≡ old
ComesOfAny old new (Err WriteFailed) = IsUnwritten AreCertificate old new
ComesOfAny old new (Err _) = IsSomeFront old new

-- ---- of the second reading

-- The file took what a certificate's items spell in version 2, those of the bytes where these are
-- told, and so many steps and sections they have.
pub record IsTaken (told : Option (List ℕ)) (counts : Seen) (before after : Option (List ℕ))
    : Type 0 where
  pub items : List Item
  pub items_are : AreItemsFor told items
  pub counts_are : counts ≡ seen_in items
  pub took : Appends before after (certificate_of items)

-- It took a front of that. Bytes that are told are those of these items, of which there are no
-- others.
pub record IsTakenInPart (told : Option (List ℕ)) (before after : Option (List ℕ)) : Type 0 where
  pub of_told : (all : List ℕ) (items : List Item) → told ≡ Some all → AreItemsOf all items
      → AppendsFront before after (certificate_of items)
  pub of_some : (items : List Item) × AreCertificate items
      × AppendsFront before after (certificate_of items)

-- A result of the second reading: the file took all, or the folder or memory broke it off.
abbrev pub IsBroken : Result Seen UpgradeStop → Type 0
IsBroken (Err (Fault f)) = ⊥
IsBroken (Err NewTooLong) = ⊥
IsBroken _ = ⊤

-- A count of faults doesn't fall, and the call is broken off so only where it rose.
pub record HasCauseOf {T : Type 0} (stop : UpgradeStop) (before now : ℕ)
    (result : Result T UpgradeStop) : Type 0 where
  pub later : before ≤ now
  pub failed : IsErrOf result stop → Rose before now
