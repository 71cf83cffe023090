-- What `upgrade` prints and leaves.
use Rattle.std.specs.Prelude.{◌≡◌, ◌⊎◌, ⊤, List, Option, Some, None}
use Rattle.cert_bytes.specs.declared.fault.CertFault.{CertFault}
use Rattle.cert_bytes.specs.declared.item.Item.{Item}
use Rattle.cert_bytes.specs.Certificates.{AreCertificate}
use Rattle.cert_bytes.specs.ReadOut.{HasFault}
use Rattle.cert_bytes.specs.Spelling.{certificate_of}
use Rattle.cert_bytes.specs.Styles.{seen_in}
use Rattle.command_line.specs.Upgrade.{AskedUpgrade}
use Rattle.command_runs.specs.Fates.{Left, Fate, OrUnread, IsRunOf, MayWrite, WhereTold}
use Rattle.command_runs.specs.Fates.Left.{Kept, Whole, Begun}
use Rattle.command_runs.specs.Runs.{Bytes, Told, Run}
use Rattle.command_runs.specs.declared.status.Status.{Status}
use Rattle.command_runs.specs.declared.status.Status.TheVariants as status
use Rattle.report.specs.Certificates.{cert_fault_line, new_too_long_line, upgraded_line}
use Rattle.cert_upgrade.specs.Answers.{MayBecome, IsTooLong}

-- These are the items that the bytes spell, whose spelling in version 2 isn't too long; where the
-- bytes aren't told, some certificate's items.
abbrev pub MayBecomeOf : Option Bytes → List Item → Type 0
MayBecomeOf None items = AreCertificate items
MayBecomeOf (Some all) items = MayBecome all items

-- the new file holds what it held, or a front of what the items spell in version 2
abbrev pub IsBegunOf : Option Bytes → Left → Type 0
IsBegunOf known left = (left ≡ Kept)
    ⊎ ((items : List Item) × MayBecomeOf known items × (left ≡ Begun (Some (certificate_of items))))

-- How much was rewritten, and the new file holds just that in version 2; or the first fault of the
-- bytes, or that their items' spelling in version 2 is too long, and the new file is as it was.
-- (Bytes that aren't told may have a fault at the second reading.)
abbrev pub UpgradeTold : AskedUpgrade → Told → Fate
UpgradeTold a told status.Answered lines left = (items : List Item)
    × MayBecomeOf (told a.cert) items × (lines ≡ upgraded_line (seen_in items))
    × (left ≡ Whole (Some (certificate_of items)))
UpgradeTold a told status.Certificate lines left =
    ((f : CertFault) × WhereTold (told a.cert) (λ all. HasFault all f)
    × (lines ≡ cert_fault_line f)
    × ((left ≡ Kept) ⊎ ((told a.cert ≡ None) × IsBegunOf None left)))
    ⊎ (WhereTold (told a.cert) IsTooLong × (lines ≡ new_too_long_line) × (left ≡ Kept))
UpgradeTold a told _ lines left = ⊥

-- The certificate alone is read. The new file may be begun at a read fault: of the second reading.
abbrev pub UpgradeFate : AskedUpgrade → Run → Fate
UpgradeFate a r = OrUnread (λ name. name ≡ a.cert) (IsBegunOf (r.before.told a.cert)) r
    (UpgradeTold a r.before.told)

-- The new file may be written at these ends too: a read fault, and a fault of bytes that aren't
-- told.
abbrev pub MayRewrite : Option Bytes → Status → Type 0
MayRewrite known status.ReadFault = ⊤
MayRewrite known status.Certificate = known ≡ None
MayRewrite known s = MayWrite s

-- a run of `upgrade`
abbrev pub IsUpgradeRun : AskedUpgrade → Run → Type 0
IsUpgradeRun a r = IsRunOf (Some a.new) (λ name. name ≡ a.cert)
    (MayRewrite (r.before.told a.cert)) (UpgradeFate a r) r
