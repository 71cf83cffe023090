-- What comes of a certificate that is to be rewritten, by the steps of the call.
use Rattle.std.specs.Prelude.{◌≡◌, ◌≤◌, ◌<◌, ◌⊎◌, ℕ, List, [], Option, Some, Result, Ok, Err, IfOk}
use Rattle.std.specs.Prelude.{OnErr, IsErrOf, refl}
use Rattle.std.proofs.Common.{subst, inl, inr, arith}
use Rattle.fx_edge.specs.Outside.{Empties}
use Rattle.cert_bytes.specs.declared.fault.CertFault.{CertFault}
use Rattle.cert_bytes.specs.declared.fault.Stop.{Stop}
use Rattle.cert_bytes.specs.declared.fault.Stop.TheVariants as cert_stop
use Rattle.cert_bytes.specs.declared.item.Item.{Item}
use Rattle.cert_bytes.specs.declared.order.DueItem.TheVariants.{Head}
use Rattle.cert_bytes.specs.declared.style.Seen.{Seen}
use Rattle.cert_bytes.specs.Certificates.{AreCertificate}
use Rattle.cert_bytes.specs.ReadOut.{HasFault}
use Rattle.cert_bytes.specs.Spelling.{certificate_of}
use Rattle.cert_upgrade.specs.declared.stop.UpgradeStop.{UpgradeStop}
use Rattle.cert_upgrade.specs.declared.stop.UpgradeStop.TheVariants.{Fault, NewTooLong, ReadFailed}
use Rattle.cert_upgrade.specs.declared.stop.UpgradeStop.TheVariants.{WriteFailed, OutOfMemory}
use Rattle.cert_upgrade.specs.Answers.{MayBecome, IsUpgraded, IsTooLong, IsBrokenOff, ComesOf}
use Rattle.cert_upgrade.specs.Answers.{IsSomeFront, IsUnwritten, ComesOfAny, IsTaken, IsTakenInPart}
use Rattle.cert_upgrade.specs.Answers.{IsBroken}
use Rattle.cert_upgrade.specs.Items.{AreItemsOf}
use Rattle.cert_upgrade.specs.Spelled.{most, told_length}
use Rattle.cert_upgrade.specs.Stops.{stop_of}
use Rattle.cert_upgrade.proofs.Begun.{some_end}
use Rattle.cert_upgrade.proofs.Held.{appends_new, front_new, not_new}
use Rattle.cert_upgrade.proofs.Read.{items_are_one}

-- ---- the first reading
pub comes_unread : (all : List ℕ) (old new : Option (List ℕ)) (stop : Stop) → new ≡ old
    → ((f : CertFault) → stop ≡ cert_stop.Fault f → HasFault all f)
    → ComesOf all old new (Err (stop_of stop))
comes_unread all old new (cert_stop.Fault f) same fault = (fault f refl, same)
comes_unread all old new cert_stop.Failed same fault = inl same
comes_unread all old new cert_stop.OutOfMemory same fault = inl same

pub any_unread : (old new : Option (List ℕ)) (stop : Stop) → new ≡ old
    → ComesOfAny old new (Err (stop_of stop))
any_unread old new (cert_stop.Fault f) same = inl same
any_unread old new cert_stop.Failed same = inl same
any_unread old new cert_stop.OutOfMemory same = inl same

pub too_long : (all : List ℕ) (items : List Item) (size : ℕ) → AreItemsOf all items
    → size ≡ told_length (certificate_of items) → most < size → IsTooLong all
too_long all items size are e l = (items, are, omega (arith, e, l))

pub may_become : (all : List ℕ) (items : List Item) (size : ℕ) → AreItemsOf all items
    → size ≡ told_length (certificate_of items) → size ≤ most → MayBecome all items
may_become all items size are e l = record { are = are; short = omega (arith, e, l) }

-- ---- the new file couldn't be made
pub comes_unmade : (all : List ℕ) (items : List Item) (old new : Option (List ℕ))
    → MayBecome all items → (new ≡ old) ⊎ (new ≡ Some []) → IsUnwritten (MayBecome all) old new
comes_unmade all items old new may (inl e) = (items, may, inl e)
comes_unmade all items old new may (inr e) =
    (items, may, inr (not_new old new (certificate_of items) e))

pub any_unmade : (old new : Option (List ℕ)) → (new ≡ old) ⊎ (new ≡ Some [])
    → IsUnwritten AreCertificate old new
any_unmade old new (inl e) = let end = some_end Head in (end.0, end.1, inl e)
any_unmade old new (inr e) =
    let end = some_end Head in (end.0, end.1, inr (not_new old new (certificate_of end.0) e))

-- ---- the second reading
written : (all : List ℕ) (items : List Item) (told old fresh new : Option (List ℕ)) (counts : Seen)
    → told ≡ Some all → MayBecome all items → Empties old fresh → IsTaken told counts fresh new
    → IsUpgraded all counts old new
written all items told old fresh new counts is may e t =
    let same = items_are_one.once all items t.items may.are (t.items_are.are all is) in
    record {
      items = t.items;
      may = subst (λ (l : List Item). MayBecome all l) same may;
      counts_are = t.counts_are;
      holds = appends_new old fresh new (certificate_of t.items) e t.took;
    }

broken : (all : List ℕ) (items : List Item) (told old fresh new : Option (List ℕ)) → told ≡ Some all
    → MayBecome all items → Empties old fresh → IsTakenInPart told fresh new
    → IsBrokenOff all old new
broken all items told old fresh new is may e p =
    inr (
      items,
      may,
      front_new old fresh new (certificate_of items) e
          (p.of_told all items is may.are),
    )

pub comes_rewritten : (all : List ℕ) (items : List Item) (told old fresh new : Option (List ℕ))
    (r : Result Seen UpgradeStop) → told ≡ Some all → MayBecome all items → Empties old fresh
    → IfOk r (λ counts. IsTaken told counts fresh new) → OnErr r (IsTakenInPart told fresh new)
    → IsBroken r → ComesOf all old new r
comes_rewritten all items told old fresh new (Ok counts) is may e t p b =
    written all items told old fresh new counts is may e t
comes_rewritten all items told old fresh new (Err (Fault f)) is may e t p b = absurd b
comes_rewritten all items told old fresh new (Err NewTooLong) is may e t p b = absurd b
comes_rewritten all items told old fresh new (Err ReadFailed) is may e t p b =
    broken all items told old fresh new is may e p
comes_rewritten all items told old fresh new (Err WriteFailed) is may e t p b = (
  items,
  may,
  inr (front_new old fresh new (certificate_of items) e (p.of_told all items is may.are)),
)
comes_rewritten all items told old fresh new (Err OutOfMemory) is may e t p b =
    broken all items told old fresh new is may e p

some_front : (told old fresh new : Option (List ℕ)) → Empties old fresh
    → IsTakenInPart told fresh new → IsSomeFront old new
some_front told old fresh new e p =
    let some = p.of_some in
    inr (some.0, some.1, front_new old fresh new (certificate_of some.0) e some.2)

pub any_rewritten : (told old fresh new : Option (List ℕ)) (r : Result Seen UpgradeStop)
    → Empties old fresh → IfOk r (λ counts. IsTaken told counts fresh new)
    → OnErr r (IsTakenInPart told fresh new) → ¬ (IsErrOf r NewTooLong) → ComesOfAny old new r
any_rewritten told old fresh new (Ok counts) e t p n = (
  t.items,
  t.items_are.certificate,
  t.counts_are,
  appends_new old fresh new (certificate_of t.items) e t.took,
)
any_rewritten told old fresh new (Err NewTooLong) e t p n = absurd (n refl)
any_rewritten told old fresh new (Err (Fault f)) e t p n = some_front told old fresh new e p
any_rewritten told old fresh new (Err ReadFailed) e t p n = some_front told old fresh new e p
any_rewritten told old fresh new (Err WriteFailed) e t p n =
    let some = p.of_some in
    (some.0, some.1, inr (front_new old fresh new (certificate_of some.0) e some.2))
any_rewritten told old fresh new (Err OutOfMemory) e t p n = some_front told old fresh new e p
