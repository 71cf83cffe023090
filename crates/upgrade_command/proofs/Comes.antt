-- How a run of `upgrade` ends, by what came of the certificate.
use Rattle.std.specs.Prelude.{◌≡◌, ◌≢◌, ◌<◌, ◌⊎◌, List, Option, Some, None, Result, Ok, Err}
use Rattle.std.specs.Prelude.{IsErrOf, length}
use Rattle.std.proofs.Common.{inl, inr, refl, sym, ap, subst, ◌∙◌, arith}
use Rattle.cert_bytes.specs.declared.fault.CertFault.{CertFault}
use Rattle.cert_bytes.specs.declared.item.Item.{Item}
use Rattle.cert_bytes.specs.declared.style.Seen.{Seen}
use Rattle.cert_bytes.specs.Certificates.{AreCertificate}
use Rattle.cert_bytes.specs.ReadOut.{HasFault}
use Rattle.cert_bytes.specs.Spelling.{certificate_of}
use Rattle.cert_bytes.specs.Styles.{seen_in}
use Rattle.command_line.specs.Upgrade.{AskedUpgrade}
use Rattle.whole_texts.specs.Pieces.{HoldsAll as HoldsWhole, HoldsFront as HoldsPart}
use Rattle.whole_texts.specs.declared.read.ReadStop.TheVariants as reading
use Rattle.command_runs.proofs.Ends.{IsPutBy, IsLinePutBy, IsStopPutBy, IsOnce, put_runs, line_runs}
use Rattle.command_runs.proofs.Ends.{stop_runs, starved_runs, unwritten_runs, exhausted_runs}
use Rattle.command_runs.proofs.Ends.{all_kept, left_so, others_kept, run_by}
use Rattle.command_runs.specs.Fates.{Left, Fate, AreTold, Runs}
use Rattle.command_runs.specs.Fates.Left.{Kept, Whole, Begun}
use Rattle.command_runs.specs.Runs.{Bytes, Run, IsKept, IsSilent, ReadFailed, WriteFailed}
use Rattle.command_runs.specs.Statuses.{read_fault_line}
use Rattle.command_runs.specs.declared.status.Status.{Status}
use Rattle.command_runs.specs.declared.status.Status.TheVariants as status
use Rattle.report.specs.Certificates.{cert_fault_line, new_too_long_line, upgraded_line}
use Rattle.cert_upgrade.specs.Answers.{ComesOf, ComesOfAny, MayBecome, IsTooLong}
use Rattle.cert_upgrade.specs.Files.{Holds, HoldsFront}
use Rattle.cert_upgrade.specs.Items.{ItemsAreOne}
use Rattle.cert_upgrade.specs.Spelled.{most}
use Rattle.cert_upgrade.specs.declared.stop.UpgradeStop.{UpgradeStop}
use Rattle.cert_upgrade.specs.declared.stop.UpgradeStop.TheVariants as stop
use Rattle.upgrade_command.specs.Command.{MayBecomeOf, UpgradeFate, MayRewrite, IsUpgradeRun}

-- ---- what a file holds
whole_of : (bytes : Bytes) (old new : Option Bytes) → Holds bytes old new → HoldsWhole bytes old new
whole_of bytes None new h = tt
whole_of bytes (Some old) new h = h old refl

part_of : (bytes : Bytes) (old new : Option Bytes) → (new ≡ old) ⊎ HoldsFront bytes old new
    → HoldsPart bytes old new
part_of bytes None new h = tt
part_of bytes (Some old) new (inl same) = inl same
part_of bytes (Some old) new (inr h) = inr (h old refl)

untold : {A B C : Type 0} → (B → C) → A ⊎ B → A ⊎ (C × B)
untold f (inl a) = inl a
untold f (inr b) = inr (f b, b)

-- a call stopped so, and so its count rose
pub caused : {T : Type 0} (X : Type 0) (result : Result T UpgradeStop) (e : UpgradeStop)
    → result ≡ Err e → (IsErrOf result e → X) → X
caused X result e is f = f (subst (λ r. IsErrOf r e) (sym is) refl)

-- ---- what came of it, whether its bytes are told or not
module _ (known old new : Option Bytes) where
  -- it was rewritten
  rewritten : (counts : Seen) → ((all : Bytes) → known ≡ Some all → ComesOf all old new (Ok counts))
      → ComesOfAny old new (Ok counts) → (items : List Item) × MayBecomeOf known items
      × (counts ≡ seen_in items) × Holds (certificate_of items) old new
  rewritten counts comes any = by known comes where
    by : (k : Option Bytes) → ((all : Bytes) → k ≡ Some all → ComesOf all old new (Ok counts))
        → (items : List Item) × MayBecomeOf k items
        × (counts ≡ seen_in items) × Holds (certificate_of items) old new
    by None comes = any
    by (Some all) comes = let h = comes all refl in (h.items, h.may, h.counts_are, h.holds)

  -- a write failed
  unwritten : ((all : Bytes) → known ≡ Some all → ComesOf all old new (Err stop.WriteFailed))
      → ComesOfAny old new (Err stop.WriteFailed) → (items : List Item) × MayBecomeOf known items
      × ((new ≡ old) ⊎ HoldsFront (certificate_of items) old new)
  unwritten comes any = by known comes where
    by : (k : Option Bytes) → ((all : Bytes) → k ≡ Some all
        → ComesOf all old new (Err stop.WriteFailed))
        → (items : List Item) × MayBecomeOf k items
        × ((new ≡ old) ⊎ HoldsFront (certificate_of items) old new)
    by None comes = any
    by (Some all) comes = comes all refl

  -- a read failed, or memory ran out
  abbrev IsBroken : Type 0
  IsBroken = (new ≡ old)
      ⊎ ((items : List Item) × MayBecomeOf known items × HoldsFront (certificate_of items) old new)

  unread : ((all : Bytes) → known ≡ Some all → ComesOf all old new (Err stop.ReadFailed))
      → ComesOfAny old new (Err stop.ReadFailed) → IsBroken
  unread comes any = by known comes where
    by : (k : Option Bytes) → ((all : Bytes) → k ≡ Some all
        → ComesOf all old new (Err stop.ReadFailed))
        → (new ≡ old)
        ⊎ ((items : List Item) × MayBecomeOf k items × HoldsFront (certificate_of items) old new)
    by None comes = any
    by (Some all) comes = comes all refl

  starved : ((all : Bytes) → known ≡ Some all → ComesOf all old new (Err stop.OutOfMemory))
      → ComesOfAny old new (Err stop.OutOfMemory) → IsBroken
  starved comes any = by known comes where
    by : (k : Option Bytes) → ((all : Bytes) → k ≡ Some all
        → ComesOf all old new (Err stop.OutOfMemory))
        → (new ≡ old)
        ⊎ ((items : List Item) × MayBecomeOf k items × HoldsFront (certificate_of items) old new)
    by None comes = any
    by (Some all) comes = comes all refl

  -- its bytes have a fault; those that aren't told may have it at the second reading alone
  faulty : (f : CertFault)
      → ((all : Bytes) → known ≡ Some all → ComesOf all old new (Err (stop.Fault f)))
      → ComesOfAny old new (Err (stop.Fault f))
      → ((all : Bytes) → known ≡ Some all → HasFault all f)
      × ((new ≡ old) ⊎ ((known ≡ None) × ((items : List Item) × AreCertificate items
      × HoldsFront (certificate_of items) old new)))
  faulty f comes any = by known comes where
    by : (k : Option Bytes) → ((all : Bytes) → k ≡ Some all
        → ComesOf all old new (Err (stop.Fault f)))
        → ((all : Bytes) → k ≡ Some all → HasFault all f)
        × ((new ≡ old) ⊎ ((k ≡ None) × ((items : List Item) × AreCertificate items
        × HoldsFront (certificate_of items) old new)))
    by None comes = ((λ all e. absurd (cc e)), untold (λ _. refl) any)
    by (Some all) comes = ((λ other e. (comes other e).0), inl (comes all refl).1)

-- ---- of a run
module _ (a : AskedUpgrade) (r : Run)
    (others : (other : Bytes) → other ≢ a.new → IsKept r other) where
  abbrev known : Option Bytes
  known = r.before.told a.cert

  abbrev old : Option Bytes
  old = r.before.told a.new

  abbrev new : Option Bytes
  new = r.after.told a.new

  abbrev fate : Fate
  fate = UpgradeFate a r

  abbrev IsSo : Type 0
  IsSo = Runs (Some a.new) fate r

  -- what came of the certificate, by the answer
  abbrev Comes_as : Result Seen UpgradeStop → Type 0
  Comes_as result = ((all : Bytes) → known ≡ Some all → ComesOf all old new result)
      × ComesOfAny old new result

  comes_as : (result given : Result Seen UpgradeStop) → result ≡ given
      → Comes_as result → Comes_as given
  comes_as result given is h = subst Comes_as is h

  module _ (result : Result Seen UpgradeStop) (came : Comes_as result) where
    pub done_runs : (counts : Seen) → result ≡ Ok counts
        → IsLinePutBy status.Answered (upgraded_line counts) r → IsSo
    done_runs counts given put =
        let c = comes_as result (Ok counts) given came in
        by (rewritten known old new counts c.0 c.1) where
          by : (items : List Item) × MayBecomeOf known items
              × (counts ≡ seen_in items) × Holds (certificate_of items) old new → IsSo
          by (items, may, is, holds) = line_runs (Some a.new) fate r status.Answered
              (upgraded_line counts) (Whole (Some (certificate_of items)))
              (items, may, ap upgraded_line is, refl) (others_kept a.new r others) refl
              (left_so a.new r (Whole (Some (certificate_of items)))
              (whole_of (certificate_of items) old new holds)) put

    pub faulty_runs : (f : CertFault) → result ≡ Err (stop.Fault f)
        → IsLinePutBy status.Certificate (cert_fault_line f) r → IsSo
    faulty_runs f given put =
        let c = comes_as result (Err (stop.Fault f)) given came in
        by (faulty known old new f c.0 c.1) where
          by : ((all : Bytes) → known ≡ Some all → HasFault all f)
              × ((new ≡ old) ⊎ ((known ≡ None) × ((items : List Item) × AreCertificate items
              × HoldsFront (certificate_of items) old new))) → IsSo
          by (has, inl same) = line_runs (Some a.new) fate r status.Certificate (cert_fault_line f)
              Kept (inl (f, has, refl, inl refl)) (others_kept a.new r others) refl
              (left_so a.new r Kept same) put
          by (has, inr (untold, (items, are, part))) = line_runs (Some a.new) fate r
              status.Certificate (cert_fault_line f) (Begun (Some (certificate_of items)))
              (inl (f, has, refl, inr (untold, inr (items, are, refl))))
              (others_kept a.new r others) refl
              (left_so a.new r (Begun (Some (certificate_of items)))
              (part_of (certificate_of items) old new (inr part))) put

    pub long_runs : result ≡ Err stop.NewTooLong
        → IsPutBy status.Certificate new_too_long_line r → IsSo
    long_runs given put =
        let c = comes_as result (Err stop.NewTooLong) given came in
        put_runs (Some a.new) fate r status.Certificate new_too_long_line Kept
        (inr ((λ all e. (c.0 all e).0), refl, refl)) (others_kept a.new r others) refl
        (left_so a.new r Kept c.1) put

    pub unread_runs : result ≡ Err stop.ReadFailed → ReadFailed r
        → IsStopPutBy reading.Fault a.cert r → IsSo
    unread_runs given failed put =
        let c = comes_as result (Err stop.ReadFailed) given came in
        by (unread known old new c.0 c.1) put where
          by : IsBroken known old new → IsStopPutBy reading.Fault a.cert r → IsSo
          by (inl same) put = stop_runs (Some a.new) fate r reading.Fault a.cert
              (all_kept a.new r others same)
              (λ _. (a.cert, refl, failed, inl refl, refl)) put
          by (inr (items, may, part)) (inr (is, put)) =
              put_runs (Some a.new) fate r status.ReadFault
              (read_fault_line a.cert) (Begun (Some (certificate_of items)))
              (a.cert, refl, failed, inr (items, may, refl), refl) (others_kept a.new r others) refl
              (left_so a.new r (Begun (Some (certificate_of items)))
              (part_of (certificate_of items) old new (inr part))) put
          by (inr (items, may, part)) (inl (same, silent)) = exhausted_runs (Some a.new) fate r
              status.ReadFault (read_fault_line a.cert) (Begun (Some (certificate_of items)))
              (a.cert, refl, failed, inr (items, may, refl), refl)
              (others_kept a.new r others) silent
              (left_so a.new r (Begun (Some (certificate_of items)))
              (part_of (certificate_of items) old new (inr part))) same

    pub unwritten_so : result ≡ Err stop.WriteFailed → r.status ≡ status.WriteFault
        → WriteFailed r → IsSilent r → IsSo
    unwritten_so given same failed silent =
        let c = comes_as result (Err stop.WriteFailed) given came in
        by (unwritten known old new c.0 c.1) where
          by : (items : List Item) × MayBecomeOf known items
              × ((new ≡ old) ⊎ HoldsFront (certificate_of items) old new) → IsSo
          by (items, may, part) = unwritten_runs (Some a.new) fate r status.Answered
              (upgraded_line (seen_in items)) (Whole (Some (certificate_of items)))
              (items, may, refl, refl) (others_kept a.new r others) silent
              (left_so a.new r (Begun (Some (certificate_of items)))
              (part_of (certificate_of items) old new part)) same (λ e. cc e) failed

    pub starved_so : result ≡ Err stop.OutOfMemory → r.status ≡ status.OutOfMemory
        → IsSilent r → IsSo
    starved_so given same silent =
        let c = comes_as result (Err stop.OutOfMemory) given came in
        by (starved known old new c.0 c.1) where
          by : IsBroken known old new → IsSo
          by (inl kept) = starved_runs (Some a.new) fate r same
              (record { silent = silent; files = all_kept a.new r others kept })
          by (inr (items, may, part)) = exhausted_runs (Some a.new) fate r status.Answered
              (upgraded_line (seen_in items)) (Whole (Some (certificate_of items)))
              (items, may, refl, refl) (others_kept a.new r others) silent
              (left_so a.new r (Begun (Some (certificate_of items)))
              (part_of (certificate_of items) old new (inr part))) same

-- ---- one status comes
-- of told bytes, whose items are one
module _ (law : ItemsAreOne) (a : AskedUpgrade) (r : Run) where
  -- which status comes of told bytes, and why
  abbrev IsOutcome : Bytes → Status → Type 0
  IsOutcome all s = ((s ≡ status.Answered) × ((items : List Item) × MayBecome all items))
      ⊎ ((s ≡ status.Certificate) × (((f : CertFault) × HasFault all f) ⊎ IsTooLong all))

  outcome : (s : Status) (lines : Bytes) (left : Left) → s ≢ status.ReadFault
      → UpgradeFate a r s lines left
      → (all : Bytes) → r.before.told a.cert ≡ Some all → IsOutcome all s
  outcome status.Answered lines left n (items, may, is, kept) all e =
      inl (refl, (items, subst (λ k. MayBecomeOf k items) e may))
  outcome status.Certificate lines left n (inl (f, has, is, kept)) all e =
      inr (refl, inl (f, has all e))
  outcome status.Certificate lines left n (inr (long, is, kept)) all e =
      inr (refl, inr (long all e))
  outcome status.ReadFault lines left n p all e = absurd (n refl)
  outcome _ lines left n p all e = absurd p

  never : (all : Bytes) (items : List Item) → MayBecome all items
      → ((f : CertFault) × HasFault all f) ⊎ IsTooLong all → ⊥
  never all items may (inl (f, has)) = law.sound all items f may.are has
  never all items may (inr (others, are, long)) =
      let same : others ≡ items = law.once all others items are may.are in
      let much : most < length (certificate_of items) =
      subst (λ i. most < length (certificate_of i)) same long in
      let short = may.short in
      omega (arith, short, much)

  one : (all : Bytes) (s t : Status) → IsOutcome all s → IsOutcome all t → t ≡ s
  one all s t (inl (e, p)) (inl (f, q)) = f ∙ sym e
  one all s t (inr (e, p)) (inr (f, q)) = f ∙ sym e
  one all s t (inl (e, (items, may))) (inr (f, q)) = absurd (never all items may q)
  one all s t (inr (e, p)) (inl (f, (items, may))) = absurd (never all items may p)

  once : AreTold (λ name. name ≡ a.cert) r.before.told → IsOnce (UpgradeFate a r)
  once told s t ls ms l m n k p q =
      let all = told a.cert refl in
      one all.0 s t (outcome s ls l n p all.0 all.1) (outcome t ms m k q all.0 all.1)

-- what isn't one of these two ends leaves the file as it was
keeps : (a : AskedUpgrade) (r : Run) (s : Status) (lines : Bytes) (left : Left)
    → ¬ MayRewrite (r.before.told a.cert) s → UpgradeFate a r s lines left → left ≡ Kept
keeps a r status.Answered lines left still p = absurd (still tt)
keeps a r status.ReadFault lines left still p = absurd (still tt)
keeps a r status.Certificate lines left still (inl (f, has, is, inl kept)) = kept
keeps a r status.Certificate lines left still (inl (f, has, is, inr (untold, part))) =
    absurd (still untold)
keeps a r status.Certificate lines left still (inr (long, is, kept)) = kept
keeps a r status.WriteFault lines left still p = absurd (still tt)
keeps a r status.OutOfMemory lines left still p = absurd (still tt)
keeps a r _ lines left still p = absurd p

pub whole : ItemsAreOne → (a : AskedUpgrade) (r : Run)
    → Runs (Some a.new) (UpgradeFate a r) r → IsUpgradeRun a r
whole law a r h = run_by (Some a.new) (λ name. name ≡ a.cert) (MayRewrite (r.before.told a.cert))
    (UpgradeFate a r) r tt tt (keeps a r) (once law a r) h
