-- What a chain holds, and what taking an item makes of it.
use Rattle.std.specs.Prelude.{◌≡◌, ◌<◌, ◌^◌, Option, Some, None, Result, Ok, Err}
use Rattle.cert_bytes.specs.declared.item.Item.{Item}
use Rattle.cert_checker.specs.declared.subject.Subject.{Subject}
use Rattle.cert_checker.specs.declared.fault.CheckFault.{CheckFault}
use Rattle.cert_checker.specs.declared.fault.TakeStop.{TakeStop}
use Rattle.cert_checker.specs.declared.fault.TakeStop.TheVariants.{Check, OutOfMemory}
use Rattle.cert_checker.specs.Contexts.{Context, first}
use Rattle.cert_checker.specs.Faults.{JudgesContent, JudgesItem}
use Rattle.cert_checker.specs.After.{changed_by, after, behind}

-- what is checked against, what the items so far come to, and the fault that was found
pub record Standing : Type 0 where
  pub subject : Subject
  pub context : Context
  pub fault : Option CheckFault

-- Before the first item, with no fault found.
abbrev pub begun : Subject → Standing
begun s = record { subject = s; context = first s; fault = None }

-- behind the open section
abbrev pub left : Standing → Standing
left s = record s { context = behind s.context }

-- Where nothing is wrong with the item by itself, the context is changed by it. Else the fault is
-- told, and nothing changes.
abbrev pub ChangesByContent : {X : Type 0} → Standing → Item → Result X TakeStop → Standing → Type 0
ChangesByContent old i (Ok x) new = JudgesContent old.subject old.context i None
    × (new ≡ record old { context = changed_by old.context i })
ChangesByContent old i (Err (Check f)) new =
    JudgesContent old.subject old.context i (Some f) × (new ≡ old)
ChangesByContent old i (Err OutOfMemory) new = new ≡ old

-- The same, with the number of cases judged before.
abbrev pub Changes : {X : Type 0} → Standing → Item → Result X TakeStop → Standing → Type 0
Changes old i (Ok x) new = JudgesItem old.subject old.context i None
    × (new ≡ record old { context = changed_by old.context i })
Changes old i (Err (Check f)) new = JudgesItem old.subject old.context i (Some f) × (new ≡ old)
Changes old i (Err OutOfMemory) new = new ≡ old

-- The same, with the fault kept for later calls.
abbrev pub TakesFresh : {X : Type 0} → Standing → Item → Result X TakeStop → Standing → Type 0
TakesFresh old i (Ok x) new = JudgesItem old.subject old.context i None
    × (new ≡ record old { context = after old.context i })
TakesFresh old i (Err (Check f)) new = JudgesItem old.subject old.context i (Some f)
    × (new ≡ record old { fault = Some f })
TakesFresh old i (Err OutOfMemory) new = new ≡ old

-- What taking an item answers. A fault is answered again.
abbrev pub TakesBehind : {X : Type 0} → Option CheckFault → Standing → Item
    → Result X TakeStop → Standing → Type 0
TakesBehind None old i result new = TakesFresh old i result new
TakesBehind (Some f) old i result new = (result ≡ Err (Check f)) × (new ≡ old)

-- What taking an item answers, and the standing behind it; a fault that was found before is
-- answered again, and nothing changes.
abbrev pub Takes : {X : Type 0} → Standing → Item → Result X TakeStop → Standing → Type 0
Takes old i result new = TakesBehind old.fault old i result new

-- numbers of steps and sections that leave room for the next
pub record HasRoom (s : Standing) : Type 0 where
  pub steps : s.context.next < 2 ^ 63
  pub sections : s.context.section < 2 ^ 63
