-- An item that is refused changes nothing.
use Rattle.std.proofs.Common.{◌≡◌, ℕ, Result, Ok, Some, Err, subst, ◌∙◌}
use Rattle.cert_bytes.specs.declared.item.StepRow.{StepRow}
use Rattle.cert_bytes.specs.declared.item.Item.TheVariants as item
use Rattle.cert_bytes.specs.declared.item.Item.{Item}
use Rattle.cert_checker.specs.declared.fault.CheckFault.{CheckFault}
use Rattle.cert_checker.specs.declared.fault.CheckFault.TheVariants.{BadCases}
use Rattle.cert_checker.specs.declared.subject.Subject.{Subject}
use Rattle.cert_checker.specs.Contexts.{Context, open_piece}
use Rattle.cert_checker.specs.Steps.{case_facts}
use Rattle.cert_checker.specs.declared.fault.TakeStop.{TakeStop}
use Rattle.cert_checker.specs.declared.fault.TakeStop.TheVariants.{Check, OutOfMemory}
use Rattle.cert_checker.specs.Faults.{JudgesContent, JudgesItem, JudgesStep, HasCases, IsJudged}
use Rattle.cert_checker.specs.Standing.{Standing, ChangesByContent, Changes}

pub refuses : (X Y : Type 0) (old new : Standing) (i : Item) (stop : TakeStop)
    → IsJudged {X = X} (JudgesContent old.subject old.context i) (Err stop) → new ≡ old
    → ChangesByContent {X = Y} old i (Err stop) new
refuses X Y old new i (Check f) j e = (j, e)
refuses X Y old new i OutOfMemory j e = e

pub refuses_at : (X Y : Type 0) (old seen new : Standing) (i : Item) (stop : TakeStop) → seen ≡ old
    → IsJudged {X = X} (JudgesContent seen.subject seen.context i) (Err stop) → new ≡ seen
    → ChangesByContent {X = Y} old i (Err stop) new
refuses_at X Y old seen new i stop e j n = let P : Standing
    → Type 0 = λ s. IsJudged {X = X} (JudgesContent s.subject s.context i) (Err stop) in
    refuses X Y old new i stop (subst P e j) (n ∙ e)

pub judged_step : (X : Type 0) (seen now : Standing) (row : StepRow) (r : Result X TakeStop)
    → seen ≡ now
    → IsJudged (JudgesStep (record {
      facts = case_facts seen.subject.cases seen.context.case;
      hints = seen.subject.hints;
      nodes = seen.context.nodes;
      piece = open_piece seen.context.cuts;
    }) seen.context.steps seen.context.next row) r
    → IsJudged (JudgesContent now.subject now.context (item.Step row)) r
judged_step X seen now row r e j =
    let P : Standing → Type 0 =
    λ s. IsJudged (JudgesContent s.subject s.context (item.Step row)) r in
    subst P e j

-- what an item is by itself never tells another number of cases
never_cases : (s : Subject) (c : Context) (i : Item) (k : ℕ)
    → ¬ JudgesContent s c i (Some (BadCases k))
never_cases s c (item.Nodes n) k j = j
never_cases s c (item.Node n) k j = j
never_cases s c (item.Marks n) k j = j
never_cases s c (item.Mark m) k j = j
never_cases s c (item.Cases n) k j = cc
never_cases s c (item.Step r) k j = j
never_cases s c (item.Cut x ps) k j = j
never_cases s c (item.Leaf refs) k j = j
never_cases s c (item.Dead r) k j = j
never_cases s c item.End k j = cc

faulty : (s : Subject) (c : Context) (i : Item) (f : CheckFault) → HasCases s c i
    → JudgesContent s c i (Some f) → JudgesItem s c i (Some f)
faulty s c i (BadCases k) h j = absurd (never_cases s c i k j)
faulty s c i f h j = (h, j)

-- where the item tells the right number of cases, it is taken as by itself
pub changes : (X : Type 0) (old new : Standing) (i : Item) (r : Result X TakeStop)
    → HasCases old.subject old.context i → ChangesByContent old i r new → Changes old i r new
changes X old new i (Ok x) h d = ((h, d.0), d.1)
changes X old new i (Err (Check f)) h d = (faulty old.subject old.context i f h d.0, d.1)
changes X old new i (Err OutOfMemory) h d = d
