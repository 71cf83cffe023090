-- Which items are accepted.
use Rattle.std.specs.Prelude.{◌≡◌, ◌⊎◌, List, [], ◌∷◌, length, Option, Some, None}
use Rattle.goals.specs.declared.line.Line.{Line}
use Rattle.cert_bytes.specs.declared.item.Item.{Item}
use Rattle.cert_bytes.specs.declared.order.DueItem.{DueItem}
use Rattle.cert_bytes.specs.declared.order.DueItem.TheVariants.{Head, Done}
use Rattle.cert_bytes.specs.Due.{due_after}
use Rattle.cert_bytes.specs.Certificates.{AreCertificate}
use Rattle.cert_checker.specs.declared.fault.CheckFault.{CheckFault}
use Rattle.cert_checker.specs.Contexts.{Context, first}
use Rattle.cert_checker.specs.declared.subject.Subject.{Subject}
use Rattle.cert_checker.specs.Faults.{JudgesItem}
use Rattle.cert_checker.specs.After.{after}

-- Nothing is wrong with any of the items, and behind them the context is `end`.
abbrev pub LeadsTo : Subject → Context → List Item → Context → Type 0
LeadsTo s c [] end = c ≡ end
LeadsTo s c (i ∷ items) end = JudgesItem s c i None × LeadsTo s (after c i) items end

-- Something is wrong with one of the items, and this is the first fault.
abbrev pub FailsWith : Subject → Context → List Item → CheckFault → Type 0
FailsWith s c [] f = ⊥
FailsWith s c (i ∷ items) f =
    JudgesItem s c i (Some f) ⊎ (JudgesItem s c i None × FailsWith s (after c i) items f)

-- The items are a whole certificate with which nothing is wrong and which has a root section for
-- each case, and its leaves show these lines.
pub record Accepts (s : Subject) (items : List Item) (lines : List Line) : Type 0 where
  pub certificate : AreCertificate items
  pub end : Context
  pub leads : LeadsTo s (first s) items end
  pub cases : end.case ≡ length s.cases
  pub shown : end.lines ≡ lines

-- Each item is due where it stands, and behind the last nothing is. (Of a certificate, this and
-- that each item has a spelling.)
abbrev pub AreInOrder : Option DueItem → List Item → Type 0
AreInOrder None items = ⊥
AreInOrder (Some d) [] = d ≡ Done
AreInOrder (Some d) (i ∷ items) = AreInOrder (due_after d i) items

-- Items in order with which nothing is wrong have a root section for each case.
abbrev pub HaveEachRoot : Type 0
HaveEachRoot = (s : Subject) (items : List Item) (end : Context)
    → AreInOrder (Some Head) items → LeadsTo s (first s) items end → end.case ≡ length s.cases
