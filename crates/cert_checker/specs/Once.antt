-- Each item is judged in one way.
use Rattle.std.specs.Prelude.{◌≡◌, List, Option}
use Rattle.cert_bytes.specs.declared.item.Item.{Item}
use Rattle.cert_checker.specs.declared.fault.CheckFault.{CheckFault}
use Rattle.cert_checker.specs.declared.subject.Subject.{Subject}
use Rattle.cert_checker.specs.Contexts.{Context}
use Rattle.cert_checker.specs.Faults.{JudgesItem}
use Rattle.cert_checker.specs.Accepted.{LeadsTo, FailsWith}

-- Nothing is wrong with an item, or one fault is its own.
abbrev pub JudgedOnce : Type 0
JudgedOnce = (s : Subject) (c : Context) (i : Item) (o p : Option CheckFault) → JudgesItem s c i o
    → JudgesItem s c i p → o ≡ p

-- Items with which nothing is wrong lead to one context, and have no fault.
abbrev pub LeadsOnce : Type 0
LeadsOnce = (s : Subject) (c : Context) (items : List Item) (end other : Context)
    → LeadsTo s c items end → LeadsTo s c items other → end ≡ other

-- Items with which nothing is wrong have no first fault.
abbrev pub LeadsOrFails : Type 0
LeadsOrFails = (s : Subject) (c : Context) (items : List Item) (end : Context) (f : CheckFault)
    → LeadsTo s c items end → ¬ FailsWith s c items f

-- Other items have one first fault.
abbrev pub FailsOnce : Type 0
FailsOnce = (s : Subject) (c : Context) (items : List Item) (f g : CheckFault)
    → FailsWith s c items f → FailsWith s c items g → f ≡ g
