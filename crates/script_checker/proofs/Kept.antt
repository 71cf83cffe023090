-- Items that are kept, for a script as for its subject.
use Rattle.std.specs.Prelude.{Result, Ok, Err, IfOk}
use Rattle.script_grammar.specs.Spells.{View}
use Rattle.cert_checker.specs.declared.fault.CheckStop.{CheckStop}
use Rattle.cert_checker.specs.declared.keep.Accepted.{Accepted}
use Rattle.cert_checker.specs.declared.subject.Subject.{Subject}
use Rattle.cert_checker.specs.Keeping.{AreAcceptedItems}
use Rattle.script_checker.specs.Subjects.{IsSubjectOf}
use Rattle.script_checker.specs.Checking.{AreAcceptedItemsFor}

module _ (s : View) (t : Subject) (is : IsSubjectOf s t) where
  pub accepted_for : (result : Result Accepted CheckStop)
      → IfOk result (AreAcceptedItems t) → IfOk result (AreAcceptedItemsFor s)
  accepted_for (Ok a) h = (t, is, h)
  accepted_for (Err e) h = tt
