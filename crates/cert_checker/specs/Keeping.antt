-- What checking a certificate answers that keeps its items.
use Rattle.std.specs.Prelude.{◌≡◌, ◌≤◌, ◌<◌, ℕ, true, List, Option, Some, None, Result, Ok, Err}
use Rattle.std.specs.Prelude.{IfOk}
use Rattle.cert_bytes.specs.declared.item.Item.{Item}
use Rattle.cert_bytes.specs.Certificates.{HasSpelling, Fits, SpellsCertificate}
use Rattle.cert_bytes.specs.Readers.{Progress}
use Rattle.cert_bytes.specs.declared.item.Item.TheVariants.{End}
use Rattle.cert_bytes.specs.Due.{due_behind, is_due}
use Rattle.cert_bytes.specs.declared.order.DueItem.TheVariants.{Head}
use Rattle.cert_bytes.specs.Pieces.{Ahead, cursor_of}
use Rattle.cert_bytes.specs.ReadOut.{AreBytes, AreRead}
use Rattle.cert_bytes.specs.Reading.{item_at}
use Rattle.cert_checker.specs.declared.fault.CheckStop.{CheckStop}
use Rattle.cert_checker.specs.declared.lines.Lines.{Lines}
use Rattle.cert_checker.specs.declared.subject.Subject.{Subject}
use Rattle.cert_checker.specs.Accepted.{Accepts}
use Rattle.cert_checker.specs.Standing.{Standing}
use Rattle.cert_checker.specs.Faults.{JudgesItem}
use Rattle.cert_checker.specs.Outcomes.{Outcome, ComesOf}
use Rattle.cert_checker.specs.Checking.{Checks, IsAnswer}
use Rattle.cert_checker.specs.After.{after}
use Rattle.cert_checker.specs.declared.keep.Accepted.{Accepted}

-- This item is one that was due, has a spelling and has numbers with room in their fields. It was
-- read, of the bytes where these are told, and taken.
pub record TookItem (told : Option (List ℕ))
    (c d : Standing) (r q : Progress) (item : Item) : Type 0 where
  pub order : is_due r.due item ≡ true
  pub spelled : HasSpelling item
  pub fits : Fits item
  pub read : (all : List ℕ) → told ≡ Some all
      → item_at r.due (cursor_of all r.ahead) ≡ Ok (item, cursor_of all q.ahead)
  pub judged : JudgesItem c.subject c.context item None
  pub taken : d ≡ record c { context = after c.context item }
  pub due : q.due ≡ due_behind r.due item
  pub reads : q.fault ≡ None
  pub grows : r.ahead.at ≤ q.ahead.at
  pub moves : ¬ (item ≡ End) → r.ahead.at < q.ahead.at

-- what is answered of the lines
abbrev pub lines_of : Result Accepted CheckStop → Result Lines CheckStop
lines_of (Ok a) = Ok a.lines
lines_of (Err e) = Err e

-- The items are a certificate that is accepted with these lines.
abbrev pub AreAcceptedItems : Subject → Accepted → Type 0
AreAcceptedItems s a = Accepts s a.items.items a.lines.rows

-- The answer is that of the bytes from this place on.
pub record AnswersItems (s : Subject) (all : List ℕ) (from : Ahead)
    (result : Result Accepted CheckStop) : Type 0 where
  -- what is answered comes of the bytes,
  pub checks : Checks s (cursor_of all from) (lines_of result)
  -- and what comes of them is answered, unless reads fail or memory isn't found
  pub exact : (o : Outcome) → ComesOf s (cursor_of all from) o → IsAnswer o (lines_of result)
  -- the items are read from the bytes to their end,
  pub read : IfOk result (λ a. AreRead Head (cursor_of all from) a.items.items)
  -- and are what the bytes spell
  pub spells : AreBytes all → IfOk result (λ a. SpellsCertificate all a.items.items)
