-- What checking answers, and one turn of it.
use Rattle.std.specs.Prelude.{◌≡◌, ◌≤◌, ◌<◌, ℕ, true, List, Option, Some, None, Result, Ok, Err}
use Rattle.std.specs.Prelude.{IfOk, ⊤, length}
use Rattle.goals.specs.declared.line.Line.{Line}
use Rattle.cert_bytes.specs.declared.fault.CertFault.{CertFault}
use Rattle.cert_bytes.specs.declared.item.Item.{Item}
use Rattle.cert_bytes.specs.declared.item.Item.TheVariants.{End}
use Rattle.cert_bytes.specs.declared.order.DueItem.TheVariants.{Head}
use Rattle.cert_bytes.specs.declared.style.Style.TheVariants.{First}
use Rattle.cert_bytes.specs.Due.{due_behind, is_due}
use Rattle.cert_bytes.specs.Certificates.{SpellsCertificate}
use Rattle.cert_bytes.specs.Reading.{Cursor, item_at}
use Rattle.cert_bytes.specs.Pieces.{Ahead, cursor_of}
use Rattle.cert_bytes.specs.ReadOut.{AreBytes}
use Rattle.cert_bytes.specs.Readers.{Progress}
use Rattle.cert_checker.specs.declared.fault.CheckFault.{CheckFault}
use Rattle.cert_checker.specs.declared.fault.CheckStop.{CheckStop}
use Rattle.cert_checker.specs.declared.fault.CheckStop.TheVariants as check_stop
use Rattle.cert_checker.specs.declared.lines.Lines.{Lines}
use Rattle.cert_checker.specs.declared.subject.Subject.{Subject}
use Rattle.cert_checker.specs.Contexts.{Context}
use Rattle.cert_checker.specs.Faults.{JudgesItem}
use Rattle.cert_checker.specs.After.{after}
use Rattle.cert_checker.specs.Standing.{Standing, HasRoom}
use Rattle.cert_checker.specs.Accepted.{Accepts}
use Rattle.cert_checker.specs.Outcomes.{Outcome, accepted, unread, refused, ComesOf}

-- ---- what is answered

-- nothing was read and nothing taken
pub record IsFresh (r : Progress) : Type 0 where
  pub at : r.ahead.at ≡ 0
  pub style : r.ahead.style ≡ First
  pub due : r.due ≡ Head
  pub fault : r.fault ≡ None

-- The lines are those of a certificate that is accepted so, and the marks are the subject's.
pub record ShowsLines (s : Subject) (p : Cursor) (lines : Lines) : Type 0 where
  pub end : Context
  pub comes : ComesOf s p (accepted end)
  pub rows : lines.rows ≡ end.lines
  pub marks : lines.marks ≡ s.marks

-- From the bytes at the cursor: lines where they are accepted, or their first fault. Where the
-- folder failed or memory wasn't found, nothing is said.
abbrev pub Checks : Subject → Cursor → Result Lines CheckStop → Type 0
Checks s p (Ok lines) = ShowsLines s p lines
Checks s p (Err (check_stop.Cert f)) = ComesOf s p (unread f)
Checks s p (Err (check_stop.Check f)) = ComesOf s p (refused f)
Checks s p (Err check_stop.Failed) = ⊤
Checks s p (Err check_stop.OutOfMemory) = ⊤

-- This is what is answered, unless the folder failed or memory wasn't found.
abbrev pub IsAnswer : Outcome → Result Lines CheckStop → Type 0
IsAnswer o (Err check_stop.Failed) = ⊤
IsAnswer o (Err check_stop.OutOfMemory) = ⊤
IsAnswer (accepted end) (Ok lines) = lines.rows ≡ end.lines
IsAnswer (unread f) (Err (check_stop.Cert g)) = g ≡ f
IsAnswer (refused f) (Err (check_stop.Check g)) = g ≡ f
IsAnswer _ _ = ⊥

-- The bytes spell a certificate that is accepted with these lines.
pub record AreAccepted (s : Subject) (bytes : List ℕ) (lines : List Line) : Type 0 where
  pub items : List Item
  pub spelled : SpellsCertificate bytes items
  pub accepts : Accepts s items lines

-- The goals and the marks have numbers of two bytes, and one such number is left.
pub record IsCountable (s : Subject) : Type 0 where
  pub goals : length s.goals < 65535
  pub marks : length s.marks < 65535

-- There is a line for each goal, and the marks are the subject's.
pub record AreLinesOf (s : Subject) (lines : Lines) : Type 0 where
  pub count : length lines.rows ≡ length s.goals
  pub marks : lines.marks ≡ s.marks

-- The answer is that of the bytes from this place on.
pub record AnswersBytes (s : Subject) (all : List ℕ) (from : Ahead)
    (result : Result Lines CheckStop) : Type 0 where
  -- what is answered comes of the bytes,
  pub checks : Checks s (cursor_of all from) result
  -- and what comes of them is answered, unless reads fail or memory isn't found
  pub exact : (o : Outcome) → ComesOf s (cursor_of all from) o → IsAnswer o result
  -- lines come of bytes that spell a certificate which is accepted with them
  pub accepts : AreBytes all → IfOk result (λ lines. AreAccepted s all lines.rows)

-- ---- one turn

-- An item more can be read and taken: there is room for it, and no fault was met.
pub record CanTurn (c : Standing) (r : Progress) : Type 0 where
  pub room : HasRoom c
  pub sound : c.fault ≡ None
  pub reads : r.fault ≡ None

-- an item that is due is read, of the bytes where these are told, and taken
pub record TakesNext (told : Option (List ℕ)) (c d : Standing) (r q : Progress) : Type 0 where
  pub item : Item
  pub order : is_due r.due item ≡ true
  pub read : (all : List ℕ) → told ≡ Some all
      → item_at r.due (cursor_of all r.ahead) ≡ Ok (item, cursor_of all q.ahead)
  pub judged : JudgesItem c.subject c.context item None
  pub taken : d ≡ record c { context = after c.context item }
  pub due : q.due ≡ due_behind r.due item
  pub reads : q.fault ≡ None
  pub grows : r.ahead.at ≤ q.ahead.at
  pub moves : ¬ (item ≡ End) → r.ahead.at < q.ahead.at

-- an item is read, and this is wrong with it
pub record Refuses (all : List ℕ) (c : Standing) (r : Progress) (f : CheckFault) : Type 0 where
  pub item : Item
  pub behind : Cursor
  pub read : item_at r.due (cursor_of all r.ahead) ≡ Ok (item, behind)
  pub judged : JudgesItem c.subject c.context item (Some f)

-- no item is read, with this fault
abbrev pub IsUnread : List ℕ → Progress → CertFault → Type 0
IsUnread all r f = item_at r.due (cursor_of all r.ahead) ≡ Err f

-- What a turn answers: an item is taken, or, where the bytes are told, the fault is that of reading
-- or of the item read.
abbrev pub Turns : {X : Type 0} → Option (List ℕ) → Standing → Standing → Progress → Progress
    → Result X CheckStop → Type 0
Turns told c d r q (Ok x) = TakesNext told c d r q
Turns told c d r q (Err e) = ((f : CertFault) → e ≡ check_stop.Cert f → (all : List ℕ)
    → told ≡ Some all → IsUnread all r f) × ((f : CheckFault) → e ≡ check_stop.Check f
    → (all : List ℕ) → told ≡ Some all → Refuses all c r f)
