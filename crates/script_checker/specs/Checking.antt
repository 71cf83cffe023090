-- What checking a script's certificate answers, and what its lines promise.
use Rattle.std.specs.Prelude.{◌≡◌, ⊤, ℕ, List, Result, Ok, Err, IfOk}
use Rattle.fx_model.specs.Expression.{Assignment, IsOrdered}
use Rattle.goals.specs.declared.line.Line.{Line}
use Rattle.script_grammar.specs.Spells.{View}
use Rattle.script_grammar.specs.Names.{NamesNodes}
use Rattle.script_grammar.specs.Ranges.{HasFewCases}
use Rattle.script_meets.specs.Meets.{Meets}
use Rattle.script_meets.specs.Held.{AreHeld}
use Rattle.cert_bytes.specs.declared.item.Item.{Item}
use Rattle.cert_bytes.specs.declared.order.DueItem.TheVariants.{Head}
use Rattle.cert_bytes.specs.Certificates.{SpellsCertificate}
use Rattle.cert_bytes.specs.Pieces.{Ahead, cursor_of}
use Rattle.cert_bytes.specs.ReadOut.{AreBytes, AreRead}
use Rattle.cert_bytes.specs.Reading.{Cursor}
use Rattle.cert_checker.specs.declared.fault.CheckStop.{CheckStop}
use Rattle.cert_checker.specs.declared.fault.CheckStop.TheVariants as check_stop
use Rattle.cert_checker.specs.declared.keep.Accepted.{Accepted}
use Rattle.cert_checker.specs.declared.lines.Lines.{Lines}
use Rattle.cert_checker.specs.declared.subject.Subject.{Subject}
use Rattle.cert_checker.specs.Accepted.{Accepts}
use Rattle.cert_checker.specs.Contexts.{Context}
use Rattle.cert_checker.specs.Outcomes.{Outcome, accepted, unread, refused, ComesOf}
use Rattle.cert_checker.specs.Checking.{ShowsLines, AreAccepted, IsAnswer}
use Rattle.cert_checker.specs.Keeping.{AreAcceptedItems, lines_of}
use Rattle.script_checker.specs.Subjects.{IsSubjectOf}

-- What comes of the bytes at the cursor for the script.
abbrev pub ComesFor : View → Cursor → Outcome → Type 0
ComesFor s p o = (t : Subject) × IsSubjectOf s t × ComesOf t p o

-- The lines are those of a certificate that is accepted for the script so.
pub record ShowsFor (s : View) (p : Cursor) (lines : Lines) : Type 0 where
  pub subject : Subject
  pub is : IsSubjectOf s subject
  pub shows : ShowsLines subject p lines

-- From the bytes at the cursor: lines where they are accepted, or their first fault. Where the
-- folder failed or memory wasn't found, nothing is said.
abbrev pub ChecksFor : View → Cursor → Result Lines CheckStop → Type 0
ChecksFor s p (Ok lines) = ShowsFor s p lines
ChecksFor s p (Err (check_stop.Cert f)) = ComesFor s p (unread f)
ChecksFor s p (Err (check_stop.Check f)) = ComesFor s p (refused f)
ChecksFor s p (Err check_stop.Failed) = ⊤
ChecksFor s p (Err check_stop.OutOfMemory) = ⊤

-- One thing comes of bytes for a script.
abbrev pub ChecksAreOne : Type 0
ChecksAreOne = (s : View) (p : Cursor) (o other : Outcome) → ComesFor s p o
    → ComesFor s p other → o ≡ other

-- The bytes spell a certificate that is accepted for the script with these lines.
pub record AreAcceptedFor (s : View) (bytes : List ℕ) (lines : List Line) : Type 0 where
  pub subject : Subject
  pub is : IsSubjectOf s subject
  pub accepted : AreAccepted subject bytes lines

-- The items are a certificate that is accepted for the script with these lines.
abbrev pub AreAcceptedItemsFor : View → Accepted → Type 0
AreAcceptedItemsFor s a = (t : Subject) × IsSubjectOf s t × AreAcceptedItems t a

-- The answer is that of the bytes from this place on.
pub record AnswersFor (s : View) (all : List ℕ) (from : Ahead)
    (result : Result Lines CheckStop) : Type 0 where
  -- what is answered comes of the bytes,
  pub checks : ChecksFor s (cursor_of all from) result
  -- and what comes of them is answered, unless reads fail or memory isn't found
  pub exact : (o : Outcome) → ComesFor s (cursor_of all from) o → IsAnswer o result
  -- lines come of bytes that spell a certificate which is accepted with them
  pub accepts : AreBytes all → IfOk result (λ lines. AreAcceptedFor s all lines.rows)

-- The same where the items are kept.
pub record AnswersItemsFor (s : View) (all : List ℕ) (from : Ahead)
    (result : Result Accepted CheckStop) : Type 0 where
  -- what is answered comes of the bytes,
  pub checks : ChecksFor s (cursor_of all from) (lines_of result)
  -- and what comes of them is answered, unless reads fail or memory isn't found
  pub exact : (o : Outcome) → ComesFor s (cursor_of all from) o → IsAnswer o (lines_of result)
  -- the items are read from the bytes to their end,
  pub read : IfOk result (λ a. AreRead Head (cursor_of all from) a.items.items)
  -- and are what the bytes spell
  pub spells : AreBytes all → IfOk result (λ a. SpellsCertificate all a.items.items)

-- The lines of each certificate that is accepted hold of every assignment that meets the script,
-- whoever wrote it.
abbrev pub AcceptedHoldsOfScripts : Type 0
AcceptedHoldsOfScripts = (s : View) (t : Subject) (items : List Item) (lines : List Line)
    → IsOrdered s.nodes → NamesNodes s → HasFewCases s
    → IsSubjectOf s t → Accepts t items lines → (a : Assignment) → Meets a s → AreHeld s a lines

-- It is so of the lines of bytes that are accepted, whoever wrote them.
abbrev pub CheckedHoldsOfScripts : Type 0
CheckedHoldsOfScripts = (s : View) (t : Subject) (p : Cursor) (end : Context)
    → IsOrdered s.nodes → NamesNodes s → HasFewCases s → IsSubjectOf s t
    → ComesOf t p (accepted end) → (a : Assignment) → Meets a s → AreHeld s a end.lines
