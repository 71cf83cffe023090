-- What `check` answers to a text and a certificate: a status and lines.
use Rattle.std.specs.Prelude.{◌≡◌, ◌≤◌, ◌⊎◌, List, length, Option}
use Rattle.fx_model.specs.Expression.{Assignment}
use Rattle.facts.specs.declared.hint.HintMark.{HintMark}
use Rattle.goals.specs.declared.line.Line.{Line}
use Rattle.script_grammar.specs.Spells.{View, Spells}
use Rattle.script_meets.specs.Meets.{Meets}
use Rattle.script_meets.specs.Held.{AreHeld}
use Rattle.rewrite_hints.specs.Marks.{AreMarks}
use Rattle.cert_bytes.specs.declared.fault.CertFault.{CertFault}
use Rattle.cert_bytes.specs.declared.style.Style.TheVariants.{First}
use Rattle.cert_bytes.specs.Reading.{cursor}
use Rattle.cert_bytes.specs.ReadOut.{AreBytes}
use Rattle.cert_checker.specs.declared.fault.CheckFault.{CheckFault}
use Rattle.cert_checker.specs.Contexts.{Context}
use Rattle.cert_checker.specs.Outcomes.{Outcome, accepted, unread, refused}
use Rattle.script_checker.specs.Checking.{ComesFor, AreAcceptedFor}
use Rattle.command_runs.specs.Runs.{Bytes}
use Rattle.command_runs.specs.Fates.{WhereTold}
use Rattle.command_runs.specs.declared.status.Status.{Status}
use Rattle.command_runs.specs.declared.status.Status.TheVariants as status
use Rattle.report.specs.Proved.{answer_text}
use Rattle.report.specs.Certificates.{cert_fault_line, check_fault_line}
use Rattle.script_texts.specs.Texts.{IsRefusedWith}

-- This comes of the certificate's bytes for the script, where they are told.
abbrev pub ComesWhereTold : View → Option Bytes → Outcome → Type 0
ComesWhereTold s cert o = WhereTold cert (λ all. ComesFor s (cursor First all 0) o)

-- The text spells a script, for which the certificate is accepted. There is a line for each goal:
-- the hull, over the certificate's leaves, of the facts that they cite. Where the certificate's
-- bytes are told, they are read to their end and accepted with these lines, and spell a certificate
-- that is. Whatever the bytes are, and whoever wrote them, the lines hold: every assignment of
-- fractions that meets the script, with bounds exactly as they are written, gives each goal's
-- expression a value in its interval and makes the goal true. The lines print this, and which hints
-- were assumed.
pub record IsChecked (text : Bytes) (cert : Option Bytes) (lines : Bytes) : Type 0 where
  pub script : View
  pub shown : List Line
  pub marks : List HintMark
  pub spelled : Spells text script
  pub comes : WhereTold cert (λ all. (end : Context)
      × ComesFor script (cursor First all 0) (accepted end) × (shown ≡ end.lines))
  pub accepts : WhereTold cert (λ all. AreBytes all → AreAcceptedFor script all shown)
  pub words : length script.spans ≡ length script.goals
  pub each : length shown ≡ length script.goals
  pub holds : (a : Assignment) → Meets a script → AreHeld script a shown
  pub marked : AreMarks script.nodes script.hints.rewrites marks
  pub printed : lines ≡ answer_text script.text script.tokens script.spans shown marks

-- Where the certificate's bytes are told, this is their first fault for the script in the order of
-- reading, and the line names it: of the bytes, or of an item.
abbrev pub IsFaulty : View → Option Bytes → Bytes → Type 0
IsFaulty s cert lines =
    ((f : CertFault) × ComesWhereTold s cert (unread f) × (lines ≡ cert_fault_line f))
    ⊎ ((f : CheckFault) × ComesWhereTold s cert (refused f) × (lines ≡ check_fault_line f))

-- The text spells a script, and the bytes spell a certificate that is accepted for it. (Byte 2^44,
-- counted from 0, is one too many.)
pub record IsAcceptable (text all : Bytes) : Type 0 where
  pub script : View
  pub shown : List Line
  pub spelled : Spells text script
  pub short : length all ≤ 17592186044416
  pub accepted : AreAcceptedFor script all shown

-- `check` answers a text and a certificate, whose bytes may be told, with this status and these
-- lines
abbrev pub CheckPrints : Bytes → Option Bytes → Status → Bytes → Type 0
CheckPrints text cert status.Answered lines = IsChecked text cert lines
-- the certificate isn't accepted for the script
CheckPrints text cert status.Certificate lines = (s : View) × Spells text s × IsFaulty s cert lines
-- the text spells no script, but is refused
CheckPrints text cert status.Script lines = IsRefusedWith text lines
CheckPrints text cert _ lines = ⊥
