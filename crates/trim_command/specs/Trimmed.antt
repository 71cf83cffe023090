-- What comes of a script's text and a certificate that is trimmed.
use Rattle.std.specs.Prelude.{◌≡◌, ◌≤◌, ◌<◌, ◌^◌, ◌⊎◌, List, length, Option, Some}
use Rattle.goals.specs.declared.line.Line.{Line}
use Rattle.script_grammar.specs.Spells.{View, Spells}
use Rattle.cert_bytes.specs.declared.item.Item.{Item}
use Rattle.cert_bytes.specs.declared.order.DueItem.TheVariants.{Head}
use Rattle.cert_bytes.specs.declared.style.Style.TheVariants.{First}
use Rattle.cert_bytes.specs.Certificates.{SpellsCertificate}
use Rattle.cert_bytes.specs.Reading.{cursor}
use Rattle.cert_bytes.specs.ReadOut.{AreBytes, AreRead}
use Rattle.cert_bytes.specs.Spelling.{certificate_of}
use Rattle.cert_checker.specs.declared.subject.Subject.{Subject}
use Rattle.cert_checker.specs.Contexts.{Context}
use Rattle.cert_checker.specs.Accepted.{Accepts}
use Rattle.cert_checker.specs.Outcomes.{accepted}
use Rattle.script_checker.specs.Subjects.{IsSubjectOf}
use Rattle.script_checker.specs.Checking.{ComesFor, AreAcceptedFor}
use Rattle.cert_trim.specs.Trimmed.{step_count}
use Rattle.cert_trim.specs.Used.{AreAllUsed, trimmed}
use Rattle.command_runs.specs.Runs.{Bytes}
use Rattle.command_runs.specs.Fates.{Left, WhereTold}
use Rattle.command_runs.specs.Fates.Left.{Kept, Whole}
use Rattle.command_runs.specs.declared.status.Status.{Status}
use Rattle.command_runs.specs.declared.status.Status.TheVariants as status
use Rattle.report.specs.Certificates.{new_too_long_line}
use Rattle.script_texts.specs.Texts.{IsRefusedWith}
use Rattle.check_command.specs.Checked.{IsFaulty}
use Rattle.trim_command.specs.Lines.{trimmed_line}

-- what is written: the items without unused steps, spelled in version 2
abbrev pub new_bytes : List Item → Bytes
new_bytes items = certificate_of (trimmed items)

-- what is printed then: how many steps are left, of how many
abbrev pub line_of : List Item → Bytes
line_of items = trimmed_line (step_count (trimmed items)) (step_count items)

-- Whatever the certificate's bytes are, the items are a whole certificate that is accepted for the
-- script with these lines. So are they without unused steps, as the new bytes spell them. Each step
-- that is left is used. Where the bytes are told, the items are read from them to their end, and
-- are what the bytes spell.
pub record AreTrimmable (s : View) (cert : Option Bytes) (items : List Item) : Type 0 where
  pub shown : List Line
  pub whole : (t : Subject) × IsSubjectOf s t
      × Accepts t items shown × Accepts t (trimmed items) shown
  pub comes : WhereTold cert (λ all. (end : Context)
      × ComesFor s (cursor First all 0) (accepted end) × (shown ≡ end.lines))
  pub read : WhereTold cert (λ all. AreRead Head (cursor First all 0) items)
  pub spelled : WhereTold cert (λ all. AreBytes all
      → SpellsCertificate all items × AreAcceptedFor s all shown)
  pub kept : AreAcceptedFor s (new_bytes items) shown
  pub used : AreAllUsed (trimmed items)

-- The text spells a script, and the certificate's items, which are accepted for it, were written
-- without unused steps, in 2^44 bytes at most.
pub record IsTrimmed (text : Bytes) (cert : Option Bytes) (lines : Bytes) (left : Left)
    : Type 0 where
  pub script : View
  pub items : List Item
  pub spelled : Spells text script
  pub trimmable : AreTrimmable script cert items
  pub short : length (new_bytes items) ≤ 2 ^ 44
  pub printed : lines ≡ line_of items
  pub written : left ≡ Whole (Some (new_bytes items))

-- The text spells a script, and the certificate is accepted for it, but too long without its unused
-- steps, spelled in version 2.
pub record IsTooLong (text : Bytes) (cert : Option Bytes) (lines : Bytes) : Type 0 where
  pub script : View
  pub items : List Item
  pub spelled : Spells text script
  pub trimmable : AreTrimmable script cert items
  pub long : 2 ^ 44 < length (new_bytes items)
  pub printed : lines ≡ new_too_long_line

-- the text spells a script, for which the certificate isn't accepted, by its first fault
abbrev pub IsNotAccepted : Bytes → Option Bytes → Bytes → Type 0
IsNotAccepted text cert lines = (s : View) × Spells text s × IsFaulty s cert lines

-- `trim` answers a text and a certificate, whose bytes may be told, with this status and these
-- lines, and leaves the new file so
abbrev pub TrimPrints : Bytes → Option Bytes → Status → Bytes → Left → Type 0
TrimPrints text cert status.Answered lines left = IsTrimmed text cert lines left
TrimPrints text cert status.Certificate lines left =
    (IsNotAccepted text cert lines ⊎ IsTooLong text cert lines) × (left ≡ Kept)
-- the text spells no script, but is refused
TrimPrints text cert status.Script lines left = IsRefusedWith text lines × (left ≡ Kept)
TrimPrints text cert _ lines left = ⊥
