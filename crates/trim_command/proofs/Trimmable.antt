-- What a certificate's items come to, from what its check answers.
use Rattle.std.specs.Prelude.{◌≡◌, List, Option, Some, Result, Ok, Err, IfOk}
use Rattle.std.proofs.Common.{◌∙◌, ap, subst, refl}
use Rattle.goals.specs.declared.line.Line.{Line}
use Rattle.script_grammar.specs.Spells.{View}
use Rattle.cert_bytes.specs.declared.item.Item.{Item}
use Rattle.cert_bytes.specs.declared.order.DueItem.TheVariants.{Head}
use Rattle.cert_bytes.specs.declared.style.Style.TheVariants.{First, Second}
use Rattle.cert_bytes.specs.Certificates.{SpellsCertificate}
use Rattle.cert_bytes.specs.Pieces.{cursor_of}
use Rattle.cert_bytes.specs.ReadOut.{AreBytes, AreRead}
use Rattle.cert_bytes.specs.Readers.{Progress, fresh}
use Rattle.cert_bytes.specs.Reading.{Cursor, cursor}
use Rattle.cert_bytes.specs.Styles.{none_seen}
use Rattle.cert_bytes.specs.Spelling.{certificate_of}
use Rattle.cert_checker.specs.declared.fault.CheckStop.{CheckStop}
use Rattle.cert_checker.specs.declared.keep.Accepted.{Accepted}
use Rattle.cert_checker.specs.declared.subject.Subject.{Subject}
use Rattle.cert_checker.specs.Accepted.{Accepts}
use Rattle.cert_checker.specs.Keeping.{lines_of}
use Rattle.script_checker.specs.Subjects.{IsSubjectOf}
use Rattle.script_checker.specs.Checking.{AreAcceptedFor, AreAcceptedItemsFor, ChecksFor, ShowsFor}
use Rattle.cert_trim.specs.Law.{AcceptsTrimmed, AllLeftAreUsed, AreLedBySome}
use Rattle.command_runs.specs.Runs.{Bytes, Told}
use Rattle.trim_command.specs.Trimmed.{AreTrimmable}

-- what is so of the bytes from where it is, by its name, is so of them from the first byte on
pub from_first : (told : Told) (name : Bytes) (r : Progress) → r ≡ fresh name
    → (P : Bytes → Cursor → Type 0)
    → ((all : Bytes) → told r.ahead.name ≡ Some all → P all (cursor_of all r.ahead))
    → (all : Bytes) → told name ≡ Some all → P all (cursor First all 0)
from_first told name r begins P h all e =
    subst (λ (q : Progress). P all (cursor_of all q.ahead)) begins
    (h all (ap (λ (q : Progress). told q.ahead.name) begins ∙ e))

-- accepted items are accepted as they are spelled in version 2
pub accepted_new : (s : View) (t : Subject) (items : List Item) (lines : List Line)
    → IsSubjectOf s t → Accepts t items lines → AreAcceptedFor s (certificate_of items) lines
accepted_new s t items lines is accepts = record {
  subject = t;
  is = is;
  accepted = record {
    items = items;
    spelled = record {
      style = Second none_seen;
      spells = record { opens = refl; certificate = accepts.certificate; spelled = refl };
    };
    accepts = accepts;
  };
}

module _ (law : AcceptsTrimmed) (used : AllLeftAreUsed) (s : View) (cert : Option Bytes)
    (result : Result Accepted CheckStop)
    (checks : (all : Bytes) → cert ≡ Some all → ChecksFor s (cursor First all 0) (lines_of result))
    (reads : (all : Bytes) → cert ≡ Some all
    → IfOk result (λ a. AreRead Head (cursor First all 0) a.items.items))
    (spells : (all : Bytes) → cert ≡ Some all → AreBytes all
    → IfOk result (λ a. SpellsCertificate all a.items.items))
    (accepts : IfOk result (AreAcceptedItemsFor s)) where
  trimmable_ok : (a : Accepted)
      → ((all : Bytes) → cert ≡ Some all → ShowsFor s (cursor First all 0) a.lines)
      → ((all : Bytes) → cert ≡ Some all → AreRead Head (cursor First all 0) a.items.items)
      → ((all : Bytes) → cert ≡ Some all → AreBytes all → SpellsCertificate all a.items.items)
      → AreAcceptedItemsFor s a → AreTrimmable s cert a.items.items
  trimmable_ok a shows are_read are_spelled (t, is, whole) = record {
    shown = a.lines.rows;
    whole = (t, is, whole, law t a.items.items a.lines.rows whole);
    comes = λ all e. let h = shows all e in
        (h.shows.end, (h.subject, h.is, h.shows.comes), h.shows.rows);
    read = are_read;
    spelled = λ all e b. let h = are_spelled all e b in (
      h,
      record {
        subject = t;
        is = is;
        accepted = record { items = a.items.items; spelled = h; accepts = whole };
      },
    );
    kept = accepted_new s t _ a.lines.rows is (law t a.items.items a.lines.rows whole);
    used = used t a.items.items whole.end whole.leads;
  }

  pub trimmable : IfOk result (λ a. AreTrimmable s cert a.items.items)
  trimmable = by result checks reads spells accepts where
    by : (r : Result Accepted CheckStop)
        → ((all : Bytes) → cert ≡ Some all → ChecksFor s (cursor First all 0) (lines_of r))
        → ((all : Bytes) → cert ≡ Some all
        → IfOk r (λ a. AreRead Head (cursor First all 0) a.items.items))
        → ((all : Bytes) → cert ≡ Some all → AreBytes all
        → IfOk r (λ a. SpellsCertificate all a.items.items))
        → IfOk r (AreAcceptedItemsFor s) → IfOk r (λ a. AreTrimmable s cert a.items.items)
    by (Ok a) c d e f = trimmable_ok a c d e f
    by (Err x) c d e f = tt

-- nothing is wrong with them
pub led_by_some : (s : View) (r : Result Accepted CheckStop) → IfOk r (AreAcceptedItemsFor s)
    → IfOk r (λ a. AreLedBySome a.items.items)
led_by_some s (Ok a) (t, is, whole) = (t, whole.end, whole.leads)
led_by_some s (Err e) h = tt
