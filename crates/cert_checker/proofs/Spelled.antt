-- Bytes that are accepted spell a certificate that is accepted, and the other way round.
use Rattle.std.proofs.Common.{List, [], ◌∷◌, refl}
use Rattle.cert_bytes.specs.declared.item.Item.{Item}
use Rattle.cert_bytes.specs.declared.order.DueItem.{DueItem}
use Rattle.cert_bytes.specs.declared.order.DueItem.TheVariants.{Head}
use Rattle.cert_bytes.specs.declared.style.Style.TheVariants.{First}
use Rattle.cert_bytes.specs.Due.{due_behind}
use Rattle.cert_bytes.specs.Reading.{Cursor, cursor}
use Rattle.cert_bytes.specs.ReadOut.{AreRead, ReadsAreSpelled, SpelledAreRead}
use Rattle.cert_checker.specs.declared.subject.Subject.{Subject}
use Rattle.cert_checker.specs.Contexts.{Context, first}
use Rattle.cert_checker.specs.After.{after}
use Rattle.cert_checker.specs.Accepted.{LeadsTo}
use Rattle.cert_checker.specs.Outcomes.{accepted, Comes, AcceptedAreSpelled, SpelledAreAccepted}
use Rattle.cert_checker.proofs.OverScripts.{come_in_order}
use Rattle.cert_checker.proofs.Roots.{have_each_root}

come_read : (s : Subject) (d : DueItem) (p : Cursor) (c end : Context) (items : List Item)
    → Comes s d p c items (accepted end) → AreRead d p items
come_read s d p c end [] h = h.0
come_read s d p c end (i ∷ items) h =
    (h.1.0, h.1.1, h.0, come_read s (due_behind d i) h.1.0 (after c i) end items h.1.3)

read_come : (s : Subject) (d : DueItem) (p : Cursor) (c end : Context) (items : List Item)
    → AreRead d p items → LeadsTo s c items end → Comes s d p c items (accepted end)
read_come s d p c end [] r l = (r, l)
read_come s d p c end (i ∷ items) r l =
    (r.2, (r.0, r.1, l.0, read_come s (due_behind d i) r.0 (after c i) end items r.3 l.1))

pub accepted_are_spelled : ReadsAreSpelled → AcceptedAreSpelled
accepted_are_spelled spelled s bytes end all comes =
    let items = comes.0 in
    let t = come_in_order s Head (cursor First bytes 0) (first s) end items comes.1 in
    let whole = spelled bytes items all
    (come_read s Head (cursor First bytes 0) (first s) end items comes.1) in (
      items,
      whole,
      record {
        certificate = whole.spells.certificate;
        end = end;
        leads = t.1;
        cases = have_each_root s items end t.0 t.1;
        shown = refl;
      },
    )

pub spelled_are_accepted : SpelledAreRead → SpelledAreAccepted
spelled_are_accepted read s bytes items lines short whole acc = (
  acc.end,
  (
    items,
    read_come s Head (cursor First bytes 0)
        (first s) acc.end items (read bytes items short whole) acc.leads,
  ),
  acc.shown,
)
