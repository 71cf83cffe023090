-- Items that are kept one after the other.
use Rattle.std.proofs.Common.{◌≡◌, ◌++◌, ℕ, true, List, [], ◌∷◌, Option, Some, None, Ok, Err}
use Rattle.std.proofs.Common.{Result, sym, ap, subst, append-nil, append_assoc}
use Rattle.std.specs.Prelude.{IfOk}
use Rattle.std.specs.List.{AllByRecursion}
use Rattle.goals.specs.declared.line.Line.{Line}
use Rattle.cert_bytes.specs.declared.item.Item.{Item}
use Rattle.cert_bytes.specs.declared.order.DueItem.{DueItem}
use Rattle.cert_bytes.specs.declared.order.DueItem.TheVariants.{Head, Done}
use Rattle.cert_bytes.specs.declared.style.Style.{Style}
use Rattle.cert_bytes.specs.declared.style.Style.TheVariants.{First}
use Rattle.cert_bytes.specs.Due.{due_after, due_behind, is_due}
use Rattle.cert_bytes.specs.Certificates.{HasSpelling, Fits, AreDue, AreCertificate}
use Rattle.cert_bytes.specs.Certificates.{SpellsCertificate}
use Rattle.cert_bytes.specs.Pieces.{cursor_of}
use Rattle.cert_bytes.specs.Readers.{Progress}
use Rattle.cert_bytes.specs.Reading.{Cursor, cursor, item_at}
use Rattle.cert_bytes.specs.ReadOut.{AreBytes, AreRead, ReadsAreSpelled}
use Rattle.cert_bytes.proofs.Next.{due_has_next}
use Rattle.cert_checker.specs.declared.fault.CheckStop.{CheckStop}
use Rattle.cert_checker.specs.declared.subject.Subject.{Subject}
use Rattle.cert_checker.specs.Contexts.{Context, first}
use Rattle.cert_checker.specs.Faults.{JudgesItem}
use Rattle.cert_checker.specs.After.{after}
use Rattle.cert_checker.specs.Standing.{Standing}
use Rattle.cert_checker.specs.Accepted.{LeadsTo, Accepts, HaveEachRoot}
use Rattle.cert_checker.specs.Checking.{IsFresh, TakesNext}
use Rattle.cert_checker.specs.declared.keep.Accepted.{Accepted}
use Rattle.cert_checker.specs.Keeping.{TookItem, AreAcceptedItems}
use Rattle.cert_checker.proofs.Order.{in_order}

pub taken : (told : Option (List ℕ)) (c d : Standing) (r q : Progress) (i : Item)
    → TookItem told c d r q i → TakesNext told c d r q
taken told c d r q i t = record {
  item = i;
  order = t.order;
  read = t.read;
  judged = t.judged;
  taken = t.taken;
  due = t.due;
  reads = t.reads;
  grows = t.grows;
  moves = t.moves;
}

pub led_more : (s : Subject) (c mid : Context) (items : List Item) (i : Item)
    → LeadsTo s c items mid → JudgesItem s mid i None → LeadsTo s c (items ++ i ∷ []) (after mid i)
led_more s c mid [] i l j = (subst (λ x. JudgesItem s x i None) (sym l) j, ap (λ x. after x i) l)
led_more s c mid (k ∷ items) i l j = (l.0, led_more s (after c k) mid items i l.1 j)

-- one item more, with which items that are due go on to the end
pub whole_more : (d e : DueItem) (items more : List Item) (i : Item)
    → ((later : List Item) → AreDue (Some d) later → AreCertificate (items ++ later))
    → ¬ (d ≡ Done) → is_due d i ≡ true → e ≡ due_behind d i → HasSpelling i × Fits i
    → AreDue (Some e) more → AreCertificate ((items ++ i ∷ []) ++ more)
whole_more d e items more i so_far going order is fits rest =
    let P : Option DueItem → Type 0 = λ x. AreDue x more in
    let Q : DueItem → Type 0 = λ x. AreDue (Some x) more in
    let due : AreDue (due_after d i) more =
    subst P (sym (due_has_next d i going order)) (subst Q is rest) in
    subst AreCertificate (sym (append_assoc items (i ∷ []) more)) (so_far (i ∷ more) (fits, due))

pub read_more : (start c : Cursor) (d e : DueItem) (next : Cursor) (items later : List Item)
    (i : Item) → ((more : List Item) → AreRead d c more → AreRead Head start (items ++ more))
    → item_at d c ≡ Ok (i, next) → ¬ (d ≡ Done) → e ≡ due_behind d i → AreRead e next later
    → AreRead Head start ((items ++ i ∷ []) ++ later)
read_more start c d e next items later i so_far read going is rest =
    subst (AreRead Head start) (sym (append_assoc items (i ∷ []) later))
    (so_far (i ∷ later) (next, read, going, subst (λ x. AreRead x next later) is rest))

-- ---- items to the end

pub all_accepted : HaveEachRoot → (s : Subject) (items : List Item) (d : DueItem) (end : Context)
    (rows : List Line)
    → ((later : List Item) → AreDue (Some d) later → AreCertificate (items ++ later)) → d ≡ Done
    → LeadsTo s (first s) items end → rows ≡ end.lines → Accepts s items rows
all_accepted roots s items d end rows so_far done leads are =
    let whole : AreCertificate items =
    subst AreCertificate (append-nil items) (so_far [] done) in
    record {
      certificate = whole;
      end = end;
      leads = leads;
      cases = roots s items end (in_order (Some Head) items whole) leads;
      shown = sym are;
    }

spelled_in : (o : Option DueItem) (items : List Item)
    → AreDue o items → AllByRecursion HasSpelling items
spelled_in None items h = absurd h
spelled_in (Some d) [] h = tt
spelled_in (Some d) (i ∷ items) h = (h.0.0, spelled_in (due_after d i) items h.1)

pub all_spelled : (s : Subject) (result : Result Accepted CheckStop)
    → IfOk result (AreAcceptedItems s)
    → IfOk result (λ a. AllByRecursion HasSpelling a.items.items)
all_spelled s (Ok a) h = spelled_in (Some Head) a.items.items h.certificate
all_spelled s (Err e) h = tt

-- ---- items that bytes spell

module _ (all : List ℕ) (r : Progress) (fresh : IsFresh r) (bytes : AreBytes all)
    (spelled : ReadsAreSpelled) where
  from_first : (items : List Item)
      → AreRead Head (cursor_of all r.ahead) items → AreRead Head (cursor First all 0) items
  from_first items h =
      let P : Style → ℕ → Type 0 = λ style at. AreRead Head (cursor style all at) items in
      let Q : Style → Type 0 = λ style. P style 0 in
      subst Q fresh.style (subst (P r.ahead.style) fresh.at h)

  pub spelled_so : (result : Result Accepted CheckStop)
      → IfOk result (λ a. AreRead Head (cursor_of all r.ahead) a.items.items)
      → IfOk result (λ a. SpellsCertificate all a.items.items)
  spelled_so (Ok a) read = spelled all a.items.items bytes (from_first a.items.items read)
  spelled_so (Err e) read = tt
