-- What a reader has read, item by item.
use Rattle.std.specs.Prelude.{◌≡◌, ◌<◌, ◌≤◌, ◌-◌, ◌+◌, ℕ, List, [], ◌∷◌, ◌++◌, Bool, true, false}
use Rattle.std.specs.Prelude.{Option, Some, None, Err, refl}
use Rattle.std.proofs.Common.{sym, ◌∙◌, ap, subst, arith}
use Rattle.cert_bytes.specs.declared.fault.CertFault.{CertFault}
use Rattle.cert_bytes.specs.declared.item.Item.{Item}
use Rattle.cert_bytes.specs.declared.order.DueItem.TheVariants.{Head, Done}
use Rattle.cert_bytes.specs.declared.style.Seen.{Seen}
use Rattle.cert_bytes.specs.declared.style.Style.TheVariants.{First, Second}
use Rattle.cert_bytes.specs.Styles.{IsFew, seen_in}
use Rattle.cert_bytes.specs.Pieces.{cursor_of}
use Rattle.cert_bytes.specs.ReadOut.{AreRead, HasFault, ReadsAreSpelled}
use Rattle.cert_bytes.specs.Readers.{Progress, fresh}
use Rattle.cert_bytes.specs.Reading.{cursor, item_at}
use Rattle.cert_upgrade.proofs.Items.{AreBegun, LeadsFromStart}
use Rattle.cert_upgrade.specs.Items.{AreItemsFor, AreItemsOf, ItemsAreOne, Respells}
use Rattle.cert_upgrade.proofs.Begun.{begun_none, begun_more, begun_all}
use Rattle.cert_upgrade.proofs.Leads.{leads_more, leads_to_end, leads_to_fault, read_once}
use Rattle.cert_upgrade.proofs.Leads.{read_or_fails}
use Rattle.cert_upgrade.proofs.Spelled.{seen_one}

-- Of a name whose bytes may be told a reader has read these items, in which this was seen; it has
-- met no fault, and it has read to the end or it hasn't.
pub record HasRead (told : Option (List ℕ)) (items : List Item) (r : Progress) (seen : Seen)
    (ended : Bool) : Type 0 where
  pub leads : (all : List ℕ) → told ≡ Some all
      → LeadsFromStart all items r.due (cursor_of all r.ahead)
  pub begun : AreBegun items r.due
  pub sound : r.fault ≡ None
  pub end : (ended ≡ true → r.due ≡ Done) × (r.due ≡ Done → ended ≡ true)
  pub seen_is : seen ≡ seen_in items
  pub few : IsFew (Second seen) r.ahead.at

-- how many turns of a loop are left at most, as each item but the end moves the reader on
abbrev pub turns_left : Bool → ℕ → ℕ
turns_left true at = 0
turns_left false at = (17592186044416 - at) + 1

pub fewer_turns : (was ended : Bool) (at next : ℕ) → was ≡ false → (ended ≡ false → at < next)
    → next ≤ 17592186044416 → turns_left ended next < turns_left was at
fewer_turns was true at next o g w = rw o (omega arith)
fewer_turns was false at next o g w = let l = g refl in rw o (omega (arith, l, w))

-- Nothing, at first.
pub read_none : (told : Option (List ℕ)) (name : List ℕ) (r : Progress) (seen : Seen)
    → r ≡ fresh name → seen ≡ seen_in [] → HasRead told [] r seen false
read_none told name r seen e s = record {
  leads = λ all t. (
    sym (ap (λ (p : Progress). p.due) e),
    sym (ap (λ (p : Progress). cursor_of all p.ahead) e),
  );
  begun = begun_none r.due (ap (λ (p : Progress). p.due) e);
  sound = ap (λ (p : Progress). p.fault) e;
  end = ((λ h. cc), λ h. let no : Head ≡ Done = sym (ap (λ (p : Progress). p.due) e) ∙ h in cc no);
  seen_is = s;
  few = subst (λ q. IsFew (Second q) r.ahead.at) (sym s) (omega arith, omega arith);
}

-- Where it hasn't read to the end, more is due.
pub not_done : (told : Option (List ℕ)) (items : List Item) (r : Progress) (seen : Seen)
    (ended : Bool) → HasRead told items r seen ended → ended ≡ false → ¬ (r.due ≡ Done)
not_done told items r seen ended h e d = let no : false ≡ true = sym e ∙ h.end.1 d in cc no

-- One more.
pub read_more : (told : Option (List ℕ)) (items : List Item) (r q : Progress) (seen next : Seen)
    (ended : Bool) (old new : List ℕ) → HasRead told items r seen false
    → (x : Respells told r q seen next ended old new)
    → HasRead told (items ++ x.item ∷ []) q next ended
read_more told items r q seen next ended old new h x =
    let undone : ¬ (r.due ≡ Done) = not_done told items r seen false h refl in
    record {
      leads = λ all t. subst
          (λ d. LeadsFromStart all (items ++ x.item ∷ []) d (cursor_of all q.ahead))
          (sym x.due) (leads_more Head (cursor First all 0) items r.due (cursor_of all r.ahead)
          x.item (cursor_of all q.ahead) (h.leads all t) (x.read all t) undone);
      begun = begun_more items x.item r.due q.due h.begun x.due_is x.fit;
      sound = x.sound;
      end = x.end;
      seen_is = x.seen_is ∙ seen_one items x.item seen h.seen_is;
      few = x.few;
    }

-- To the end these are the bytes' items.
read_all : ReadsAreSpelled → (all : List ℕ) (items : List Item) (r : Progress)
    → LeadsFromStart all items r.due (cursor_of all r.ahead) → r.due ≡ Done → AreItemsOf all items
read_all law all items r l e =
    let read : AreRead Head (cursor First all 0) items =
    leads_to_end Head (cursor First all 0) items r.due (cursor_of all r.ahead) l e in
    record { read = read; spelled = λ bytes. law all items bytes read }

pub read_whole : ReadsAreSpelled → (told : Option (List ℕ)) (items : List Item) (r : Progress)
    (seen : Seen) (ended : Bool) → ended ≡ true → HasRead told items r seen ended
    → AreItemsFor told items
read_whole law told items r seen ended e h = record {
  are = λ all t. read_all law all items r (h.leads all t) (h.end.0 e);
  certificate = begun_all items r.due h.begun (h.end.0 e);
}

-- A fault behind them is the bytes' first.
pub read_fault : (told : Option (List ℕ)) (all : List ℕ) (items : List Item) (r : Progress)
    (seen : Seen) (ended : Bool) (f : CertFault) → told ≡ Some all
    → HasRead told items r seen ended → item_at r.due (cursor_of all r.ahead) ≡ Err f
    → HasFault all f
read_fault told all items r seen ended f t h e = (
  items,
  leads_to_fault Head (cursor First all 0) items r.due (cursor_of all r.ahead) f (h.leads all t) e,
)

-- Bytes have one list of items, or a fault.
pub items_are_one : ItemsAreOne
items_are_one = record {
  once = λ all items others a b. read_once Head (cursor First all 0) items others a.read b.read;
  sound = λ all items f a h. read_or_fails Head (cursor First all 0) items h.0 f a.read h.1;
}
