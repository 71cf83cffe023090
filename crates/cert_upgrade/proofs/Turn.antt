-- One item that is read, and spelled.
use Rattle.std.specs.Prelude.{◌≡◌, ◌≤◌, ◌<◌, ◌++◌, ℕ, List, Bool, true, false, Option, Some, None}
use Rattle.std.specs.Prelude.{Ok, refl}
use Rattle.std.proofs.Common.{sym, ◌∙◌, ap, subst, arith}
use Rattle.cert_bytes.specs.declared.item.Item.{Item}
use Rattle.cert_bytes.specs.declared.item.Item.TheVariants as item
use Rattle.cert_bytes.specs.declared.order.DueItem.{DueItem}
use Rattle.cert_bytes.specs.declared.order.DueItem.TheVariants.{Done}
use Rattle.cert_bytes.specs.declared.style.Seen.{Seen}
use Rattle.cert_bytes.specs.declared.style.Style.TheVariants.{Second}
use Rattle.cert_bytes.specs.Certificates.{HasSpelling, Fits}
use Rattle.cert_bytes.specs.Due.{due_after, due_behind, is_due, is_end}
use Rattle.cert_bytes.specs.Pieces.{cursor_of}
use Rattle.cert_bytes.specs.Readers.{Progress}
use Rattle.cert_bytes.specs.Reading.{item_at}
use Rattle.cert_bytes.specs.Styles.{seen_after, IsFew}
use Rattle.cert_bytes.specs.Spelling.{spelling_of}
use Rattle.cert_bytes.proofs.Next.{due_has_next, done_by_end, end_is_last}
use Rattle.cert_upgrade.specs.Items.{Respells}

the_end : (i : Item) → is_end i ≡ true → i ≡ item.End
the_end item.End e = refl
the_end (item.Nodes n) e = cc
the_end (item.Node n) e = cc
the_end (item.Marks n) e = cc
the_end (item.Mark m) e = cc
the_end (item.Cases n) e = cc
the_end (item.Step s) e = cc
the_end (item.Cut x ps) e = cc
the_end (item.Leaf refs) e = cc
the_end (item.Dead r) e = cc

pub not_end : (i : Item) → is_end i ≡ false → ¬ (i ≡ item.End)
not_end i e f = let no : true ≡ false = sym (ap is_end f) ∙ e in cc no

-- the end is due last
ends_so : (d e : DueItem) (i : Item) → due_after d i ≡ Some e
    → (is_end i ≡ true → e ≡ Done) × (e ≡ Done → is_end i ≡ true)
ends_so d e i n = (
  (λ q. end_is_last d e (subst (λ (x : Item). due_after d x ≡ Some e) (the_end i q) n)),
  (λ q. ap is_end (done_by_end d i (n ∙ ap Some q))),
)

-- what is seen stays few, as each item but the end has a byte
few_more : (seen : Seen) (i : Item) (at next : ℕ) → IsFew (Second seen) at
    → (¬ (i ≡ item.End) → at < next) → at ≤ next → IsFew (Second (seen_after seen i)) next
few_more seen (item.Nodes n) at next (p, q) m g = (omega (arith, p, g), omega (arith, q, g))
few_more seen (item.Node n) at next (p, q) m g = (omega (arith, p, g), omega (arith, q, g))
few_more seen (item.Marks n) at next (p, q) m g = (omega (arith, p, g), omega (arith, q, g))
few_more seen (item.Mark k) at next (p, q) m g = (omega (arith, p, g), omega (arith, q, g))
few_more seen (item.Cases n) at next (p, q) m g = (omega (arith, p, g), omega (arith, q, g))
few_more seen item.End at next (p, q) m g = (omega (arith, p, g), omega (arith, q, g))
few_more seen (item.Step s) at next (p, q) m g =
    let l = m (λ e. cc e) in (omega (arith, p, l), omega (arith, q, l))
few_more seen (item.Cut x ps) at next (p, q) m g =
    let l = m (λ e. cc e) in (omega (arith, p, l), omega (arith, q, l))
few_more seen (item.Leaf refs) at next (p, q) m g =
    let l = m (λ e. cc e) in (omega (arith, p, l), omega (arith, q, l))
few_more seen (item.Dead r) at next (p, q) m g =
    let l = m (λ e. cc e) in (omega (arith, p, l), omega (arith, q, l))

pub respelled : (told : Option (List ℕ)) (before after : Progress) (seen next : Seen)
    (ended : Bool) (old new : List ℕ) (i : Item)
    → ((all : List ℕ) → told ≡ Some all
    → item_at before.due (cursor_of all before.ahead) ≡ Ok (i, cursor_of all after.ahead))
    → ¬ (before.due ≡ Done) → is_due before.due i ≡ true → after.due ≡ due_behind before.due i
    → after.fault ≡ None → HasSpelling i → Fits i
    → (¬ (i ≡ item.End) → before.ahead.at < after.ahead.at) → before.ahead.at ≤ after.ahead.at
    → IsFew (Second seen) before.ahead.at → new ≡ old ++ spelling_of seen i
    → next ≡ seen_after seen i → ended ≡ is_end i
    → Respells told before after seen next ended old new
respelled told before after seen next ended old new i read undone due behind sound spelled
    fits moves later few bytes is last =
    let n : due_after before.due i ≡ Some after.due =
    due_has_next before.due i undone due ∙ ap Some (sym behind) in
    record {
      item = i;
      read = read;
      due = behind;
      due_is = n;
      fit = (spelled, fits);
      sound = sound;
      bytes = bytes;
      seen_is = is;
      few = subst (λ (q : Seen). IsFew (Second q) after.ahead.at) (sym is)
          (few_more seen i before.ahead.at after.ahead.at few moves later);
      end = subst (λ (b : Bool). (b ≡ true → after.due ≡ Done) × (after.due ≡ Done → b ≡ true))
          (sym last) (ends_so before.due after.due i n);
    }
