-- Items that are read one after the other.
use Rattle.std.specs.Prelude.{◌≡◌, List, [], ◌∷◌, ◌++◌, Ok, Err, refl}
use Rattle.std.proofs.Common.{sym, ◌∙◌, ap, subst}
use Rattle.cert_bytes.specs.declared.fault.CertFault.{CertFault}
use Rattle.cert_bytes.specs.declared.item.Item.{Item}
use Rattle.cert_bytes.specs.declared.order.DueItem.{DueItem}
use Rattle.cert_bytes.specs.declared.order.DueItem.TheVariants.{Done}
use Rattle.cert_bytes.specs.Due.{due_behind}
use Rattle.cert_bytes.specs.ReadOut.{AreRead, FailsBehind}
use Rattle.cert_bytes.specs.Reading.{Cursor, Read, item_at, entry_at}
use Rattle.cert_upgrade.proofs.Items.{LeadsTo}

-- the same is read at one place
same_place : (d e : DueItem) (c end : Cursor) → d ≡ e → c ≡ end → item_at d c ≡ item_at e end
same_place d e c end p q = ap (λ x. item_at x c) p ∙ ap (λ y. item_at e y) q

-- one more
pub leads_more : (d : DueItem) (c : Cursor) (items : List Item) (e : DueItem)
    (end : Cursor) (i : Item)
    (next : Cursor) → LeadsTo d c items e end → item_at e end ≡ Ok (i, next) → ¬ (e ≡ Done)
    → LeadsTo d c (items ++ i ∷ []) (due_behind e i) next
leads_more d c [] e end i next l r n = (
  next,
  same_place d e c end l.0 l.1 ∙ r,
  (λ q. n (sym l.0 ∙ q)),
  (ap (λ x. due_behind x i) l.0, refl),
)
leads_more d c (k ∷ items) e end i next l r n =
    (l.0, l.1, l.2, leads_more (due_behind d k) l.0 items e end i next l.3 r n)

-- to the end
pub leads_to_end : (d : DueItem) (c : Cursor) (items : List Item) (e : DueItem) (end : Cursor)
    → LeadsTo d c items e end → e ≡ Done → AreRead d c items
leads_to_end d c [] e end l h = l.0 ∙ h
leads_to_end d c (i ∷ items) e end l h =
    (l.0, l.1, l.2, leads_to_end (due_behind d i) l.0 items e end l.3 h)

-- to a fault
pub leads_to_fault : (d : DueItem) (c : Cursor) (items : List Item) (e : DueItem) (end : Cursor)
    (f : CertFault) → LeadsTo d c items e end → item_at e end ≡ Err f → FailsBehind d c items f
leads_to_fault d c [] e end f l r = same_place d e c end l.0 l.1 ∙ r
leads_to_fault d c (i ∷ items) e end f l r =
    (l.0, l.1, l.2, leads_to_fault (due_behind d i) l.0 items e end f l.3 r)

abbrev given : Item × Cursor → Read Item
given p = Ok p

ok_is : (p q : Item × Cursor) → given p ≡ given q → p ≡ q
ok_is p q e = cc

-- One item stands at a place.
one_item : (d : DueItem) (c : Cursor) (i j : Item) (m n : Cursor) → item_at d c ≡ Ok (i, m)
    → item_at d c ≡ Ok (j, n) → (i ≡ j) × (m ≡ n)
one_item d c i j m n e h =
    let pairs = ok_is (i, m) (j, n) (sym e ∙ h) in
    (ap (λ (p : Item × Cursor). p.0) pairs, ap (λ (p : Item × Cursor). p.1) pairs)

-- Items that were read begin those that are read to the end,
pub leads_front : (d : DueItem) (c : Cursor) (items : List Item) (e : DueItem) (end : Cursor)
    (all : List Item) → LeadsTo d c items e end → AreRead d c all
    → (rest : List Item) × (all ≡ items ++ rest)
leads_front d c [] e end all l a = (all, refl)
leads_front d c (i ∷ items) e end [] l a = absurd (l.2 a)
leads_front d c (i ∷ items) e end (j ∷ all) l a =
    let one = one_item d c i j l.0 a.0 l.1 a.1 in
    let read : AreRead (due_behind d i) l.0 all =
    subst (λ k. AreRead (due_behind d k) l.0 all) (sym one.0)
    (subst (λ p. AreRead (due_behind d j) p all) (sym one.1) a.3) in
    let more = leads_front (due_behind d i) l.0 items e end all l.3 read in
    (more.0, ap (λ k. k ∷ all) (sym one.0) ∙ ap (λ is. i ∷ is) more.1)

-- and where nothing more is due they are these.
pub read_once : (d : DueItem) (c : Cursor) (items others : List Item) → AreRead d c items
    → AreRead d c others → items ≡ others
read_once d c [] [] a b = refl
read_once d c [] (j ∷ others) a b = absurd (b.2 a)
read_once d c (i ∷ items) [] a b = absurd (a.2 b)
read_once d c (i ∷ items) (j ∷ others) a b =
    let one = one_item d c i j a.0 b.0 a.1 b.1 in
    let read : AreRead (due_behind d i) a.0 others =
    subst (λ k. AreRead (due_behind d k) a.0 others) (sym one.0)
    (subst (λ p. AreRead (due_behind d j) p others) (sym one.1) b.3) in
    ap (λ is. i ∷ is) (read_once (due_behind d i) a.0 items others a.3 read)
    ∙ ap (λ k. k ∷ others) one.0

-- Behind the end there is no fault.
nothing_fails : (c : Cursor) (f : CertFault) → item_at Done c ≡ Err f → ⊥
unfolding item_at entry_at
nothing_fails c f h = cc

end_is_sound : (d : DueItem) (c : Cursor) (f : CertFault) → d ≡ Done → item_at d c ≡ Err f → ⊥
end_is_sound d c f e h = nothing_fails c f (ap (λ x. item_at x c) (sym e) ∙ h)

-- Items that are read to the end have no fault behind any.
pub read_or_fails : (d : DueItem) (c : Cursor) (items others : List Item) (f : CertFault)
    → AreRead d c items → FailsBehind d c others f → ⊥
read_or_fails d c [] [] f a b = end_is_sound d c f a b
read_or_fails d c [] (j ∷ others) f a b = absurd (b.2 a)
read_or_fails d c (i ∷ items) [] f a b =
    let no : Ok (i, a.0) ≡ Err f = sym a.1 ∙ b in cc no
read_or_fails d c (i ∷ items) (j ∷ others) f a b =
    let one = one_item d c i j a.0 b.0 a.1 b.1 in
    let fails : FailsBehind (due_behind d i) a.0 others f =
    subst (λ k. FailsBehind (due_behind d k) a.0 others f) (sym one.0)
    (subst (λ p. FailsBehind (due_behind d j) p others f) (sym one.1) b.3) in
    read_or_fails (due_behind d i) a.0 items others f a.3 fails
