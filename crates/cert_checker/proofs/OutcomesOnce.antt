-- One thing comes of bytes.
use Rattle.std.proofs.Common.{◌≡◌, List, [], ◌∷◌, Some, None, Ok, Err, refl, sym, ap, subst, ◌∙◌}
use Rattle.cert_bytes.specs.declared.fault.CertFault.{CertFault}
use Rattle.cert_bytes.specs.declared.item.Item.{Item}
use Rattle.cert_bytes.specs.declared.item.Item.TheVariants as item
use Rattle.cert_bytes.specs.declared.order.DueItem.{DueItem}
use Rattle.cert_bytes.specs.declared.order.DueItem.TheVariants.{Head, Done}
use Rattle.cert_bytes.specs.Due.{due_behind}
use Rattle.cert_bytes.specs.Reading.{Cursor, Read, styled, entry_at, item_at}
use Rattle.cert_bytes.specs.Styles.{style_after}
use Rattle.cert_checker.specs.declared.fault.CheckFault.{CheckFault}
use Rattle.cert_checker.specs.declared.subject.Subject.{Subject}
use Rattle.cert_checker.specs.Contexts.{Context, first}
use Rattle.cert_checker.specs.Faults.{JudgesItem}
use Rattle.cert_checker.specs.After.{after}
use Rattle.cert_checker.specs.Outcomes.{Outcome, accepted, unread, refused, StopsAt, Comes}
use Rattle.cert_checker.specs.Outcomes.{ComesOnce}
use Rattle.cert_checker.proofs.Once.{judged_once, sound_end, same_fault}
use Rattle.cert_checker.proofs.ReadItems.{item_in, place_in}

same_item : (r : Read Item) (i j : Item) (p q : Cursor) → r ≡ Ok (i, p) → r ≡ Ok (j, q) → i ≡ j
same_item r i j p q e f = ap (item_in i) (sym e ∙ f)

same_place : (r : Read Item) (i j : Item) (p q : Cursor) → r ≡ Ok (i, p) → r ≡ Ok (j, q) → p ≡ q
same_place r i j p q e f = ap (place_in p) (sym e ∙ f)

never : (r : Read Item) (i : Item) (p : Cursor) (f : CertFault) → r ≡ Ok (i, p) → r ≡ Err f → ⊥
never r i p f e g = let h : Ok (i, p) ≡ Err f = sym e ∙ g in cc

same_unread : (r : Read Item) (f g : CertFault) → r ≡ Err f → r ≡ Err g → f ≡ g
same_unread r f g e h = let k : Err f ≡ Err g = sym e ∙ h in cc

-- at the end nothing is wrong with the end
at_end : (s : Subject) (d : DueItem) (p q : Cursor) (c : Context) (i : Item) (f : CheckFault)
    → d ≡ Done → item_at d p ≡ Ok (i, q) → JudgesItem s c i (Some f) → ⊥
unfolding item_at entry_at
at_end s d p q c i f e r j =
    let h : item_at Done p ≡ Ok (i, q) = subst (λ (x : DueItem). item_at x p ≡ Ok (i, q)) e r in
    let k : i ≡ item.End = same_item (Ok (
      item.End,
      styled (style_after p.style item.End) p,
    )) i item.End q (styled (style_after p.style item.End) p) h refl in
    sound_end s c f (subst (λ x. JudgesItem s c x (Some f)) k j)

read_end : (d : DueItem) (p : Cursor) (f : CertFault) → d ≡ Done → item_at d p ≡ Err f → ⊥
unfolding item_at entry_at
read_end d p f e r =
    let h : item_at Done p ≡ Err f = subst (λ (x : DueItem). item_at x p ≡ Err f) e r in
    never (Ok (item.End, styled (style_after p.style item.End) p)) item.End
    (styled (style_after p.style item.End) p) f refl h

stops_once : (s : Subject) (d : DueItem) (p : Cursor) (c : Context) (o other : Outcome)
    → StopsAt s d p c o → StopsAt s d p c other → o ≡ other
stops_once s d p c (accepted x) (accepted y) a b = ap accepted (sym a.1 ∙ b.1)
stops_once s d p c (accepted x) (unread f) a b = absurd (read_end d p f a.0 b)
stops_once s d p c (accepted x) (refused f) a b = absurd (at_end s d p b.1 c b.0 f a.0 b.2 b.3)
stops_once s d p c (unread f) (accepted y) a b = absurd (read_end d p f b.0 a)
stops_once s d p c (unread f) (unread g) a b = ap unread (same_unread (item_at d p) f g a b)
stops_once s d p c (unread f) (refused g) a b = absurd (never (item_at d p) b.0 b.1 f b.2 a)
stops_once s d p c (refused f) (accepted y) a b = absurd (at_end s d p a.1 c a.0 f b.0 a.2 a.3)
stops_once s d p c (refused f) (unread g) a b = absurd (never (item_at d p) a.0 a.1 g a.2 b)
stops_once s d p c (refused f) (refused g) a b =
    let e : a.0 ≡ b.0 = same_item (item_at d p) a.0 b.0 a.1 b.1 a.2 b.2 in
    ap refused (same_fault f g
    (judged_once s c b.0 (Some f) (Some g) (subst (λ x. JudgesItem s c x (Some f)) e a.3) b.3))

-- who stops where another goes on
stops_apart : (s : Subject) (d : DueItem) (p q : Cursor) (c : Context) (i : Item) (o : Outcome)
    → ¬ (d ≡ Done) → item_at d p ≡ Ok (i, q) → JudgesItem s c i None → StopsAt s d p c o → ⊥
stops_apart s d p q c i (accepted x) n r j a = n a.0
stops_apart s d p q c i (unread f) n r j a = never (item_at d p) i q f r a
stops_apart s d p q c i (refused f) n r j a =
    let e : a.0 ≡ i = same_item (item_at d p) a.0 i a.1 q a.2 r in
    let z : None ≡ Some f =
    judged_once s c i None (Some f) j (subst (λ x. JudgesItem s c x (Some f)) e a.3) in cc

goes_once : (s : Subject) (d : DueItem) (p : Cursor) (c : Context) (items others : List Item)
    (o other : Outcome) → Comes s d p c items o → Comes s d p c others other → o ≡ other
goes_once s d p c [] [] o other a b = stops_once s d p c o other a b
goes_once s d p c [] (i ∷ others) o other a b =
    absurd (stops_apart s d p b.1.0 c i o b.0 b.1.1 b.1.2 a)
goes_once s d p c (i ∷ items) [] o other a b =
    absurd (stops_apart s d p a.1.0 c i other a.0 a.1.1 a.1.2 b)
goes_once s d p c (i ∷ items) (j ∷ others) o other a b =
    let e : j ≡ i = same_item (item_at d p) j i b.1.0 a.1.0 b.1.1 a.1.1 in
    let f : b.1.0 ≡ a.1.0 = same_place (item_at d p) j i b.1.0 a.1.0 b.1.1 a.1.1 in
    let P : Item → Type 0 = λ x. Comes s (due_behind d x) b.1.0 (after c x) others other in
    let Q : Cursor → Type 0 = λ x. Comes s (due_behind d i) x (after c i) others other in
    goes_once s (due_behind d i) a.1.0 (after c i) items others o other a.1.3
    (subst Q f (subst P e b.1.3))

pub comes_once : ComesOnce
comes_once s p o other a b = goes_once s Head p (first s) a.0 b.0 o other a.1 b.1
