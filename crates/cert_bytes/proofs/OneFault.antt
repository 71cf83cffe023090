-- Bytes spell items or have one first fault, never both.
use Rattle.std.proofs.Common.{◌≡◌, ◌≤◌, ◌<◌, ◌+◌, ◌++◌, ◌∷◌, [], ◌⊎◌, inl, inr, ⊎_elim}
use Rattle.std.proofs.Common.{ℕ, zero, suc, List, length, Some, Ok, Err, refl}
use Rattle.std.proofs.Common.{sym, ap, subst, ◌∙◌, arith}
use Rattle.std.proofs.lemmas.List.{append-nil, length-append}
use Rattle.cert_bytes.specs.declared.fault.CertFault.{CertFault}
use Rattle.cert_bytes.specs.declared.item.Item.{Item}
use Rattle.cert_bytes.specs.declared.item.Item.TheVariants as item
use Rattle.cert_bytes.specs.declared.style.Style.{Style}
use Rattle.cert_bytes.specs.declared.style.Style.TheVariants.{First, Second}
use Rattle.cert_bytes.specs.Styles.{style_after, IsStyleFor, IsFew}
use Rattle.cert_bytes.specs.declared.order.DueItem.{DueItem}
use Rattle.cert_bytes.specs.declared.order.DueItem.TheVariants.{Head, Nodes, Marks, Sections, Done}
use Rattle.cert_bytes.specs.Due.{due_after, due_behind}
use Rattle.cert_bytes.specs.Certificates.{AreDue}
use Rattle.cert_bytes.specs.Reading.{Cursor, Read, cursor, styled, trailer_at, more_at, end_item_at}
use Rattle.cert_bytes.specs.Reading.{closed_at, entry_at, item_at, ◌>>=◌}
use Rattle.cert_bytes.specs.ReadBack.{place}
use Rattle.cert_bytes.specs.ReadOut.{AreBytes, IsRead, AreRead, FailsBehind, ReadsAreSpelled}
use Rattle.cert_bytes.specs.ReadOut.{SpelledAreRead, SpellOrFail, NeverBoth, OneFault}
use Rattle.cert_bytes.specs.Spelling.{trailer, spelling, spelled_from}
use Rattle.cert_bytes.proofs.Lengths.{items_have_a_byte}
use Rattle.cert_bytes.proofs.Paced.{few_at_first, fewer_than}
use Rattle.cert_bytes.proofs.Format.{bind_out, ok_parts}
use Rattle.cert_bytes.proofs.HeadFormats.{a_trailer, closed_out}
use Rattle.cert_bytes.proofs.ItemFormats.{items_read_back, items_read_out, behind_after, last_way}
use Rattle.cert_bytes.proofs.Whole.{some_same, due_some, none_behind, end_alone, is_end, not_head}
use Rattle.cert_bytes.proofs.Whole.{same_style}

-- ---- the end

is_done : (d : DueItem) → (d ≡ Done) ⊎ (¬ (d ≡ Done))
is_done Head = inr (λ e. cc)
is_done (Nodes n) = inr (λ e. cc)
is_done (Marks n) = inr (λ e. cc)
is_done (Sections n) = inr (λ e. cc)
is_done Done = inl refl

-- nothing is due behind the end alone
last_due : (d : DueItem) (i : Item) → due_after d i ≡ Some Done → (d ≡ Sections 0) × (i ≡ item.End)
last_due Head (item.Nodes n) q = cc
last_due (Nodes (suc k)) (item.Node n) q = cc
last_due (Nodes zero) (item.Marks n) q = cc
last_due (Marks (suc k)) (item.Mark m) q = cc
last_due (Marks zero) (item.Cases n) q = cc
last_due (Marks zero) (item.Step s) q = cc
last_due (Marks zero) (item.Cut x ps) q = cc
last_due (Marks zero) (item.Leaf refs) q = cc
last_due (Marks zero) (item.Dead r) q = cc
last_due (Sections (suc w)) (item.Step s) q = cc
last_due (Sections (suc w)) (item.Cut x ps) q = cc
last_due (Sections (suc w)) (item.Leaf refs) q = cc
last_due (Sections (suc w)) (item.Dead r) q = cc
last_due (Sections zero) item.End q = (refl, refl)
last_due d i q = cc

-- behind it no byte is left
at_end : (d : DueItem) (c next : Cursor) (i : Item) → AreBytes c.rest → item_at d c ≡ Ok (i, next)
    → d ≡ Sections 0 → next.rest ≡ []
unfolding item_at
at_end d c next i b e z =
    let q : item_at (Sections 0) c ≡ Ok (i, next) =
    subst (λ (d : DueItem). item_at d c ≡ Ok (i, next)) z e in
    let o = bind_out (entry_at (Sections 0) c)
    (λ v. Ok (v.0, styled (style_after v.1.style v.0) v.1)) (i, next) q in
    let r = closed_out c o.0.1 o.0.0 b (sym (last_way c) ∙ o.1) in
    sym (ap (λ (c : Cursor). c.rest)
    (ok_parts o.0.0 i (styled (style_after o.0.1.style o.0.0) o.0.1) next o.2).1) ∙ r.none

end_behind : (d : DueItem) (c next : Cursor) (i : Item) → AreBytes c.rest → IsRead d c next i
    → item_at d c ≡ Ok (i, next) → due_behind d i ≡ Done → next.rest ≡ []
end_behind d c next i b r e z = at_end d c next i b e (last_due d i (r.due ∙ ap (λ d. Some d) z)).0

-- ---- what is read to the end was spelled

-- the items, with the style in which the first of them is spelled
record AreSpelled (d : DueItem) (c : Cursor) (items : List Item) : Type 0 where
  style : Style
  is_style : IsStyleFor d c.style style
  due : AreDue (Some d) items
  bytes : c.rest ≡ spelled_from style items

only_style : (e : DueItem) (old style : Style) → ¬ (e ≡ Head) → IsStyleFor e old style → style ≡ old
only_style Head old style n s = absurd (n refl)
only_style (Nodes k) old style n s = s
only_style (Marks k) old style n s = s
only_style (Sections k) old style n s = s
only_style Done old style n s = s

done_is_spelled : (d : DueItem) (c : Cursor) → d ≡ Done → c.rest ≡ [] → AreSpelled d c []
done_is_spelled d c z e = record {
  style = c.style;
  is_style = subst (λ (d : DueItem). IsStyleFor d c.style c.style) (sym z) refl;
  due = z;
  bytes = e;
}

are_spelled : (d : DueItem) (c : Cursor) (items : List Item) → AreBytes c.rest
    → (d ≡ Done → c.rest ≡ []) → AreRead d c items → AreSpelled d c items
are_spelled d c [] b z a = done_is_spelled d c a (z a)
are_spelled d c (i ∷ items) b z a =
    let r = items_read_out d c a.0 i b a.2 a.1 in
    let rest = are_spelled (due_behind d i) a.0 items r.behind (end_behind d c a.0 i b r a.1) a.3 in
    let style : rest.style ≡ style_after r.style i = only_style (due_behind d i) a.0.style
    rest.style (λ h. not_head d i (r.due ∙ ap (λ d. Some d) h)) rest.is_style ∙ r.styled in record {
      style = r.style;
      is_style = r.is_style;
      due = ((r.spelling, r.fits), subst (λ o. AreDue o items) (sym r.due) rest.due);
      bytes = r.bytes ∙ ap (λ (s : List ℕ). spelling i r.style ++ s) (rest.bytes
          ∙ ap (λ (style : Style). spelled_from style items) style);
    }

pub reads_are_spelled : ReadsAreSpelled
reads_are_spelled bytes items b a =
    let r = are_spelled Head (cursor First bytes 0) items b (λ e. cc) a in record {
      style = r.style;
      spells = record { opens = r.is_style; certificate = r.due; spelled = r.bytes };
    }

-- ---- what is spelled is read

-- the end, behind which nothing is
ended : (style : Style) (at : ℕ)
    → end_item_at (place style at []) ≡ Ok (item.End, place style at [])
unfolding end_item_at more_at
ended style at = refl

closed : (style : Style) (at : ℕ) → IsFew style at
    → at + length (trailer style) ≤ 17592186044416 → closed_at (place style at (trailer style))
    ≡ Ok (item.End, place style (at + length (trailer style)) [])
unfolding closed_at
closed First at f l = ended First at
    ∙ ap (λ (n : ℕ). Ok (item.End, place First n [])) (let e : at ≡ at + 0 = omega arith in e)
closed (Second seen) at f l =
    let steps = f.0 in let sections = f.1 in
    let read = (a_trailer seen).back tt (omega (arith, sections, l), omega (arith, steps, l))
    (Second seen) at [] l in
    ap (λ (s : List ℕ). trailer_at seen (place (Second seen) at s)
    >>= λ trailer. end_item_at trailer.1) (sym (append-nil (trailer (Second seen))))
    ∙ ap (λ q. q >>= λ trailer. end_item_at trailer.1) read
    ∙ ended (Second seen) (at + length (trailer (Second seen)))

kept_behind : (style : Style) → style_after style item.End ≡ style
kept_behind First = refl
kept_behind (Second seen) = refl

closed_here : (style : Style) (at : ℕ)
    → IsFew style at → at + length (trailer style) ≤ 17592186044416
    → item_at (Sections 0) (place style at (trailer style))
    ≡ Ok (item.End, place (style_after style item.End) (at + length (trailer style)) [])
unfolding item_at
closed_here style at f l = ap (λ q. q >>= λ v. Ok (v.0, styled (style_after v.1.style v.0) v.1))
    (last_way (place style at (trailer style)) ∙ closed style at f l)

no_more : (e : DueItem) (items : List Item) → e ≡ Done → AreDue (Some e) items → items ≡ []
no_more e [] z a = refl
no_more e (i ∷ items) z a = absurd (none_behind e i items z a.1)

reads_end : (d e : DueItem) (i : Item) (items : List Item) (old style : Style) (at : ℕ)
    → i ≡ item.End → due_after d i ≡ Some e → AreDue (Some e) items → IsStyleFor d old style
    → IsFew style at → at + length (spelling i style) ≤ 17592186044416
    → item_at d (place old at (spelling i style ++ spelled_from (style_after style i) items)) ≡ Ok (
      i,
      place (style_after style i) (at + length (spelling i style))
          (spelled_from (style_after style i) items),
    )
reads_end d e i items old style at z q a u f l =
    let first : due_after d item.End ≡ Some e = subst (λ (i : Item). due_after d i ≡ Some e) z q in
    let s : d ≡ Sections 0 = end_alone d e first in
    let done : Some Done ≡ Some e =
    subst (λ (d : DueItem). due_after d item.End ≡ Some e) s first in
    let none : items ≡ [] = no_more e items (sym (some_same Done e done)) a in
    let kept : style ≡ old = subst (λ (d : DueItem). IsStyleFor d old style) s u in
    let m : at + length (trailer style) ≤ 17592186044416 =
    subst (λ (i : Item). at + length (spelling i style) ≤ 17592186044416) z l in
    rw (s, z, none, sym kept) (ap (λ (s : List ℕ). item_at (Sections 0) (place style at s))
    (append-nil (trailer style)) ∙ closed_here style at f m)

read_from : (d : DueItem) (old style : Style) (at : ℕ) (items : List Item)
    → at + length (spelled_from style items) ≤ 17592186044416
    → IsStyleFor d old style → IsFew style at → AreDue (Some d) items
    → AreRead d (place old at (spelled_from style items)) items
read_from d old style at [] l u f a = a
read_from d old style at (i ∷ items) l u f a =
    let next : Style = style_after style i in
    let o = due_some (due_after d i) items a.1 in
    let size = length-append (spelling i style) (spelled_from next items) in
    let due : o.0 ≡ due_behind d i =
    some_same o.0 (due_behind d i) (sym o.1 ∙ behind_after d i o.0 o.1) in
    let left : ¬ (d ≡ Done) = λ z. none_behind d i items z a.1 in
    let here : item_at d (place old at (spelling i style ++ spelled_from next items))
    ≡ Ok (i, place next (at + length (spelling i style)) (spelled_from next items)) = ⊎_elim
    (λ z. reads_end d o.0 i items old style at z o.1 o.2 u f (omega (arith, l, size)))
    (λ n. items_read_back d i o.0 old style o.1 u n a.0.0 a.0.1 at (spelled_from next items)
    (omega (arith, l, size)))
    (is_end i) in
    let few : IsFew next (at + length (spelling i style)) =
    fewer_than style at (at + length (spelling i style)) i f
    (λ n. let s = items_have_a_byte i style n in omega (arith, s)) (omega arith) in
    let kept : IsStyleFor (due_behind d i) next next =
    same_style (due_behind d i) next (λ z. not_head d i (o.1 ∙ ap (λ d. Some d) (due ∙ z))) in (
      place next (at + length (spelling i style)) (spelled_from next items),
      here,
      left,
      read_from (due_behind d i) next next
          (at + length (spelling i style)) items (omega (arith, l, size)) kept few
          (subst (λ (e : DueItem). AreDue (Some e) items) due o.2),
    )

pub spelled_are_read : SpelledAreRead
spelled_are_read bytes items l s =
    let x = s.spells in
    subst (λ (b : List ℕ). AreRead Head (cursor First b 0) items) (sym x.spelled)
    (read_from Head First s.style 0 items
    (let e : length bytes ≡ length (spelled_from s.style items) = ap length x.spelled in
    omega (arith, l, e)) x.opens (few_at_first s.style x.opens) x.certificate)

-- ---- one fault, or none

same_fault : (r : Read Item) (f g : CertFault) → r ≡ Err f → r ≡ Err g → f ≡ g
same_fault r f g p q = cc

not_both : (r : Read Item) (f : CertFault) (v : Item × Cursor) → r ≡ Err f → r ≡ Ok v → ⊥
not_both r f v p q = cc

same_read : (r : Read Item) (i j : Item) (n m : Cursor) → r ≡ Ok (i, n)
    → r ≡ Ok (j, m) → (i ≡ j) × (n ≡ m)
same_read r i j n m e f = ok_parts i j n m (sym e ∙ f)

-- what follows another item that was read at the same place follows this one
moved : (d : DueItem) (c : Cursor) (i j : Item) (n m : Cursor) (js : List Item) (f : CertFault)
    → item_at d c ≡ Ok (i, n) → item_at d c ≡ Ok (j, m) → FailsBehind (due_behind d j) m js f
    → FailsBehind (due_behind d i) n js f
moved d c i j n m js f e g q =
    let s = same_read (item_at d c) j i m n g e in
    subst (λ (n : Cursor). FailsBehind (due_behind d i) n js f) s.1
    (subst (λ (i : Item). FailsBehind (due_behind d i) m js f) s.0 q)

one_fault_from : (d : DueItem) (c : Cursor) (items others : List Item) (f g : CertFault)
    → FailsBehind d c items f → FailsBehind d c others g → f ≡ g
one_fault_from d c [] [] f g p q = same_fault (item_at d c) f g p q
one_fault_from d c [] (j ∷ js) f g p q = absurd (not_both (item_at d c) f (j, q.0) p q.1)
one_fault_from d c (i ∷ is) [] f g p q = absurd (not_both (item_at d c) g (i, p.0) q p.1)
one_fault_from d c (i ∷ is) (j ∷ js) f g p q =
    one_fault_from (due_behind d i) p.0 is js f g p.3 (moved d c i j p.0 q.0 js g p.1 q.1 q.3)

pub one_fault : OneFault
one_fault bytes f g p q = one_fault_from Head (cursor First bytes 0) p.0 q.0 f g p.1 q.1

done_reads : (c : Cursor) (f : CertFault) → item_at Done c ≡ Err f → ⊥
unfolding item_at entry_at
done_reads c f e = cc

read_or_fault : (d : DueItem) (c : Cursor) (items others : List Item) (f : CertFault)
    → AreRead d c items → FailsBehind d c others f → ⊥
read_or_fault d c [] [] f a q = done_reads c f (subst (λ (d : DueItem). item_at d c ≡ Err f) a q)
read_or_fault d c [] (j ∷ js) f a q = q.2 a
read_or_fault d c (i ∷ is) [] f a q = not_both (item_at d c) f (i, a.0) q a.1
read_or_fault d c (i ∷ is) (j ∷ js) f a q =
    read_or_fault (due_behind d i) a.0 is js f a.3 (moved d c i j a.0 q.0 js f a.1 q.1 q.3)

pub never_both : NeverBoth
never_both bytes items f l s q =
    read_or_fault Head (cursor First bytes 0) items q.0 f (spelled_are_read bytes items l s) q.1

-- ---- reading ends

abbrev Ends : DueItem → Cursor → Type 0
Ends d c = ((items : List Item) × AreRead d c items)
    ⊎ ((items : List Item) × (f : CertFault) × FailsBehind d c items f)

-- with one item more before it
one_before : (d : DueItem) (c next : Cursor) (i : Item) → item_at d c ≡ Ok (i, next) → ¬ (d ≡ Done)
    → Ends (due_behind d i) next → Ends d c
one_before d c next i e n (inl r) = inl (i ∷ r.0, (next, e, n, r.1))
one_before d c next i e n (inr r) = inr (i ∷ r.0, r.1, (next, e, n, r.2))

fewer : (i : Item) (style : Style) (c next : Cursor) → ¬ (i ≡ item.End)
    → c.rest ≡ spelling i style ++ next.rest → length next.rest + 1 ≤ length c.rest
fewer i style c next n e = let s = items_have_a_byte i style n in
    let l : length c.rest ≡ length (spelling i style) + length next.rest =
    ap length e ∙ length-append (spelling i style) next.rest in omega (arith, s, l)

goes_on : (d : DueItem) (c : Cursor) → ¬ (d ≡ Done) → AreBytes c.rest
    → (r : Read Item) → item_at d c ≡ r
    → ((e : DueItem) (next : Cursor) → length next.rest + 1 ≤ length c.rest → AreBytes next.rest
    → Ends e next) → Ends d c
goes_on d c n b (Err f) e shorter = inr ([], f, e)
goes_on d c n b (Ok v) e shorter =
    let q = items_read_out d c v.1 v.0 b n e in
    one_before d c v.1 v.0 e n (⊎_elim
    (λ z. inl (
      [],
      last d v.0 (end_alone d (due_behind d v.0)
          (subst (λ (i : Item). due_after d i ≡ Some (due_behind d v.0)) z q.due)) z,
    ))
    (λ m. shorter (due_behind d v.0) v.1 (fewer v.0 q.style c v.1 m q.bytes) q.behind)
    (is_end v.0))
  where
    last : (d : DueItem) (i : Item) → d ≡ Sections 0 → i ≡ item.End → due_behind d i ≡ Done
    last d i w z = rw (w, z) refl

reading_ends : (fuel : ℕ) (d : DueItem) (c : Cursor) → length c.rest < fuel
    → AreBytes c.rest → Ends d c
reading_ends zero d c l b = absurd (let z : length c.rest < 0 = l in omega (arith, z))
reading_ends (suc fuel) d c l b = ⊎_elim
    (λ e. inl ([], e))
    (λ n. goes_on d c n b (item_at d c) refl
    (λ e next less bytes. reading_ends fuel e next (omega (arith, l, less)) bytes))
    (is_done d)

pub spell_or_fail : SpellOrFail
spell_or_fail bytes b = ⊎_elim
    (λ r. inl (r.0, reads_are_spelled bytes r.0 b r.1))
    (λ r. inr (r.1, (r.0, r.2)))
    (reading_ends (length bytes + 1) Head (cursor First bytes 0) (omega arith) b)
