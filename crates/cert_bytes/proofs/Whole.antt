-- No certificate's spelling begins another's, and bytes spell one certificate at most.
use Rattle.std.proofs.Common.{◌≡◌, ◌+◌, ◌++◌, ◌∷◌, [], ◌⊎◌, inl, inr, ⊎_elim, ℕ, zero, suc, List}
use Rattle.std.proofs.Common.{length, Option, Some, None, Ok, refl, sym, ap, ap₂, subst, ◌∙◌, arith}
use Rattle.std.proofs.Common.{append_assoc}
use Rattle.std.proofs.lemmas.List.{append-nil}
use Rattle.cert_bytes.specs.declared.item.Item.{Item}
use Rattle.cert_bytes.specs.declared.item.Item.TheVariants as item
use Rattle.cert_bytes.specs.declared.style.Style.{Style}
use Rattle.cert_bytes.specs.declared.style.Style.TheVariants.{First, Second}
use Rattle.cert_bytes.specs.declared.order.DueItem.{DueItem}
use Rattle.cert_bytes.specs.declared.order.DueItem.TheVariants.{Head, Nodes, Marks, Sections, Done}
use Rattle.cert_bytes.specs.Styles.{style_after, Opens, IsStyleFor}
use Rattle.cert_bytes.specs.Due.{due_after}
use Rattle.cert_bytes.specs.Certificates.{HasSpelling, Fits, AreDue, NoneBeginsAnother, SpellsOnce}
use Rattle.cert_bytes.specs.Reading.{Cursor, Read, item_at}
use Rattle.cert_bytes.specs.ReadBack.{place}
use Rattle.cert_bytes.specs.Spelling.{spelling, spelled_from}
use Rattle.cert_bytes.proofs.Format.{ok_parts}
use Rattle.cert_bytes.proofs.ItemFormats.{items_read_back}
use Rattle.cert_bytes.proofs.Lengths.{items_are_short}

-- ---- what is due

pub due_some : (o : Option DueItem) (items : List Item) → AreDue o items
    → (e : DueItem) × (o ≡ Some e) × AreDue (Some e) items
due_some None items a = absurd a
due_some (Some e) items a = (e, refl, a)

-- where the certificate may end, no item is due
pub none_behind : (d : DueItem) (i : Item) (items : List Item) → d ≡ Done
    → AreDue (due_after d i) items → ⊥
none_behind d i items e a =
    let P : DueItem → Type 0 = λ d. AreDue (due_after d i) items in subst P e a

-- the end is due behind the last section alone
pub end_alone : (d e : DueItem) → due_after d item.End ≡ Some e → d ≡ Sections 0
end_alone Head e q = cc
end_alone (Nodes zero) e q = cc
end_alone (Nodes (suc n)) e q = cc
end_alone (Marks zero) e q = cc
end_alone (Marks (suc n)) e q = cc
end_alone (Sections zero) e q = refl
end_alone (Sections (suc n)) e q = cc
end_alone Done e q = cc

only_end : (j : Item) (f : DueItem) → due_after (Sections 0) j ≡ Some f → j ≡ item.End
only_end item.End f q = refl
only_end j f q = cc

pub is_end : (i : Item) → (i ≡ item.End) ⊎ (¬ (i ≡ item.End))
is_end item.End = inl refl
is_end i = inr (λ e. cc)

-- nothing stands before the head
pub not_head : (d : DueItem) (i : Item) → ¬ (due_after d i ≡ Some Head)
not_head Head (item.Nodes n) q = cc
not_head (Nodes (suc n)) (item.Node x) q = cc
not_head (Nodes zero) (item.Marks n) q = cc
not_head (Marks (suc n)) (item.Mark m) q = cc
not_head (Marks zero) (item.Cases n) q = cc
not_head (Marks zero) (item.Step s) q = cc
not_head (Marks zero) (item.Cut x ps) q = cc
not_head (Marks zero) (item.Leaf refs) q = cc
not_head (Marks zero) (item.Dead r) q = cc
not_head (Sections (suc w)) (item.Step s) q = cc
not_head (Sections (suc w)) (item.Cut x ps) q = cc
not_head (Sections (suc w)) (item.Leaf refs) q = cc
not_head (Sections (suc w)) (item.Dead r) q = cc
not_head (Sections zero) item.End q = cc
not_head d i q = cc

-- behind an item numbers are spelled as it says
pub same_style : (e : DueItem) (style : Style) → ¬ (e ≡ Head) → IsStyleFor e style style
same_style Head style n = absurd (n refl)
same_style (Nodes k) style n = refl
same_style (Marks k) style n = refl
same_style (Sections k) style n = refl
same_style Done style n = refl

-- ---- two items that are due

-- an item that is due, and what stands behind its bytes
abbrev read_as : Item → Style → ℕ → List ℕ → Read Item
read_as i style at rest = Ok (i, place style at rest)

taken : (i j : Item) (a b : Style) (m n : ℕ) (s t : List ℕ) → read_as i a m s ≡ read_as j b n t
    → (i ≡ j) × (a ≡ b) × (s ≡ t)
taken i j a b m n s t e = let q = ok_parts i j (place a m s) (place b n t) e in
    (q.0, ap (λ (c : Cursor). c.style) q.1, ap (λ (c : Cursor). c.rest) q.1)

-- both are read where an old style stands
both_read : (d : DueItem) (i j : Item) (e f : DueItem) (old a b : Style) → due_after d i ≡ Some e
    → due_after d j ≡ Some f → IsStyleFor d old a → IsStyleFor d old b → ¬ (i ≡ item.End)
    → ¬ (j ≡ item.End) → HasSpelling i → Fits i → HasSpelling j → Fits j
    → (s t : List ℕ) → spelling i a ++ s ≡ spelling j b ++ t
    → (i ≡ j) × (style_after a i ≡ style_after b j) × (s ≡ t)
both_read d i j e f old a b p q u v m n h k h' k' s t bytes =
    let first = items_read_back d i e old a p u m h k 0 s
    (let l = items_are_short i a h k in omega (arith, l)) in
    let second = items_read_back d j f old b q v n h' k' 0 t
    (let l = items_are_short j b h' k' in omega (arith, l)) in
    taken i j (style_after a i)
    (style_after b j) (0 + length (spelling i a)) (0 + length (spelling j b)) s t (sym first
    ∙ ap (λ (l : List ℕ). item_at d (place old 0 l)) bytes ∙ second)

cancelled : (l s t : List ℕ) → l ++ s ≡ l ++ t → s ≡ t
cancelled [] s t e = e
cancelled (b ∷ l) s t e = cancelled l s t (tails b (l ++ s) (l ++ t) e)
  where
    tails : (b : ℕ) (s t : List ℕ) → b ∷ s ≡ b ∷ t → s ≡ t
    tails b s t e = cc

ends_both : (d : DueItem) (i j : Item) (f : DueItem) (style : Style)
    → d ≡ Sections 0 → i ≡ item.End → due_after d j ≡ Some f → (s t : List ℕ)
    → spelling i style ++ s ≡ spelling j style ++ t → (i ≡ j) × (s ≡ t)
ends_both d i j f style z m q s t bytes =
    let last : due_after (Sections 0) j ≡ Some f =
    subst (λ (d : DueItem). due_after d j ≡ Some f) z q in
    let n : j ≡ item.End = only_end j f last in (
      m ∙ sym n,
      cancelled (spelling item.End style) s t (ap (λ (i : Item). spelling i style ++ s) (sym m)
          ∙ bytes ∙ ap (λ (j : Item). spelling j style ++ t) n),
    )

-- both are the same, and so is what follows
same_item : (d : DueItem) (i j : Item) (e f : DueItem) (old style : Style) → due_after d i ≡ Some e
    → due_after d j ≡ Some f → IsStyleFor d old style → HasSpelling i → Fits i
    → HasSpelling j → Fits j
    → (s t : List ℕ) → spelling i style ++ s ≡ spelling j style ++ t → (i ≡ j) × (s ≡ t)
same_item d i j e f old style p q u h k h' k' s t bytes = ⊎_elim
    (λ m. ends_both d i j f style
    (end_alone d e (subst (λ (i : Item). due_after d i ≡ Some e) m p)) m q s t bytes)
    (λ m. ⊎_elim
    (λ n. let r = ends_both d j i e style (end_alone d f
    (subst (λ (j : Item). due_after d j ≡ Some f) n q)) n p t s (sym bytes) in (sym r.0, sym r.1))
    (λ n. let r = both_read d i j e f old style style p q u u m n h k h' k' s t bytes in (r.0, r.2))
    (is_end j))
    (is_end i)

-- ---- whole certificates

pub some_same : (d e : DueItem) → Some d ≡ Some e → d ≡ e
some_same d e q = cc

fronts : (d : DueItem) (old style : Style) (items others : List Item) (more : List ℕ)
    → IsStyleFor d old style → AreDue (Some d) items → AreDue (Some d) others
    → spelled_from style items ++ more ≡ spelled_from style others → (items ≡ others) × (more ≡ [])
fronts d old style [] [] more u a b e = (refl, e)
fronts d old style [] (j ∷ js) more u a b e = absurd (none_behind d j js a b.1)
fronts d old style (i ∷ is) [] more u a b e = absurd (none_behind d i is b a.1)
fronts d old style (i ∷ is) (j ∷ js) more u a b e =
    let p = due_some (due_after d i) is a.1 in
    let q = due_some (due_after d j) js b.1 in
    let next : Style = style_after style i in
    let split : spelling i style ++ (spelled_from next is ++ more)
    ≡ spelling j style ++ spelled_from (style_after style j) js =
    sym (append_assoc (spelling i style) (spelled_from next is) more) ∙ e in
    let s = same_item d i j p.0 q.0 old style p.1 q.1 u a.0.0 a.0.1 b.0.0 b.0.1
    (spelled_from next is ++ more) (spelled_from (style_after style j) js) split in
    let due : q.0 ≡ p.0 = some_same q.0 p.0 (sym q.1 ∙ ap (due_after d) (sym s.0) ∙ p.1) in
    let behind : spelled_from next is ++ more ≡ spelled_from next js =
    s.1 ∙ ap (λ (j : Item). spelled_from (style_after style j) js) (sym s.0) in
    let kept : IsStyleFor p.0 next next =
    same_style p.0 next (λ z. not_head d i (p.1 ∙ ap (λ d. Some d) z)) in
    let rest = fronts p.0 next next is js more kept p.2
    (subst (λ (d : DueItem). AreDue (Some d) js) due q.2) behind in
    (ap₂ (λ x y. x ∷ y) s.0 rest.0, rest.1)

-- ---- the version

-- the first item is the number of nodes
head_first : (i : Item) (items : List Item) → AreDue (due_after Head i) items
    → (n : ℕ) × (i ≡ item.Nodes n)
head_first (item.Nodes n) items a = (n, refl)
head_first (item.Node n) items a = absurd a
head_first (item.Marks n) items a = absurd a
head_first (item.Mark m) items a = absurd a
head_first (item.Cases n) items a = absurd a
head_first (item.Step s) items a = absurd a
head_first (item.Cut x ps) items a = absurd a
head_first (item.Leaf refs) items a = absurd a
head_first (item.Dead r) items a = absurd a
head_first item.End items a = absurd a

kept_style : (style : Style) (i : Item) (n : ℕ) → i ≡ item.Nodes n → style_after style i ≡ style
kept_style style i n e = ap (style_after style) e ∙ by style n
  where
    by : (style : Style) (n : ℕ) → style_after style (item.Nodes n) ≡ style
    by First n = refl
    by (Second seen) n = refl

nodes_no_end : (n : ℕ) → ¬ (item.Nodes n ≡ item.End)
nodes_no_end n e = cc

-- bytes of two certificates that begin alike tell one version
one_version : (a b : Style) (items others : List Item) (more : List ℕ)
    → Opens a → Opens b → AreDue (Some Head) items → AreDue (Some Head) others
    → spelled_from a items ++ more ≡ spelled_from b others → a ≡ b
one_version a b [] others more o o' x y e = cc
one_version a b (i ∷ is) [] more o o' x y e = cc
one_version a b (i ∷ is) (j ∷ js) more o o' x y e =
    let n = head_first i is x.1 in
    let m = head_first j js y.1 in
    let p = due_some (due_after Head i) is x.1 in
    let q = due_some (due_after Head j) js y.1 in
    let split : spelling i a ++ (spelled_from (style_after a i) is ++ more)
    ≡ spelling j b ++ spelled_from (style_after b j) js =
    sym (append_assoc (spelling i a) (spelled_from (style_after a i) is) more) ∙ e in
    let no_end = λ (i : Item) (n : ℕ) (e : i ≡ item.Nodes n) (z : i ≡ item.End).
    nodes_no_end n (sym e ∙ z) in
    let r = both_read Head i j p.0 q.0 First a b p.1 q.1 o o' (no_end i n.0 n.1)
    (no_end j m.0 m.1) x.0.0 x.0.1 y.0.0 y.0.1 (spelled_from (style_after a i) is ++ more)
    (spelled_from (style_after b j) js) split in
    sym (kept_style a i n.0 n.1) ∙ r.1 ∙ kept_style b j m.0 m.1

pub none_begins_another : NoneBeginsAnother
none_begins_another bytes more items others p q =
    let x = p.spells in let y = q.spells in
    let e : spelled_from p.style items ++ more ≡ spelled_from q.style others =
    ap (λ (l : List ℕ). l ++ more) (sym x.spelled) ∙ y.spelled in
    let one = one_version p.style q.style items others more x.opens y.opens
    x.certificate y.certificate e in
    (fronts Head First p.style items others more x.opens x.certificate y.certificate (e
    ∙ ap (λ (style : Style). spelled_from style others) (sym one))).1

pub spells_once : SpellsOnce
spells_once bytes style other items others x y =
    let told : Style → List ℕ = λ style. spelled_from style others in
    let e : spelled_from style items ++ [] ≡ told other =
    append-nil (spelled_from style items) ∙ sym x.spelled ∙ y.spelled in
    let one : style ≡ other =
    one_version style other items others [] x.opens y.opens x.certificate y.certificate e in
    let same = fronts Head First style items others [] x.opens x.certificate y.certificate
    (e ∙ ap told (sym one)) in
    (one, same.0)
