-- Formats of items, where they are due.
use Rattle.std.proofs.Common.{◌≡◌, ◌+◌, ◌-◌, ◌++◌, ◌==◌, if◌then◌else◌, ℕ, zero, suc, false, List}
use Rattle.std.proofs.Common.{length, Some, Ok, refl, sym, ap, subst, ◌∙◌, arith}
use Rattle.std.specs.Prelude.{⊤}
use Rattle.std.proofs.lemmas.List.{append-nil}
use Rattle.fx_model.specs.declared.ExprId.{ExprId}
use Rattle.dyadic.specs.declared.number.Dyadic.{Dyadic}
use Rattle.facts.specs.declared.hint.HintMark.{HintMark}
use Rattle.facts.specs.declared.hint.HintMark.TheVariants.{Checked, Assumed}
use Rattle.expr_dag.specs.Nodes.{IsInLimits}
use Rattle.cert_bytes.specs.declared.fault.CertKind.TheVariants.{BadTag}
use Rattle.cert_bytes.specs.declared.item.StepRow.{StepRow}
use Rattle.cert_bytes.specs.declared.item.Item.{Item}
use Rattle.cert_bytes.specs.declared.item.Item.TheVariants as item
use Rattle.cert_bytes.specs.declared.style.Style.{Style}
use Rattle.cert_bytes.specs.declared.order.DueItem.{DueItem}
use Rattle.cert_bytes.specs.declared.order.DueItem.TheVariants.{Head, Nodes, Marks, Sections, Done}
use Rattle.cert_bytes.specs.Styles.{style_after, Opens, IsStyleFor}
use Rattle.cert_bytes.specs.Due.{due_after, due_behind, split_into, IsOfSection}
use Rattle.cert_bytes.specs.Certificates.{HasSpelling, Fits, HasShortParts, IsShort}
use Rattle.cert_bytes.specs.Reading.{Cursor, Read, styled, fault, step_item_at, leaf_at, dead_at}
use Rattle.cert_bytes.specs.Reading.{section_by, section_item_at, cases_at, root_by, root_item_at}
use Rattle.cert_bytes.specs.Reading.{node_item_at, marks_at, mark_at, head_at, closed_at, entry_at}
use Rattle.cert_bytes.specs.Reading.{node_or_marks_at, mark_or_section_at, section_or_end_at}
use Rattle.cert_bytes.specs.Reading.{item_at, ◌>>=◌}
use Rattle.cert_bytes.specs.ReadBack.{ReadsTo, ItemsReadBack}
use Rattle.cert_bytes.specs.ReadOut.{AreBytes, IsRead, ItemsReadOut, DueBehind}
use Rattle.cert_bytes.specs.Spelling.{node_bytes, short, spelling}
use Rattle.cert_bytes.proofs.Format.{plain, whole, Format, IsOne, same_as, through, restated, made}
use Rattle.cert_bytes.proofs.Format.{bind_out, ok_parts, nothing, tags, Ways, way, no_way}
use Rattle.cert_bytes.proofs.Format.{Told, told}
use Rattle.cert_bytes.proofs.NumberFormats.{a_short, a_reference}
use Rattle.cert_bytes.proofs.NodeFormats.{a_node}
use Rattle.cert_bytes.proofs.StepFormats.{a_counted, IsStep, a_step, IsCut, a_cut, a_case_count}
use Rattle.cert_bytes.proofs.HeadFormats.{a_head, closed_out}

-- it has a spelling, and its numbers have room
abbrev IsSpelled : Item → Type 0
IsSpelled i = HasSpelling i × Fits i

-- a step's parts
step_of : (s : StepRow) → IsSpelled (item.Step s) → IsStep s
step_of s i = let room = i.1 in
    (((room.rule, room.arg), room.fact), (room.with, (i.0, room.premises)))

-- a cut's parts
cut_of : (x : ExprId) (ps : List Dyadic) → IsSpelled (item.Cut x ps) → IsCut (x, ps)
cut_of x ps i = (i.1.0, (i.0, i.1.1.0, i.1.1.1))

-- ---- the item that is due

-- it is one that is due, with a spelling
abbrev IsDueAt : DueItem → Item → Type 0
IsDueAt d i = (due_after d i ≡ Some (due_behind d i)) × IsSpelled i

some_left : (k : ℕ) → (suc k == 0) ≡ false
some_left k = grind arith

less_one : (k : ℕ) → k ≡ suc k - 1
less_one k = omega arith

split_on : (n w : ℕ) → Sections (w + n) ≡ split_into n (Sections (suc w))
split_on n w = rw (some_left w) (ap (λ m. Sections (m + n)) (less_one w))

-- what is due behind an item that is due, by either definition
pub behind_after : DueBehind
behind_after Head (item.Nodes n) e q = refl
behind_after (Nodes (suc k)) (item.Node n) e q =
    rw (some_left k) (ap (λ m. Some (Nodes m)) (less_one k))
behind_after (Nodes zero) (item.Marks n) e q = refl
behind_after (Marks (suc k)) (item.Mark m) e q =
    rw (some_left k) (ap (λ m. Some (Marks m)) (less_one k))
behind_after (Marks zero) (item.Cases n) e q = refl
behind_after (Marks zero) (item.Step s) e q = refl
behind_after (Marks zero) (item.Cut x ps) e q = refl
behind_after (Marks zero) (item.Leaf refs) e q = refl
behind_after (Marks zero) (item.Dead r) e q = refl
behind_after (Sections (suc w)) (item.Step s) e q =
    ap (λ d. Some d) (ap Sections (let e : suc w ≡ w + 1 = omega arith in e) ∙ split_on 1 w)
behind_after (Sections (suc w)) (item.Cut x ps) e q =
    ap (λ d. Some d) (split_on (length ps + 1) w)
behind_after (Sections (suc w)) (item.Leaf refs) e q =
    ap (λ d. Some d) (ap Sections (let e : w ≡ w + 0 = omega arith in e) ∙ split_on 0 w)
behind_after (Sections (suc w)) (item.Dead r) e q =
    ap (λ d. Some d) (ap Sections (let e : w ≡ w + 0 = omega arith in e) ∙ split_on 0 w)
behind_after (Sections zero) item.End e q = refl
behind_after d i e q = cc

node_entry : (k : ℕ) → Format node_item_at (whole spelling (IsDueAt (Nodes (suc k))))
unfolding node_item_at
node_entry k = restated (made a_node item.Node) (whole spelling (IsDueAt (Nodes (suc k)))) one
    (λ n i. (
      item.Node n,
      (behind_after (Nodes (suc k)) (item.Node n) (Nodes k) refl, i),
      same_as refl (λ old. refl),
    ))
  where
    one : (i : Item) → IsDueAt (Nodes (suc k)) i → IsOne (plain item.Node node_bytes
        (λ n. IsInLimits n × HasShortParts n)) (whole spelling (IsDueAt (Nodes (suc k)))) i
    one (item.Node n) i =
        (n, i.1, same_as refl (λ old. refl))
    one j i = cc

marks_entry : Format marks_at (whole spelling (IsDueAt (Nodes zero)))
unfolding marks_at
marks_entry = restated (made a_short item.Marks) (whole spelling (IsDueAt (Nodes zero))) one
    (λ n i. (item.Marks n, (refl, (tt, i)), same_as refl (λ old. refl)))
  where
    one : (i : Item) → IsDueAt (Nodes zero) i
        → IsOne (plain item.Marks short IsShort) (whole spelling (IsDueAt (Nodes zero))) i
    one (item.Marks n) i =
        (n, i.1.1, same_as refl (λ old. refl))
    one j i = cc

abbrev mark_by : ℕ → ℕ → Cursor → Read Item
mark_by at b c = if b == 0 then Ok (item.Mark Checked, c)
    else if b == 1 then Ok (item.Mark Assumed, c)
    else fault BadTag at

mark_entry : (k : ℕ) → Format mark_at (whole spelling (IsDueAt (Marks (suc k))))
unfolding mark_at
mark_entry k = tags mark_by back (λ at tag.
    way 0 (nothing (item.Mark Checked)) (λ u old. refl) (λ u i. (left Checked, (tt, tt)))
    (way 1 (nothing (item.Mark Assumed)) (λ u old. refl) (λ u i. (left Assumed, (tt, tt)))
    (no_way tag BadTag at)))
  where
    left : (m : HintMark) → due_after (Marks (suc k)) (item.Mark m)
        ≡ Some (due_behind (Marks (suc k)) (item.Mark m))
    left m = behind_after (Marks (suc k)) (item.Mark m) (Marks k) refl

    back : (i : Item) → IsDueAt (Marks (suc k)) i → Told mark_by spelling i
    back (item.Mark Checked) i = told mark_by 0 (λ at. nothing (item.Mark Checked)) tt tt
    back (item.Mark Assumed) i = told mark_by 1 (λ at. nothing (item.Mark Assumed)) tt tt
    back j i = cc

-- an item of a section, where one is due
section_ways : (d : DueItem) → ((i : Item) → IsOfSection i → due_after d i ≡ Some (due_behind d i))
    → (at tag : ℕ) → Ways spelling (IsDueAt d) tag (section_by at tag)
unfolding section_by step_item_at leaf_at dead_at
section_ways d due at tag =
    way 1 (made a_step item.Step) (λ s old. refl) (λ s i. (
      due (item.Step s) tt,
      (
        i.1.1.0,
        record {
          rule = i.0.0.0;
          arg = i.0.0.1;
          fact = i.0.1;
          with = i.1.0;
          premises = i.1.1.1;
        },
      ),
    ))
    (way 2 a_cut (λ v old. refl)
    (λ v i. (due (item.Cut v.0 v.1) tt, (i.1.0, (i.0, (i.1.1, i.1.2)))))
    (way 3 (made a_counted item.Leaf) (λ refs old. refl) (λ refs i. (due (item.Leaf refs) tt, i))
    (way 4 (made a_reference item.Dead) (λ r old. refl) (λ r i. (due (item.Dead r) tt, (tt, i)))
    (no_way tag BadTag at))))

section_entry : (w : ℕ) → Format section_item_at (whole spelling (IsDueAt (Sections (suc w))))
unfolding section_item_at section_by step_item_at leaf_at dead_at
section_entry w = tags section_by back (section_ways (Sections (suc w)) due)
  where
    due : (i : Item) → IsOfSection i
        → due_after (Sections (suc w)) i ≡ Some (due_behind (Sections (suc w)) i)
    due (item.Step s) o = behind_after (Sections (suc w)) (item.Step s) _ refl
    due (item.Cut x ps) o = behind_after (Sections (suc w)) (item.Cut x ps) _ refl
    due (item.Leaf refs) o = behind_after (Sections (suc w)) (item.Leaf refs) _ refl
    due (item.Dead r) o = behind_after (Sections (suc w)) (item.Dead r) _ refl
    due i o = absurd o

    back : (i : Item) → IsDueAt (Sections (suc w)) i → Told section_by spelling i
    back (item.Step s) i = told section_by 1 (λ at. made a_step item.Step) s (step_of s i.1)
    back (item.Cut x ps) i = told section_by 2 (λ at. a_cut) (x, ps) (cut_of x ps i.1)
    back (item.Leaf refs) i = told section_by 3 (λ at. made a_counted item.Leaf) refs i.1
    back (item.Dead r) i = told section_by 4 (λ at. made a_reference item.Dead) r i.1.1
    back j i = cc

root_entry : Format root_item_at (whole spelling (IsDueAt (Marks zero)))
unfolding root_item_at root_by section_by cases_at step_item_at leaf_at dead_at
root_entry = tags root_by back (λ at tag.
    way 5 (made a_case_count item.Cases) (λ n old. refl) (λ n i. (refl, (i, tt)))
    (section_ways (Marks zero) due at tag))
  where
    due : (i : Item) → IsOfSection i → due_after (Marks zero) i ≡ Some (due_behind (Marks zero) i)
    due (item.Step s) o = refl
    due (item.Cut x ps) o = refl
    due (item.Leaf refs) o = refl
    due (item.Dead r) o = refl
    due i o = absurd o

    back : (i : Item) → IsDueAt (Marks zero) i → Told root_by spelling i
    back (item.Cases n) i = told root_by 5 (λ at. made a_case_count item.Cases) n i.1.0
    back (item.Step s) i = told root_by 1 (λ at. made a_step item.Step) s (step_of s i.1)
    back (item.Cut x ps) i = told root_by 2 (λ at. a_cut) (x, ps) (cut_of x ps i.1)
    back (item.Leaf refs) i = told root_by 3 (λ at. made a_counted item.Leaf) refs i.1
    back (item.Dead r) i = told root_by 4 (λ at. made a_reference item.Dead) r i.1.1
    back j i = cc

-- an item within a certificate, in the style of the numbers before it
abbrev IsInside : DueItem → Type 0
IsInside (Nodes k) = ⊤
IsInside (Marks k) = ⊤
IsInside (Sections (suc w)) = ⊤
IsInside _ = ⊥

an_entry : (d : DueItem) → IsInside d → Format (entry_at d) (whole spelling (IsDueAt d))
unfolding entry_at node_or_marks_at mark_or_section_at section_or_end_at
an_entry (Nodes zero) h = marks_entry
an_entry (Nodes (suc k)) h = through (node_entry k) (λ c. rw (some_left k) refl)
an_entry (Marks zero) h = root_entry
an_entry (Marks (suc k)) h = through (mark_entry k) (λ c. rw (some_left k) refl)
an_entry (Sections (suc w)) h = through (section_entry w) (λ c. rw (some_left w) refl)
an_entry d h = absurd h

-- ---- the head and the end

pub head_way : (c : Cursor) → entry_at Head c ≡ head_at c
unfolding entry_at
head_way c = refl

pub last_way : (c : Cursor) → entry_at (Sections 0) c ≡ closed_at c
unfolding entry_at section_or_end_at
last_way c = refl

-- ---- both laws of the item that is due

-- one in the style of the numbers before it
inside : (d : DueItem) → IsInside d → (i : Item) (e : DueItem) (old style : Style)
    → due_after d i ≡ Some e → style ≡ old → HasSpelling i → Fits i
    → ReadsTo old style (entry_at d) (spelling i style) i
inside d k i e old style q z h f =
    subst (λ (old : Style). ReadsTo old style (entry_at d) (spelling i style) i) z
    ((an_entry d k).back i (behind_after d i e q, (h, f)) style)

entries_read_back : (d : DueItem) (i : Item) (e : DueItem) (old style : Style)
    → due_after d i ≡ Some e → IsStyleFor d old style → ¬ (i ≡ item.End) → HasSpelling i → Fits i
    → ReadsTo old style (entry_at d) (spelling i style) i
entries_read_back Head (item.Nodes n) e old style q o ne h f = λ at rest l.
    head_way _ ∙ a_head.back ((tt, style), n) ((tt, o), f) old at rest l
entries_read_back Head i e old style q o ne h f = cc
entries_read_back (Nodes k) i e old style q o ne h f = inside (Nodes k) tt i e old style q o h f
entries_read_back (Marks k) i e old style q o ne h f = inside (Marks k) tt i e old style q o h f
entries_read_back (Sections (suc w)) i e old style q o ne h f =
    inside (Sections (suc w)) tt i e old style q o h f
entries_read_back (Sections zero) item.End e old style q o ne h f = absurd (ne refl)
entries_read_back d i e old style q o ne h f = cc

pub items_read_back : ItemsReadBack
unfolding item_at
items_read_back d i e old style q o ne h f at rest l =
    ap (λ q. q >>= λ v. Ok (v.0, styled (style_after v.1.style v.0) v.1))
    (entries_read_back d i e old style q o ne h f at rest l)

-- what was read of the item that is due, whose numbers are spelled as behind it
abbrev IsReadAs : DueItem → Cursor → Cursor → Item → Type 0
IsReadAs d c mid i = IsRead d c (styled (style_after mid.style i) mid) i

kept : (d : DueItem) → IsInside d → ((old style : Style) → style ≡ old → IsStyleFor d old style)
    → (c mid : Cursor) (i : Item) → AreBytes c.rest → entry_at d c ≡ Ok (i, mid)
    → IsReadAs d c mid i
kept d k for c mid i b e =
    let r = (an_entry d k).out c mid i b e in
    subst (λ (i : Item). IsReadAs d c mid i) r.given (record {
      style = mid.style;
      is_style = for c.style mid.style r.style;
      styled = refl;
      due = r.is.0;
      spelling = r.is.1.0;
      fits = r.is.1.1;
      bytes = r.bytes
          ∙ ap (λ (style : Style). spelling r.value style ++ mid.rest) (sym r.style);
      behind = r.behind;
    })

entry_out : (d : DueItem) → ¬ (d ≡ Done) → (c mid : Cursor) (i : Item) → AreBytes c.rest
    → entry_at d c ≡ Ok (i, mid) → IsReadAs d c mid i
entry_out Head n c mid i b e =
    let h = a_head.out c mid i b (sym (head_way c) ∙ e) in
    subst (λ (i : Item). IsReadAs Head c mid i) h.given (record {
      style = mid.style;
      is_style = subst Opens (sym h.style) h.is.0.1;
      styled = refl;
      due = refl;
      spelling = tt;
      fits = h.is.1;
      bytes = h.bytes ∙ ap (λ (style : Style). spelling (item.Nodes h.value.1) style ++ mid.rest)
          (sym h.style);
      behind = h.behind;
    })
entry_out (Sections zero) n c mid i b e =
    let q = closed_out c mid i b (sym (last_way c) ∙ e) in
    subst (λ (i : Item). IsReadAs (Sections zero) c mid i) (sym q.is) (record {
      style = mid.style;
      is_style = q.style;
      styled = refl;
      due = refl;
      spelling = tt;
      fits = tt;
      bytes = q.stands ∙ ap (spelling item.End) (sym q.style)
          ∙ sym (append-nil (spelling item.End mid.style))
          ∙ ap (λ (l : List ℕ). spelling item.End mid.style ++ l) (sym q.none);
      behind = subst AreBytes (sym q.none) tt;
    })
entry_out Done n c mid i b e = absurd (n refl)
entry_out (Nodes k) n c mid i b e = kept (Nodes k) tt (λ old style z. z) c mid i b e
entry_out (Marks k) n c mid i b e = kept (Marks k) tt (λ old style z. z) c mid i b e
entry_out (Sections (suc w)) n c mid i b e =
    kept (Sections (suc w)) tt (λ old style z. z) c mid i b e

pub items_read_out : ItemsReadOut
unfolding item_at
items_read_out d c next i b n e =
    let o = bind_out (entry_at d c)
    (λ v. Ok (v.0, styled (style_after v.1.style v.0) v.1)) (i, next) e in
    let z = ok_parts o.0.0 i (styled (style_after o.0.1.style o.0.0) o.0.1) next o.2 in
    subst (λ (i : Item). IsRead d c next i) z.0
    (subst (λ (next : Cursor). IsRead d c next o.0.0) z.1 (entry_out d n c o.0.1 o.0.0 b o.1))
