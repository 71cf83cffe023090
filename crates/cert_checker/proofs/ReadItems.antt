-- An item that is read is one that is due.
use Rattle.std.proofs.Common.{◌≡◌, ◌-◌, ◌==◌, ℕ, zero, suc, Bool, true, false, [], Ok, Err, refl}
use Rattle.std.proofs.Common.{ap, subst, arith}
use Rattle.std.specs.Prelude.{if◌then◌else◌}
use Rattle.cert_bytes.specs.declared.fault.CertFault.{CertFault}
use Rattle.cert_bytes.specs.declared.fault.CertKind.TheVariants.{TrailingBytes}
use Rattle.cert_bytes.specs.declared.item.Item.{Item}
use Rattle.cert_bytes.specs.declared.item.Item.TheVariants as item
use Rattle.cert_bytes.specs.declared.order.DueItem.{DueItem}
use Rattle.cert_bytes.specs.declared.order.DueItem.TheVariants.{Head, Nodes, Marks, Sections, Done}
use Rattle.cert_bytes.specs.Due.{IsOfSection, IsOfRoot}
use Rattle.cert_bytes.specs.Reading.{Cursor, Read, ◌>>=◌, byte_at, short_at, node_at, counted_at}
use Rattle.cert_bytes.specs.Reading.{reference_at, step_at, points_at, cut_head_at, preamble_at}
use Rattle.cert_bytes.specs.Reading.{cut_at, step_item_at, leaf_at, dead_at, section_by}
use Rattle.cert_bytes.specs.Reading.{section_item_at, case_count_at, cases_at, root_by}
use Rattle.cert_bytes.specs.Reading.{root_item_at, head_at, node_item_at, marks_at, mark_at}
use Rattle.cert_bytes.specs.Reading.{more_at, closed_at, node_or_marks_at, mark_or_section_at}
use Rattle.cert_bytes.specs.Reading.{section_or_end_at, item_at, entry_at, end_item_at, closed_by}
use Rattle.cert_bytes.specs.Reading.{trailer_at, styled}
use Rattle.cert_bytes.specs.declared.style.Style.{Style}
use Rattle.cert_bytes.specs.declared.style.Style.TheVariants.{First, Second}
use Rattle.cert_bytes.specs.Styles.{style_after}
use Rattle.cert_bytes.proofs.Next.{IsNext, first_of_root, of_section, a_node, a_mark}

-- what is read, if anything, is such an item
abbrev Gives : (Item → Type 0) → Read Item → Type 0
Gives P r = (i : Item) (q : Cursor) → r ≡ Ok (i, q) → P i

-- the item that was read, and the place behind it
abbrev pub item_in : Item → Read Item → Item
item_in i (Ok v) = v.0
item_in i (Err f) = i

abbrev pub place_in : Cursor → Read Item → Cursor
place_in p (Ok v) = v.1
place_in p (Err f) = p

module _ (P : Item → Type 0) where
  then_gives : {A : Type 0} (r : Read A) (k : A × Cursor → Read Item)
      → ((v : A × Cursor) → Gives P (k v)) → Gives P (r >>= k)
  then_gives (Ok v) k h i q e = h v i q e
  then_gives (Err f) k h i q e = cc

  gives : (i : Item) (q : Cursor) → P i → Gives P (Ok (i, q))
  gives i q h j t e = subst P (ap (item_in i) e) h

  fails : (f : CertFault) → Gives P (Err f)
  fails f i q e = cc

  either : (b : Bool) (r t : Read Item) → Gives P r → Gives P t → Gives P (if b then r else t)
  either true r t h k = h
  either false r t h k = k

  by_tag : ((i : Item) → IsOfSection i → P i) → (start tag : ℕ) (p : Cursor)
      → Gives P (section_by start tag p)
  unfolding section_by step_item_at cut_at leaf_at dead_at
  by_tag h start tag p =
      either (tag == 1) _ _ (then_gives (step_at p) _
      (λ s. gives (item.Step s.0) s.1 (h (item.Step s.0) tt)))
      (either (tag == 2) _ _ (then_gives (cut_head_at p) _ (λ head. then_gives (points_at head.0.1
      [] head.1) _ (λ ds. gives (item.Cut head.0.0 ds.0) ds.1 (h (item.Cut head.0.0 ds.0) tt))))
      (either (tag == 3) _ _ (then_gives (counted_at p) _
      (λ refs. gives (item.Leaf refs.0) refs.1 (h (item.Leaf refs.0) tt)))
      (either (tag == 4) _ _ (then_gives (reference_at p) _
      (λ r. gives (item.Dead r.0) r.1 (h (item.Dead r.0) tt)))
      (fails _))))

  by_section : ((i : Item) → IsOfSection i → P i) → (p : Cursor) → Gives P (section_item_at p)
  unfolding section_item_at
  by_section h p = then_gives (byte_at p) _ (λ tag. by_tag h p.at tag.0 tag.1)

  of_section_too : ((i : Item) → IsOfRoot i → P i) → (i : Item) → IsOfSection i → P i
  of_section_too h (item.Step s) l = h (item.Step s) l
  of_section_too h (item.Cut x ps) l = h (item.Cut x ps) l
  of_section_too h (item.Leaf refs) l = h (item.Leaf refs) l
  of_section_too h (item.Dead r) l = h (item.Dead r) l
  of_section_too h (item.Nodes n) l = absurd l
  of_section_too h (item.Node n) l = absurd l
  of_section_too h (item.Marks n) l = absurd l
  of_section_too h (item.Mark m) l = absurd l
  of_section_too h (item.Cases n) l = absurd l
  of_section_too h item.End l = absurd l

  by_root : ((i : Item) → IsOfRoot i → P i) → (p : Cursor) → Gives P (root_item_at p)
  unfolding root_item_at root_by cases_at
  by_root h p = then_gives (byte_at p) _ (λ tag.
      either (tag.0 == 5) _ _ (then_gives (case_count_at tag.1) _ (λ n. gives (item.Cases n.0) n.1
      (h (item.Cases n.0) tt))) (by_tag (of_section_too h) p.at tag.0 tag.1))

at_zero : (P : Item → Type 0) (n : ℕ) (r t : Read Item) → n ≡ 0 → Gives P r
    → Gives P (if n == 0 then r else t)
at_zero P n r t e h = let z : (n == 0) ≡ true = grind (arith, e) in rw z h

past_zero : (P : Item → Type 0) (n : ℕ) (r t : Read Item) → Gives P t
    → Gives P (if suc n == 0 then r else t)
past_zero P n r t h = let z : (suc n == 0) ≡ false = grind arith in rw z h

end_gives : (P : Item → Type 0) → P item.End → (p : Cursor) → Gives P (end_item_at p)
unfolding end_item_at more_at
end_gives P h p = then_gives P (more_at p) _ (λ more. either P more.0 _ _
    (fails P (record { kind = TrailingBytes; at = p.at })) (gives P item.End more.1 h))

closed_gives : (P : Item → Type 0) → P item.End → (style : Style) (p : Cursor)
    → Gives P (closed_by style p)
closed_gives P h First p = end_gives P h p
closed_gives P h (Second seen) p = then_gives P (trailer_at seen p) _ (λ t. end_gives P h t.1)

read_entry : (d : DueItem) (p : Cursor) → ¬ (d ≡ Done) → Gives (IsNext d) (entry_at d p)
unfolding entry_at head_at node_or_marks_at mark_or_section_at section_or_end_at marks_at
    node_item_at mark_at closed_at
read_entry Head p n = then_gives (IsNext Head) (preamble_at p) _ (λ v. then_gives (IsNext Head)
    (short_at v.1) _ (λ k. gives (IsNext Head) (item.Nodes k.0) k.1 refl))
read_entry (Nodes zero) p n = at_zero (IsNext (Nodes zero)) zero (marks_at p)
    (node_item_at p) refl (then_gives (IsNext (Nodes zero))
    (short_at p) _ (λ k. gives (IsNext (Nodes zero)) (item.Marks k.0) k.1 refl))
read_entry (Nodes (suc k)) p n = past_zero (IsNext (Nodes (suc k))) k (marks_at p)
    (node_item_at p) (then_gives (IsNext (Nodes (suc k)))
    (node_at p) _ (λ v. gives (IsNext (Nodes (suc k))) (item.Node v.0) v.1 (a_node k)))
read_entry (Marks zero) p n = at_zero (IsNext (Marks zero)) zero (root_item_at p)
    (mark_at p) refl (by_root (IsNext (Marks zero)) first_of_root p)
read_entry (Marks (suc k)) p n = past_zero (IsNext (Marks (suc k))) k (root_item_at p) (mark_at p)
    (then_gives (IsNext (Marks (suc k))) (byte_at p) _ (λ b.
    either (IsNext (Marks (suc k))) (b.0 == 0) _ _ (gives (IsNext (Marks (suc k))) _ b.1 (a_mark k))
    (either (IsNext (Marks (suc k))) (b.0 == 1) _ _
    (gives (IsNext (Marks (suc k))) _ b.1 (a_mark k)) (fails (IsNext (Marks (suc k))) _))))
read_entry (Sections zero) p n = at_zero (IsNext (Sections zero)) zero (closed_at p)
    (section_item_at p) refl (closed_gives (IsNext (Sections zero)) refl p.style p)
read_entry (Sections (suc w)) p n = past_zero (IsNext (Sections (suc w))) w (closed_at p)
    (section_item_at p) (by_section (IsNext (Sections (suc w))) (of_section w) p)
read_entry Done p n = absurd (n refl)

-- the item is the same where the style moves on
moved : (P : Item → Type 0) (r : Read Item) (f : Item × Cursor → Cursor) → Gives P r
    → Gives P (r >>= λ v. Ok (v.0, f v))
moved P (Ok v) f h i q e = gives P v.0 (f v) (h v.0 v.1 refl) i q e
moved P (Err g) f h i q e = cc

pub read_is_due : (d : DueItem) (p : Cursor) → ¬ (d ≡ Done) → Gives (IsNext d) (item_at d p)
unfolding item_at
read_is_due d p n =
    moved (IsNext d) (entry_at d p) (λ v. styled (style_after v.1.style v.0) v.1) (read_entry d p n)
