-- The item that is due, and what is due behind it.
use Rattle.std.specs.Prelude.{◌≡◌, ◌⊎◌, ◌+◌, ◌-◌, ◌==◌, if◌then◌else◌, ℕ, zero, suc, Bool, true}
use Rattle.std.specs.Prelude.{false, length, Some, refl}
use Rattle.std.proofs.Common.{sym, ◌∙◌, ap, inl, inr, ⊎_elim, arith}
use Rattle.cert_bytes.specs.declared.item.Item.{Item}
use Rattle.cert_bytes.specs.declared.item.Item.TheVariants as item
use Rattle.cert_bytes.specs.declared.order.DueItem.{DueItem}
use Rattle.cert_bytes.specs.declared.order.DueItem.TheVariants.{Head, Nodes, Marks, Sections, Done}
use Rattle.cert_bytes.specs.Due.{due_after, due_behind, behind_node, behind_mark, split_into}
use Rattle.cert_bytes.specs.Due.{is_nodes, is_node, is_marks, is_mark, is_of_section, is_of_root}
use Rattle.cert_bytes.specs.Due.{is_end, is_due, IsOfSection, IsOfRoot}

-- The item is due, and this is due behind it.
abbrev pub IsNext : DueItem → Item → Type 0
IsNext d i = due_after d i ≡ Some (due_behind d i)

later : (w n m : ℕ) → m ≡ w + n → Some (Sections m) ≡ Some (split_into n (Sections (suc w)))
later w n m e = let z : (suc w == 0) ≡ false = grind arith in
    let f : m ≡ (suc w - 1) + n = omega (arith, e) in rw z (ap (λ k. Some (Sections k)) f)

pub of_section : (w : ℕ) (i : Item) → IsOfSection i → IsNext (Sections (suc w)) i
of_section w (item.Step s) h = later w 1 (suc w) (omega arith)
of_section w (item.Cut x ps) h = later w (length ps + 1) (w + (length ps + 1)) refl
of_section w (item.Leaf refs) h = later w 0 w (omega arith)
of_section w (item.Dead r) h = later w 0 w (omega arith)
of_section w (item.Nodes n) h = absurd h
of_section w (item.Node n) h = absurd h
of_section w (item.Marks n) h = absurd h
of_section w (item.Mark m) h = absurd h
of_section w (item.Cases n) h = absurd h
of_section w item.End h = absurd h

pub a_node : (k : ℕ) → Some (Nodes k) ≡ Some (behind_node (Nodes (suc k)))
a_node k = let z : (suc k == 0) ≡ false = grind arith in let f : k ≡ suc k - 1 = omega arith in
    rw z (ap (λ n. Some (Nodes n)) f)

pub a_mark : (k : ℕ) → Some (Marks k) ≡ Some (behind_mark (Marks (suc k)))
a_mark k = let z : (suc k == 0) ≡ false = grind arith in let f : k ≡ suc k - 1 = omega arith in
    rw z (ap (λ n. Some (Marks n)) f)

pub first_of_root : (i : Item) → IsOfRoot i → IsNext (Marks zero) i
first_of_root (item.Cases n) h = refl
first_of_root (item.Step s) h = refl
first_of_root (item.Cut x ps) h = refl
first_of_root (item.Leaf refs) h = refl
first_of_root (item.Dead r) h = refl
first_of_root (item.Nodes n) h = absurd h
first_of_root (item.Node n) h = absurd h
first_of_root (item.Marks n) h = absurd h
first_of_root (item.Mark m) h = absurd h
first_of_root item.End h = absurd h

-- which of the two holds
chosen : (b x y : Bool) → (if b then x else y) ≡ true
    → ((b ≡ true) × (x ≡ true)) ⊎ ((b ≡ false) × (y ≡ true))
chosen true x y e = inl (refl, e)
chosen false x y e = inr (refl, e)

at_zero : (x y : Bool) → (if 0 == 0 then x else y) ≡ true → x ≡ true
at_zero x y e = ⊎_elim (λ h. h.1) (λ h. let z : (0 == 0) ≡ true = grind arith in
    let q : true ≡ false = sym z ∙ h.0 in cc) (chosen (0 == 0) x y e)

past_zero : (n : ℕ) (x y : Bool) → (if suc n == 0 then x else y) ≡ true → y ≡ true
past_zero n x y e = ⊎_elim (λ h. let z : (suc n == 0) ≡ false = grind arith in
    let q : false ≡ true = sym z ∙ h.0 in cc) (λ h. h.1) (chosen (suc n == 0) x y e)

in_section : (i : Item) → is_of_section i ≡ true → IsOfSection i
in_section (item.Step s) e = tt
in_section (item.Cut x ps) e = tt
in_section (item.Leaf refs) e = tt
in_section (item.Dead r) e = tt
in_section (item.Nodes n) e = cc
in_section (item.Node n) e = cc
in_section (item.Marks n) e = cc
in_section (item.Mark m) e = cc
in_section (item.Cases n) e = cc
in_section item.End e = cc

in_root : (i : Item) → is_of_root i ≡ true → IsOfRoot i
in_root (item.Cases n) e = tt
in_root (item.Step s) e = tt
in_root (item.Cut x ps) e = tt
in_root (item.Leaf refs) e = tt
in_root (item.Dead r) e = tt
in_root (item.Nodes n) e = cc
in_root (item.Node n) e = cc
in_root (item.Marks n) e = cc
in_root (item.Mark m) e = cc
in_root item.End e = cc

by_head : (i : Item) → is_nodes i ≡ true → IsNext Head i
by_head (item.Nodes n) e = refl
by_head (item.Node n) e = cc
by_head (item.Marks n) e = cc
by_head (item.Mark m) e = cc
by_head (item.Cases n) e = cc
by_head (item.Step s) e = cc
by_head (item.Cut x ps) e = cc
by_head (item.Leaf refs) e = cc
by_head (item.Dead r) e = cc
by_head item.End e = cc

by_node : (k : ℕ) (i : Item) → is_node i ≡ true → IsNext (Nodes (suc k)) i
by_node k (item.Node n) e = a_node k
by_node k (item.Nodes n) e = cc
by_node k (item.Marks n) e = cc
by_node k (item.Mark m) e = cc
by_node k (item.Cases n) e = cc
by_node k (item.Step s) e = cc
by_node k (item.Cut x ps) e = cc
by_node k (item.Leaf refs) e = cc
by_node k (item.Dead r) e = cc
by_node k item.End e = cc

by_marks : (i : Item) → is_marks i ≡ true → IsNext (Nodes zero) i
by_marks (item.Marks n) e = refl
by_marks (item.Nodes n) e = cc
by_marks (item.Node n) e = cc
by_marks (item.Mark m) e = cc
by_marks (item.Cases n) e = cc
by_marks (item.Step s) e = cc
by_marks (item.Cut x ps) e = cc
by_marks (item.Leaf refs) e = cc
by_marks (item.Dead r) e = cc
by_marks item.End e = cc

by_mark : (k : ℕ) (i : Item) → is_mark i ≡ true → IsNext (Marks (suc k)) i
by_mark k (item.Mark m) e = a_mark k
by_mark k (item.Nodes n) e = cc
by_mark k (item.Node n) e = cc
by_mark k (item.Marks n) e = cc
by_mark k (item.Cases n) e = cc
by_mark k (item.Step s) e = cc
by_mark k (item.Cut x ps) e = cc
by_mark k (item.Leaf refs) e = cc
by_mark k (item.Dead r) e = cc
by_mark k item.End e = cc

by_end : (i : Item) → is_end i ≡ true → IsNext (Sections zero) i
by_end item.End e = refl
by_end (item.Nodes n) e = cc
by_end (item.Node n) e = cc
by_end (item.Marks n) e = cc
by_end (item.Mark m) e = cc
by_end (item.Cases n) e = cc
by_end (item.Step s) e = cc
by_end (item.Cut x ps) e = cc
by_end (item.Leaf refs) e = cc
by_end (item.Dead r) e = cc

-- Where an item is due, this is due behind it.
pub due_has_next : (d : DueItem) (i : Item) → ¬ (d ≡ Done) → is_due d i ≡ true → IsNext d i
due_has_next Head i n e = by_head i e
due_has_next (Nodes zero) i n e = by_marks i (at_zero (is_marks i) (is_node i) e)
due_has_next (Nodes (suc k)) i n e = by_node k i (past_zero k (is_marks i) (is_node i) e)
due_has_next (Marks zero) i n e = first_of_root i (in_root i (at_zero (is_of_root i) (is_mark i) e))
due_has_next (Marks (suc k)) i n e = by_mark k i (past_zero k (is_of_root i) (is_mark i) e)
due_has_next (Sections zero) i n e = by_end i (at_zero (is_end i) (is_of_section i) e)
due_has_next (Sections (suc w)) i n e =
    of_section w i (in_section i (past_zero w (is_end i) (is_of_section i) e))
due_has_next Done i n e = absurd (n refl)

pub done_by_end : (d : DueItem) (i : Item) → due_after d i ≡ Some Done → i ≡ item.End
done_by_end Head (item.Nodes n) q = cc
done_by_end (Nodes (suc k)) (item.Node n) q = cc
done_by_end (Nodes zero) (item.Marks n) q = cc
done_by_end (Marks (suc k)) (item.Mark m) q = cc
done_by_end (Marks zero) (item.Cases n) q = cc
done_by_end (Marks zero) (item.Step s) q = cc
done_by_end (Marks zero) (item.Cut x ps) q = cc
done_by_end (Marks zero) (item.Leaf refs) q = cc
done_by_end (Marks zero) (item.Dead r) q = cc
done_by_end (Sections (suc w)) (item.Step s) q = cc
done_by_end (Sections (suc w)) (item.Cut x ps) q = cc
done_by_end (Sections (suc w)) (item.Leaf refs) q = cc
done_by_end (Sections (suc w)) (item.Dead r) q = cc
done_by_end (Sections zero) item.End q = refl
done_by_end d i q = cc

pub end_is_last : (d e : DueItem) → due_after d item.End ≡ Some e → e ≡ Done
end_is_last Head e q = cc
end_is_last (Nodes zero) e q = cc
end_is_last (Nodes (suc k)) e q = cc
end_is_last (Marks zero) e q = cc
end_is_last (Marks (suc k)) e q = cc
end_is_last (Sections zero) e q = cc
end_is_last (Sections (suc w)) e q = cc
end_is_last Done e q = cc
