-- Trees join one after the other.
use Rattle.std.specs.Prelude.{◌≡◌, ◌≢◌, ◌<◌, ◌≤◌, ◌+◌, ◌++◌, ℕ, List, [], ◌∷◌, length, Option, Some}
use Rattle.std.specs.Prelude.{None, refl}
use Rattle.std.specs.List.{AllByRecursion}
use Rattle.std.proofs.Common.{sym, ◌∙◌, ap, arith, append_assoc}
use Rattle.std.proofs.lemmas.List.{append-nil}
use Rattle.box_tree.proofs.Paths.{no_more}
use Rattle.bisect.specs.declared.outcome.Outcome.{Outcome}
use Rattle.bisect.specs.declared.outcome.Outcome.TheVariants as outcome
use Rattle.bisect.specs.Trees.{Tree}
use Rattle.bisect.specs.Boxes.{AreBoxes, leaves_of}
use Rattle.bisect.specs.Answers.{IsAnswer, IsAnswerOf, open_at}
use Rattle.bisect.specs.declared.outcome.OpenLeaf.{OpenLeaf}
use Rattle.case_trees.specs.Listed.{Listed, AreListed, or_later, first_open_from, all_leaves}
use Rattle.case_trees.proofs.Listed.{listed}
use Rattle.case_trees.specs.Answers.{IsAnswerBy, IsAnswerOfAll}
use Rattle.case_trees.specs.Gathered.{Seen, nothing_seen, boxes_left, or_open, leaves_with}
use Rattle.case_trees.specs.Gathered.{with_outcome, IsWithin, end_at, end_of, EndsBy, EndsAs}
use Rattle.case_trees.specs.Gathered.{HasBoxes}

pub within : (t : Tree) (limit : ℕ) (o : Outcome) → IsAnswer t limit o → IsWithin limit o
within t limit outcome.BoxLimit a = tt
within t limit (outcome.Unproved n x) a = let l = a.2.0 in let c = a.2.2 in omega (arith, l, c)
within t limit (outcome.Leaves n ls) a = let l = a.2.0 in let c = a.2.2 in omega (arith, l, c)

-- ---- from nothing
from_nothing : (limit : ℕ) (ls : List Listed) (found : Outcome)
    → EndsBy (nothing_seen limit) ls found → IsAnswerBy limit ls found
from_nothing limit ls outcome.BoxLimit e = omega (arith, e)
from_nothing limit ls (outcome.Unproved n x) e = let l = e.0 in let c = e.2 in
    (omega (arith, l), e.1, omega (arith, c))
from_nothing limit ls (outcome.Leaves n xs) e = let l = e.0 in let c = e.2 in
    (omega (arith, l), e.1, omega (arith, c), e.3)

pub starts : (trees : List Tree) (limit : ℕ) (found : Outcome)
    → EndsAs (nothing_seen limit) trees found → IsAnswerOfAll trees limit found
starts trees limit found e = (e.0, e.1, from_nothing limit e.0 found e.2)

-- ---- a tree joins
none_first : (o rest : Option OpenLeaf) → or_open o rest ≡ None → o ≡ None
none_first None rest e = refl
none_first (Some x) rest e = cc

-- one leaf that is open hides those behind it
hides : (o : Option OpenLeaf) (y : OpenLeaf) (rest : Option OpenLeaf)
    → or_open (or_open o (Some y)) rest ≡ or_open o (Some y)
hides None y rest = refl
hides (Some x) y rest = refl

not_none : (o : Option OpenLeaf) (y : OpenLeaf) (rest : Option OpenLeaf)
    → or_open (or_open o (Some y)) rest ≡ None → ⊥
not_none None y rest e = cc
not_none (Some x) y rest e = cc

module _ (w : Seen) (t : Tree) (boxes : List (List ℕ)) (ls : List Listed)
    (room : w.boxes ≤ w.limit) where
  abbrev later : Option OpenLeaf
  later = first_open_from (w.cases + 1) ls

  abbrev here : Option (List ℕ × ℕ) → Option OpenLeaf
  here o = or_open w.first (or_later w.cases o later)

  joins : (o : Outcome) (found : Outcome) → o ≢ outcome.BoxLimit
      → IsAnswerOf t (boxes_left w) boxes o → EndsBy (with_outcome w o) ls found
      → EndsBy w (listed t boxes ∷ ls) found
  joins outcome.BoxLimit found n a e = absurd (n refl)
  joins (outcome.Leaves c xs) outcome.BoxLimit n a e = let k = a.2 in omega (arith, k, e)
  joins (outcome.Leaves c xs) (outcome.Unproved m leaf) n a e =
      let k = a.2 in
      let l = e.0 in
      let d = e.2 in
      (omega (arith, k, l), ap here a.1 ∙ e.1, omega (arith, k, d))
  joins (outcome.Leaves c xs) (outcome.Leaves m ys) n a e =
      let k = a.2 in
      let l = e.0 in
      let d = e.2 in
      let none : w.first ≡ None = none_first w.first later e.1 in
      let same : leaves_with w.first w.leaves xs ≡ w.leaves ++ xs =
      ap (λ o. leaves_with o w.leaves xs) none in (
        omega (arith, k, l),
        ap here a.1 ∙ e.1,
        omega (arith, k, d),
        e.3 ∙ ap (λ zs. zs ++ all_leaves ls) (same ∙ ap (λ zs. w.leaves ++ zs) a.3)
            ∙ append_assoc w.leaves (leaves_of t boxes) (all_leaves ls),
      )
  joins (outcome.Unproved c x) outcome.BoxLimit n a e = let k = a.2 in omega (arith, k, e)
  joins (outcome.Unproved c x) (outcome.Unproved m leaf) n a e =
      let k = a.2 in
      let l = e.0 in
      let d = e.2 in (
        omega (arith, k, l),
        ap here a.1 ∙ sym (hides w.first (open_at w.cases (x.path, x.goal)) later) ∙ e.1,
        omega (arith, k, d),
      )
  joins (outcome.Unproved c x) (outcome.Leaves m ys) n a e =
      absurd (not_none w.first (open_at w.cases (x.path, x.goal)) later e.1)

pub goes_on : (w : Seen) (t : Tree) (more : List Tree) (o : Outcome) (found : Outcome)
    → w.boxes ≤ w.limit → IsAnswer t (boxes_left w) o → o ≢ outcome.BoxLimit
    → EndsAs (with_outcome w o) more found → EndsAs w (t ∷ more) found
goes_on w t more o found room a n e =
    (listed t a.0 ∷ e.0, (refl, a.1, e.1), joins w t a.0 e.0 room o found n a.2 e.2)

-- ---- it ends
list_of : (ts : List Tree) → AllByRecursion HasBoxes ts → (ls : List Listed) × AreListed ts ls
list_of [] h = ([], tt)
list_of (t ∷ ts) h = let rest = list_of ts h.1 in (listed t h.0.0 ∷ rest.0, (refl, h.0.1, rest.1))

pub over : (w : Seen) (t : Tree) (more : List Tree)
    → w.boxes ≤ w.limit → IsAnswer t (boxes_left w) outcome.BoxLimit → AllByRecursion HasBoxes more
    → EndsAs w (t ∷ more) outcome.BoxLimit
over w t more room a h =
    let rest = list_of more h in
    let many = a.2 in
    (listed t a.0 ∷ rest.0, (refl, a.1, rest.1), omega (arith, room, many))

-- the root is a box
has_root : (t : Tree) (boxes : List (List ℕ)) → AreBoxes t boxes → 0 < length boxes
has_root t boxes are =
    let c = are.all [] (λ front piece rest e. absurd (no_more front piece rest e)) in
    let l = c.1 in omega (arith, l)

pub at_none : (w : Seen) (t : Tree) (more : List Tree) → w.limit ≤ w.boxes → HasBoxes t
    → AllByRecursion HasBoxes more → EndsAs w (t ∷ more) outcome.BoxLimit
at_none w t more none b h =
    let rest = list_of more h in
    let some = has_root t b.0 b.1 in
    (listed t b.0 ∷ rest.0, (refl, b.1, rest.1), omega (arith, none, some))

end_by : (w : Seen) → w.boxes ≤ w.limit → (o : Option OpenLeaf) → w.first ≡ o
    → EndsBy w [] (end_at w.boxes o w.leaves)
end_by w room (Some leaf) e = (omega (arith, room), ap (λ x. or_open x None) e, omega arith)
end_by w room None e =
    (omega (arith, room), ap (λ x. or_open x None) e, omega arith, sym (append-nil w.leaves))

pub at_end : (w : Seen) → w.boxes ≤ w.limit → EndsAs w [] (end_of w)
at_end w room = ([], tt, end_by w room w.first refl)
