-- Several trees have one answer.
use Rattle.std.specs.Prelude.{◌≡◌, ◌≤◌, ◌↔◌, ◌+◌, ◌++◌, ℕ, List, [], ◌∷◌, length, Option, Some}
use Rattle.std.specs.Prelude.{None, refl}
use Rattle.std.proofs.Common.{sym, ◌∙◌, ap, ap₂, subst, arith}
use Rattle.std.proofs.lemmas.List.{append-nil}
use Rattle.bisect.specs.declared.outcome.Leaf.{Leaf}
use Rattle.bisect.specs.declared.outcome.Outcome.{Outcome}
use Rattle.bisect.specs.declared.outcome.Outcome.TheVariants as outcome
use Rattle.bisect.specs.Trees.{Tree}
use Rattle.bisect.specs.Boxes.{AreBoxes, first_open, leaves_of}
use Rattle.bisect.specs.Answers.{IsAnswer, IsAnswerOf, open_at}
use Rattle.bisect.specs.declared.outcome.OpenLeaf.{OpenLeaf}
use Rattle.case_trees.specs.Listed.{Listed, AreListed, box_count, or_later, first_open_from}
use Rattle.case_trees.specs.Listed.{all_leaves}
use Rattle.case_trees.proofs.Listed.{listed}
use Rattle.case_trees.specs.Answers.{IsAnswerBy, IsAnswerOfAll}

-- a tree has one answer
abbrev pub HasOneAnswer : Type 0
HasOneAnswer = (t : Tree) (limit : ℕ) (found other : Outcome) → IsAnswer t limit found
    → IsAnswer t limit other → found ≡ other

-- ---- one tree
-- the answer by a list of boxes with this first open leaf, where there may be enough
abbrev told : Tree → List (List ℕ) → Option (List ℕ × ℕ) → Outcome
told t boxes (Some at) = outcome.Unproved (length boxes) (open_at 0 at)
told t boxes None = outcome.Leaves (length boxes) (leaves_of t boxes)

told_is : (t : Tree) (boxes : List (List ℕ)) (limit : ℕ) → AreBoxes t boxes → length boxes ≤ limit
    → (o : Option (List ℕ × ℕ)) → first_open t boxes ≡ o → IsAnswer t limit (told t boxes o)
told_is t boxes limit are few (Some at) e = (boxes, are, (few, e, refl, refl))
told_is t boxes limit are few None e = (boxes, are, (few, e, refl, refl))

abbrev count_in : Outcome → ℕ
count_in (outcome.Unproved n x) = n
count_in (outcome.Leaves n ls) = n
count_in outcome.BoxLimit = 0

abbrev first_in : Outcome → Option (List ℕ × ℕ)
first_in (outcome.Unproved n x) = Some (x.path, x.goal)
first_in (outcome.Leaves n ls) = None
first_in outcome.BoxLimit = None

abbrev leaves_in : Outcome → List Leaf
leaves_in (outcome.Leaves n ls) = ls
leaves_in (outcome.Unproved n x) = []
leaves_in outcome.BoxLimit = []

told_count : (t : Tree) (boxes : List (List ℕ)) (o : Option (List ℕ × ℕ))
    → count_in (told t boxes o) ≡ length boxes
told_count t boxes (Some (p, g)) = refl
told_count t boxes None = refl

told_first : (t : Tree) (boxes : List (List ℕ)) (o : Option (List ℕ × ℕ))
    → first_in (told t boxes o) ≡ o
told_first t boxes (Some (p, g)) = refl
told_first t boxes None = refl

told_leaves : (t : Tree) (boxes : List (List ℕ)) (o : Option (List ℕ × ℕ)) → o ≡ None
    → leaves_in (told t boxes o) ≡ leaves_of t boxes
told_leaves t boxes o e = ap (λ x. leaves_in (told t boxes x)) e

-- What is read off two lists is the same.
record AreAlike (t u : Tree) (xs ys : List (List ℕ)) : Type 0 where
  count : length xs ≡ length ys
  first : first_open t xs ≡ first_open u ys
  leaves : first_open t xs ≡ None → leaves_of t xs ≡ leaves_of u ys

module _ (one : HasOneAnswer) where
  alike : (t : Tree) (xs ys : List (List ℕ)) → AreBoxes t xs → AreBoxes t ys → AreAlike t t xs ys
  alike t xs ys a b =
      let same : told t xs (first_open t xs) ≡ told t ys (first_open t ys) =
      one t (length xs + length ys) (told t xs (first_open t xs)) (told t ys (first_open t ys))
      (told_is t xs (length xs + length ys) a (omega arith) (first_open t xs) refl)
      (told_is t ys (length xs + length ys) b (omega arith) (first_open t ys) refl) in
      let first : first_open t xs ≡ first_open t ys = sym (told_first t xs (first_open t xs))
      ∙ ap first_in same ∙ told_first t ys (first_open t ys) in
      record {
        count = sym (told_count t xs (first_open t xs)) ∙ ap count_in same
            ∙ told_count t ys (first_open t ys);
        first = first;
        leaves = λ e. sym (told_leaves t xs (first_open t xs) e) ∙ ap leaves_in same
            ∙ told_leaves t ys (first_open t ys) (sym first ∙ e);
      }

  alike_at : (t u : Tree) (xs ys : List (List ℕ)) → t ≡ u → AreBoxes t xs
      → AreBoxes u ys → AreAlike t u xs ys
  alike_at t u xs ys e a b = subst (λ v. AreBoxes v ys → AreAlike t v xs ys) e (alike t xs ys a) b

  -- ---- several trees
  same_counts : (ts : List Tree) (xs ys : List Listed) → AreListed ts xs → AreListed ts ys
      → box_count xs ≡ box_count ys
  same_counts [] [] [] a b = refl
  same_counts [] [] (y ∷ ys) a b = absurd b
  same_counts [] (x ∷ xs) ys a b = absurd a
  same_counts (t ∷ ts) [] ys a b = absurd a
  same_counts (t ∷ ts) (x ∷ xs) [] a b = absurd b
  same_counts (t ∷ ts) (x ∷ xs) (y ∷ ys) a b =
      let here = (alike_at x.tree y.tree x.boxes y.boxes (a.0 ∙ sym b.0) a.1 b.1).count in
      let rest = same_counts ts xs ys a.2 b.2 in
      omega (arith, here, rest)

  same_first : (case : ℕ) (ts : List Tree) (xs ys : List Listed) → AreListed ts xs → AreListed ts ys
      → first_open_from case xs ≡ first_open_from case ys
  same_first case [] [] [] a b = refl
  same_first case [] [] (y ∷ ys) a b = absurd b
  same_first case [] (x ∷ xs) ys a b = absurd a
  same_first case (t ∷ ts) [] ys a b = absurd a
  same_first case (t ∷ ts) (x ∷ xs) [] a b = absurd b
  same_first case (t ∷ ts) (x ∷ xs) (y ∷ ys) a b =
      ap₂ (or_later case) (alike_at x.tree y.tree x.boxes y.boxes (a.0 ∙ sym b.0) a.1 b.1).first
      (same_first (case + 1) ts xs ys a.2 b.2)

none_here : (case : ℕ) (o : Option (List ℕ × ℕ)) (later : Option OpenLeaf)
    → or_later case o later ≡ None → o ≡ None
none_here case None later e = refl
none_here case (Some (p, g)) later e = cc

none_later : (case : ℕ) (o : Option (List ℕ × ℕ)) (later : Option OpenLeaf)
    → or_later case o later ≡ None → later ≡ None
none_later case None later e = e
none_later case (Some (p, g)) later e = cc

module _ (one : HasOneAnswer) where
  same_leaves : (case : ℕ) (ts : List Tree) (xs ys : List Listed) → AreListed ts xs
      → AreListed ts ys → first_open_from case xs ≡ None → all_leaves xs ≡ all_leaves ys
  same_leaves case [] [] [] a b n = refl
  same_leaves case [] [] (y ∷ ys) a b n = absurd b
  same_leaves case [] (x ∷ xs) ys a b n = absurd a
  same_leaves case (t ∷ ts) [] ys a b n = absurd a
  same_leaves case (t ∷ ts) (x ∷ xs) [] a b n = absurd b
  same_leaves case (t ∷ ts) (x ∷ xs) (y ∷ ys) a b n =
      ap₂ (λ u v. u ++ v)
      ((alike_at one x.tree y.tree x.boxes y.boxes (a.0 ∙ sym b.0) a.1 b.1).leaves
      (none_here case (first_open x.tree x.boxes) (first_open_from (case + 1) xs) n))
      (same_leaves (case + 1) ts xs ys a.2 b.2
      (none_later case (first_open x.tree x.boxes) (first_open_from (case + 1) xs) n))

  some_or_none : (o : Option OpenLeaf) (leaf : OpenLeaf) → o ≡ Some leaf → o ≡ None → ⊥
  some_or_none o leaf e f = let g : Some leaf ≡ None = sym e ∙ f in cc

  both_some : (o : Option OpenLeaf) (x y : OpenLeaf) → o ≡ Some x → o ≡ Some y → x ≡ y
  both_some o x y e f = let g : Some x ≡ Some y = sym e ∙ f in cc

  same_unproved : (n m : ℕ) (x y : OpenLeaf) → n ≡ m → x ≡ y
      → outcome.Unproved n x ≡ outcome.Unproved m y
  same_unproved n m x y e f = ap₂ outcome.Unproved e f

  same_found : (n m : ℕ) (x y : List Leaf) → n ≡ m → x ≡ y → outcome.Leaves n x ≡ outcome.Leaves m y
  same_found n m x y e f = ap₂ outcome.Leaves e f

  module _ (limit : ℕ) (xs ys : List Listed) (count : box_count xs ≡ box_count ys)
      (first : first_open_from 0 xs ≡ first_open_from 0 ys)
      (leaves : first_open_from 0 xs ≡ None → all_leaves xs ≡ all_leaves ys) where
    by_lists : (found other : Outcome) → IsAnswerBy limit xs found
        → IsAnswerBy limit ys other → found ≡ other
    by_lists outcome.BoxLimit outcome.BoxLimit a b = refl
    by_lists outcome.BoxLimit (outcome.Unproved n x) a b = let l = b.0 in
        absurd (omega (arith, a, l, count))
    by_lists outcome.BoxLimit (outcome.Leaves n ls) a b = let l = b.0 in
        absurd (omega (arith, a, l, count))
    by_lists (outcome.Unproved n x) outcome.BoxLimit a b = let l = a.0 in
        absurd (omega (arith, b, l, count))
    by_lists (outcome.Unproved n x) (outcome.Unproved m y) a b = same_unproved n m x y
        (a.2 ∙ count ∙ sym b.2) (both_some (first_open_from 0 ys) x y (sym first ∙ a.1) b.1)
    by_lists (outcome.Unproved n x) (outcome.Leaves m ls) a b =
        absurd (some_or_none (first_open_from 0 ys) x (sym first ∙ a.1) b.1)
    by_lists (outcome.Leaves n ls) outcome.BoxLimit a b = let l = a.0 in
        absurd (omega (arith, b, l, count))
    by_lists (outcome.Leaves n ls) (outcome.Unproved m y) a b =
        absurd (some_or_none (first_open_from 0 ys) y b.1 (sym first ∙ a.1))
    by_lists (outcome.Leaves n ls) (outcome.Leaves m ks) a b =
        same_found n m ls ks (a.2 ∙ count ∙ sym b.2) (a.3 ∙ leaves a.1 ∙ sym b.3)

  pub once : (trees : List Tree) (limit : ℕ) (found other : Outcome)
      → IsAnswerOfAll trees limit found → IsAnswerOfAll trees limit other → found ≡ other
  once trees limit found other a b =
      by_lists limit a.0 b.0 (same_counts one trees a.0 b.0 a.1 b.1)
      (same_first one 0 trees a.0 b.0 a.1 b.1)
      (same_leaves 0 trees a.0 b.0 a.1 b.1) found other a.2 b.2

-- ---- one tree alone
of_one_is : (t : Tree) (limit : ℕ) (found : Outcome) → IsAnswer t limit found
    → IsAnswerOfAll (t ∷ []) limit found
of_one_is t limit outcome.BoxLimit a = let l = a.2 in
    (listed t a.0 ∷ [], (refl, a.1, tt), omega (arith, l))
of_one_is t limit (outcome.Unproved n x) a =
    let l = a.2.0 in
    let c = a.2.2 in
    let first = ap (λ o. or_later 0 o None) a.2.1 in
    let case = ap (λ (k : ℕ). Some (open_at k (x.path, x.goal))) (sym a.2.3) in (
      listed t a.0 ∷ [],
      (refl, a.1, tt),
      (omega (arith, l), first ∙ case, omega (arith, c)),
    )
of_one_is t limit (outcome.Leaves n ls) a =
    let l = a.2.0 in
    let c = a.2.2 in (
      listed t a.0 ∷ [],
      (refl, a.1, tt),
      (
        omega (arith, l),
        ap (λ o. or_later 0 o None) a.2.1,
        omega (arith, c),
        a.2.3 ∙ sym (append-nil (leaves_of t a.0)),
      ),
    )

first_there : (o : Option (List ℕ × ℕ)) (x : OpenLeaf) → or_later 0 o None ≡ Some x
    → (o ≡ Some (x.path, x.goal)) × (x.case ≡ 0)
first_there None x e = absurd (none_some e)
  where
    none_some : None ≡ Some x → ⊥
    none_some f = cc
first_there (Some (q, h)) x e =
    let same : open_at 0 (q, h) ≡ x = cc in (
      ap (λ (y : OpenLeaf). Some (y.path, y.goal)) same,
      ap (λ (y : OpenLeaf). y.case) (sym same),
    )

by_one : (t : Tree) (boxes : List (List ℕ)) (limit : ℕ) (found : Outcome)
    → IsAnswerBy limit (listed t boxes ∷ []) found → IsAnswerOf t limit boxes found
by_one t boxes limit outcome.BoxLimit a = omega (arith, a)
by_one t boxes limit (outcome.Unproved n x) a =
    let l = a.0 in
    let c = a.2 in
    let first = first_there (first_open t boxes) x a.1 in
    (omega (arith, l), first.0, omega (arith, c), first.1)
by_one t boxes limit (outcome.Leaves n ls) a =
    let l = a.0 in
    let c = a.2 in (
      omega (arith, l),
      none_here 0 (first_open t boxes) None a.1,
      omega (arith, c),
      a.3 ∙ append-nil (leaves_of t boxes),
    )

one_of : (t : Tree) (limit : ℕ) (found : Outcome) (ls : List Listed) → AreListed (t ∷ []) ls
    → IsAnswerBy limit ls found → IsAnswer t limit found
one_of t limit found [] are a = absurd are
one_of t limit found (l ∷ m ∷ ls) are a = absurd are.2
one_of t limit found (l ∷ []) are a =
    subst (λ u. IsAnswer u limit found) are.0 (l.boxes, are.1, by_one l.tree l.boxes limit found a)

pub one_is_all : (t : Tree) (limit : ℕ) (found : Outcome)
    → IsAnswer t limit found ↔ IsAnswerOfAll (t ∷ []) limit found
one_is_all t limit found = (of_one_is t limit found, λ a. one_of t limit found a.0 a.1 a.2)
