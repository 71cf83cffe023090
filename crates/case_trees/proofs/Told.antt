-- What is read off the boxes of several trees.
use Rattle.std.specs.Prelude.{◌≡◌, ◌<◌, ◌+◌, ◌⊎◌, ℕ, zero, suc, List, [], ◌∷◌, Option, Some, None}
use Rattle.std.specs.Prelude.{slice_get, refl}
use Rattle.std.proofs.Common.{sym, ◌∙◌, ap, subst, arith, inl, inr}
use Rattle.bisect.specs.Trees.{Tree}
use Rattle.bisect.specs.Boxes.{AreBoxes, IsBefore, IsOpenLeaf, HasNoOpenLeaf, first_open}
use Rattle.bisect.specs.declared.outcome.OpenLeaf.{OpenLeaf}
use Rattle.bisect.specs.Answers.{open_at}
use Rattle.case_trees.specs.Listed.{Listed, AreListed, or_later, first_open_from}
use Rattle.case_trees.specs.Laws.{IsFirstOfAll}

-- what a tree's list of boxes tells
abbrev pub FirstTold : Type 0
FirstTold = (t : Tree) (boxes : List (List ℕ)) (path : List ℕ) (goal : ℕ) → AreBoxes t boxes
    → first_open t boxes ≡ Some (path, goal)
    → IsOpenLeaf t path goal
    × ((other : List ℕ) (g : ℕ) → IsOpenLeaf t other g → (path ≡ other) ⊎ IsBefore path other)

abbrev pub NoneTold : Type 0
NoneTold = (t : Tree) (boxes : List (List ℕ)) → AreBoxes t boxes → first_open t boxes ≡ None
    → (path : List ℕ) (goal : ℕ) → ¬ (IsOpenLeaf t path goal)

-- of the first list of boxes, or of a later one
pub by_first : (o : Option (List ℕ × ℕ)) → (o ≡ None) ⊎ ((x : List ℕ × ℕ) × (o ≡ Some x))
by_first None = inl refl
by_first (Some x) = inr (x, refl)

closed_at : (none : NoneTold) (t : Tree) (l : Listed) → l.tree ≡ t → AreBoxes l.tree l.boxes
    → first_open l.tree l.boxes ≡ None → HasNoOpenLeaf t
closed_at none t l e are n = subst HasNoOpenLeaf e (none l.tree l.boxes are n)

some_same : (x y : OpenLeaf) → Some x ≡ Some y → x ≡ y
some_same x y e = cc

none_some : (x : OpenLeaf) → None ≡ Some x → ⊥
none_some x e = cc

same_tree : (t u : Tree) → Some t ≡ Some u → t ≡ u
same_tree t u e = cc

no_tree : (u : Tree) (k : ℕ) → slice_get [] k ≡ Some u → ⊥
no_tree u k e = cc

-- The first open leaf, of the tree with the number j of these, where the first is that of this
-- case.
record IsFirstFrom (case : ℕ) (ts : List Tree) (leaf : OpenLeaf) : Type 0 where
  j : ℕ
  number : leaf.case ≡ case + j
  tree : Tree
  there : slice_get ts j ≡ Some tree
  open_leaf : IsOpenLeaf tree leaf.path leaf.goal
  first : (other : List ℕ) (goal : ℕ) → IsOpenLeaf tree other goal
      → (leaf.path ≡ other) ⊎ IsBefore leaf.path other
  earlier : (i : ℕ) (t : Tree) → i < j → slice_get ts i ≡ Some t → HasNoOpenLeaf t

module _ (first : FirstTold) (none : NoneTold) where
  here : (case : ℕ) (t : Tree) (ts : List Tree) (x : List ℕ × ℕ) → IsOpenLeaf t x.0 x.1
      × ((other : List ℕ) (g : ℕ) → IsOpenLeaf t other g → (x.0 ≡ other) ⊎ IsBefore x.0 other)
      → IsFirstFrom case (t ∷ ts) (open_at case x)
  here case t ts x told = record {
    j = 0;
    number = omega arith;
    tree = t;
    there = refl;
    open_leaf = told.0;
    first = told.1;
    earlier = λ i u l e. absurd (omega (arith, l));
  }

  after : (case : ℕ) (t : Tree) (ts : List Tree) (leaf : OpenLeaf) → HasNoOpenLeaf t
      → IsFirstFrom (case + 1) ts leaf → IsFirstFrom case (t ∷ ts) leaf
  after case t ts leaf closed f = record {
    j = suc f.j;
    number = let n = f.number in omega (arith, n);
    tree = f.tree;
    there = f.there;
    open_leaf = f.open_leaf;
    first = f.first;
    earlier = λ i u l e. before i u l e;
  }
    where
      before : (i : ℕ) (u : Tree) → i < suc f.j → slice_get (t ∷ ts) i ≡ Some u → HasNoOpenLeaf u
      before zero u l e = subst HasNoOpenLeaf (same_tree t u e) closed
      before (suc i) u l e = f.earlier i u (omega (arith, l)) e

  first_from : (case : ℕ) (ts : List Tree) (ls : List Listed) (leaf : OpenLeaf) → AreListed ts ls
      → first_open_from case ls ≡ Some leaf → IsFirstFrom case ts leaf
  first_from case [] [] leaf are e = absurd (none_some leaf e)
  first_from case [] (l ∷ ls) leaf are e = absurd are
  first_from case (t ∷ ts) [] leaf are e = absurd are
  first_from case (t ∷ ts) (l ∷ ls) leaf are e = elim (by_first (first_open l.tree l.boxes)) [
    | inr x ↦
        let f : Some (open_at case x.0) ≡ Some leaf =
        ap (λ o. or_later case o (first_open_from (case + 1) ls)) (sym x.1) ∙ e in
        let told = first l.tree l.boxes x.0.0 x.0.1 are.1 x.1 in
        subst (IsFirstFrom case (t ∷ ts)) (some_same (open_at case x.0) leaf f)
        (here case t ts x.0 (subst (λ u. IsOpenLeaf u x.0.0 x.0.1 × ((other : List ℕ) (g : ℕ)
        → IsOpenLeaf u other g → (x.0.0 ≡ other) ⊎ IsBefore x.0.0 other)) are.0 told))
    | inl n ↦
        let f : first_open_from (case + 1) ls ≡ Some leaf =
        ap (λ o. or_later case o (first_open_from (case + 1) ls)) (sym n) ∙ e in
        after case t ts leaf (closed_at none t l are.0 are.1 n)
        (first_from (case + 1) ts ls leaf are.2 f)
  ]

  pub first_of_all : (trees : List Tree) (ls : List Listed) (leaf : OpenLeaf) → AreListed trees ls
      → first_open_from 0 ls ≡ Some leaf → IsFirstOfAll trees leaf
  first_of_all trees ls leaf are e =
      let f = first_from 0 trees ls leaf are e in
      let n : leaf.case ≡ f.j = let m = f.number in omega (arith, m) in
      record {
        tree = f.tree;
        there = subst (λ k. slice_get trees k ≡ Some f.tree) (sym n) f.there;
        open_leaf = f.open_leaf;
        first = f.first;
        earlier = λ i t l g. f.earlier i t (omega (arith, l, n)) g;
      }

later_none : (case : ℕ) (o : Option (List ℕ × ℕ)) (later : Option OpenLeaf)
    → or_later case o later ≡ None → (o ≡ None) × (later ≡ None)
later_none case None later e = (refl, e)
later_none case (Some x) later e = cc

module _ (none : NoneTold) where
  none_from : (case : ℕ) (ts : List Tree) (ls : List Listed) (k : ℕ) (t : Tree) → AreListed ts ls
      → first_open_from case ls ≡ None → slice_get ts k ≡ Some t → HasNoOpenLeaf t
  none_from case [] ls k t are e g = absurd (no_tree t k g)
  none_from case (u ∷ ts) [] k t are e g = absurd are
  none_from case (u ∷ ts) (l ∷ ls) zero t are e g =
      let n = later_none case (first_open l.tree l.boxes) (first_open_from (case + 1) ls) e in
      subst HasNoOpenLeaf (same_tree u t g) (closed_at none u l are.0 are.1 n.0)
  none_from case (u ∷ ts) (l ∷ ls) (suc k) t are e g =
      let n = later_none case (first_open l.tree l.boxes) (first_open_from (case + 1) ls) e in
      none_from (case + 1) ts ls k t are.2 n.1 g

  pub none_open : (trees : List Tree) (ls : List Listed) (case : ℕ) (t : Tree) → AreListed trees ls
      → first_open_from 0 ls ≡ None → slice_get trees case ≡ Some t → HasNoOpenLeaf t
  none_open trees ls case t are e g = none_from 0 trees ls case t are e g
