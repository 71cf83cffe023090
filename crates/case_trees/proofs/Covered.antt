-- The line over the leaves of all trees holds of what one leaf's fact holds of.
use Rattle.std.specs.Prelude.{◌≡◌, ◌<◌, ◌++◌, ◌↔◌, ℕ, zero, suc, List, [], ◌∷◌, length, Some}
use Rattle.std.specs.Prelude.{slice_get, slice_index_or, refl}
use Rattle.std.specs.List.{Contains}
use Rattle.std.proofs.Common.{sym, ◌∙◌, ap, subst, arith}
use Rattle.fx_model.specs.Expression.{Assignment}
use Rattle.fx_model.specs.declared.Node.{Node}
use Rattle.facts.specs.declared.fact.Fact.{Fact}
use Rattle.facts.specs.declared.fact.Slot.{Slot}
use Rattle.facts.specs.Holds.{Holds}
use Rattle.facts.specs.Order.{slot_of}
use Rattle.goals.specs.declared.line.Line.{Line}
use Rattle.goals.specs.Holds.{LineHolds, IsOfGoal, LineHoldsFirst, LineHoldsOn}
use Rattle.bisect.specs.declared.settler.State.{State}
use Rattle.bisect.specs.declared.settler.State.TheVariants as state
use Rattle.bisect.specs.declared.outcome.Leaf.{Leaf}
use Rattle.bisect.specs.Trees.{Tree, IsLeaf}
use Rattle.bisect.specs.Boxes.{AreBoxes, leaves_of, leaf_at}
use Rattle.bisect.specs.Gathered.{with_known, with_state, line_with}
use Rattle.bisect.proofs.Keeping.{leaves_keep}
use Rattle.case_trees.specs.Listed.{Listed, AreListed, all_leaves}

-- a tree's list of boxes has its leaves
abbrev pub LeavesTold : Type 0
LeavesTold = (t : Tree) (boxes : List (List ℕ)) → AreBoxes t boxes → (leaf : Leaf)
    → Contains (leaves_of t boxes) leaf ↔ (IsLeaf t leaf.path × (leaf.state ≡ t.state_at leaf.path))

-- one list behind the other
pub line_over : (k : ℕ) (l : Line) (xs ys : List Leaf)
    → line_with k l (xs ++ ys) ≡ line_with k (line_with k l xs) ys
line_over k l [] ys = refl
line_over k l (x ∷ xs) ys = line_over k (with_state k l x.state) xs ys

no_tree : (u : Tree) (k : ℕ) → slice_get [] k ≡ Some u → ⊥
no_tree u k e = cc

same_tree : (t u : Tree) → Some t ≡ Some u → t ≡ u
same_tree t u e = cc

module _ (first : LineHoldsFirst) (more : LineHoldsOn) (nodes : List Node) (a : Assignment)
    (s : Slot) (k : ℕ) where
  module _ (facts : List Fact) (f : Fact) (at : slice_get facts k ≡ Some f) (kind : IsOfGoal f)
      (on : slot_of f ≡ s) (holds : Holds nodes a f) where
    -- with the leaf's fact it holds
    fact_holds : (l : Line) (x : State) → x ≡ state.Settled facts
        → LineHolds nodes a s (with_state k l x)
    fact_holds l x e = subst (λ y. LineHolds nodes a s (with_state k l y)) (sym e) (subst
        (λ o. LineHolds nodes a s (with_known l o)) (sym at) (first nodes a s l f kind on holds))

    holds_in : (xs : List Leaf) (leaf : Leaf) (i : ℕ) → i < length xs
        → slice_index_or xs i leaf ≡ leaf → leaf.state ≡ state.Settled facts → (l : Line)
        → LineHolds nodes a s (line_with k l xs)
    holds_in [] leaf i b e z l = absurd (omega (arith, b))
    holds_in (x ∷ xs) leaf zero b e z l = leaves_keep more nodes a s k (with_state k l x.state) xs
        (fact_holds l x.state (ap (λ (y : Leaf). y.state) e ∙ z))
    holds_in (x ∷ xs) leaf (suc i) b e z l =
        holds_in xs leaf i (omega (arith, b)) e z (with_state k l x.state)

    module _ (told : LeavesTold) (t : Tree) (path : List ℕ) (leaf : IsLeaf t path)
        (settled : t.state_at path ≡ state.Settled facts) where
      holds_here : (boxes : List (List ℕ)) → AreBoxes t boxes → (l : Line)
          → LineHolds nodes a s (line_with k l (leaves_of t boxes))
      holds_here boxes are l =
          let c : Contains (leaves_of t boxes) (leaf_at t path) =
          (told t boxes are (leaf_at t path)).1 (leaf, refl) in
          holds_in (leaves_of t boxes) (leaf_at t path) c.0 c.1 c.2 settled l

      pub holds_over : (ts : List Tree) (ls : List Listed) (case : ℕ)
          → AreListed ts ls → slice_get ts case ≡ Some t → (l : Line)
          → LineHolds nodes a s (line_with k l (all_leaves ls))
      holds_over [] ls case are g l = absurd (no_tree t case g)
      holds_over (u ∷ ts) [] case are g l = absurd are
      holds_over (u ∷ ts) (x ∷ xs) zero are g l =
          let same : x.tree ≡ t = are.0 ∙ same_tree u t g in
          let here : LineHolds nodes a s (line_with k l (leaves_of x.tree x.boxes)) =
          subst (λ v. AreBoxes v x.boxes → LineHolds nodes a s
          (line_with k l (leaves_of v x.boxes))) (sym same) (λ b. holds_here x.boxes b l) are.1 in
          subst (LineHolds nodes a s)
          (sym (line_over k l (leaves_of x.tree x.boxes) (all_leaves xs)))
          (leaves_keep more nodes a s k (line_with k l (leaves_of x.tree x.boxes))
          (all_leaves xs) here)
      holds_over (u ∷ ts) (x ∷ xs) (suc case) are g l =
          subst (LineHolds nodes a s)
          (sym (line_over k l (leaves_of x.tree x.boxes) (all_leaves xs)))
          (holds_over ts xs case are.2 g (line_with k l (leaves_of x.tree x.boxes)))
