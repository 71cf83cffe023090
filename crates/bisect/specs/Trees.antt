-- The tree of boxes that cuts and states make.
use Rattle.std.specs.Prelude.{◌≡◌, ℕ, ◌+◌, List, length}
use Rattle.box_tree.specs.declared.cut.Cut.{Cut}
use Rattle.box_tree.specs.declared.cut.Cut.TheVariants as cut
use Rattle.box_tree.specs.Paths.{IsPathOf}
use Rattle.bisect.specs.declared.settler.State.{State}
use Rattle.bisect.specs.declared.settler.State.TheVariants as state

-- the cut of each box, and how it stands
pub record Tree : Type 0 where
  pub cut_at : List ℕ → Cut
  pub state_at : List ℕ → State

-- The tree in which each box has this cut and stands so.
abbrev pub tree_of : (List ℕ → Cut) → (List ℕ → State) → Tree
tree_of cuts states = record { cut_at = cuts; state_at = states }

-- Into how many boxes a box is cut. Where no assignment is left it is a leaf. A forced cut is made
-- whether its goals are settled or not. A box is halved where a goal is open.
abbrev pub children : Cut → State → ℕ
children c state.Void = 0
children (cut.Forced x points) s = length points + 1
children (cut.Half x m) (state.Open goal) = 2
children _ _ = 0

-- Into how many boxes the one at the path is cut; 0 where it is a leaf.
abbrev pub child_count : Tree → List ℕ → ℕ
child_count t path = children (t.cut_at path) (t.state_at path)

-- The tree has a box at the path: the root is one, and so is each piece of one that is cut.
abbrev pub IsBox : Tree → List ℕ → Type 0
IsBox t path = IsPathOf (child_count t) path

-- it isn't cut
abbrev pub IsLeaf : Tree → List ℕ → Type 0
IsLeaf t path = IsBox t path × (child_count t path ≡ 0)
