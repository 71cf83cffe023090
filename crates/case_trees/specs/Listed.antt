-- Several trees of boxes, one for each case, and what they have together.
use Rattle.std.specs.Prelude.{◌≡◌, ◌+◌, ◌++◌, ⊤, ℕ, List, [], ◌∷◌, length, Option, Some, None}
use Rattle.bisect.specs.declared.outcome.Leaf.{Leaf}
use Rattle.bisect.specs.Trees.{Tree}
use Rattle.bisect.specs.Boxes.{AreBoxes, first_open, leaves_of}
use Rattle.bisect.specs.Answers.{open_at}
use Rattle.bisect.specs.declared.outcome.OpenLeaf.{OpenLeaf}

-- a tree with a list of paths
pub record Listed : Type 0 where
  pub tree : Tree
  pub boxes : List (List ℕ)

-- Each tree with the paths of its boxes in order, tree by tree.
abbrev pub AreListed : List Tree → List Listed → Type 0
AreListed [] [] = ⊤
AreListed (t ∷ ts) (l ∷ ls) = (l.tree ≡ t) × AreBoxes l.tree l.boxes × AreListed ts ls
AreListed _ _ = ⊥

-- the number of boxes of all trees
abbrev pub box_count : List Listed → ℕ
box_count [] = 0
box_count (l ∷ ls) = length l.boxes + box_count ls

-- ---- open leaves
-- the open leaf of the case with this number, or else a later one
abbrev pub or_later : ℕ → Option (List ℕ × ℕ) → Option OpenLeaf → Option OpenLeaf
or_later case (Some leaf) later = Some (open_at case leaf)
or_later case None later = later

-- the first case that has an open leaf, with its first; the first tree is that of the case with
-- this number
abbrev pub first_open_from : ℕ → List Listed → Option OpenLeaf
first_open_from case [] = None
first_open_from case (l ∷ ls) =
    or_later case (first_open l.tree l.boxes) (first_open_from (case + 1) ls)

-- ---- leaves
-- the leaves of all trees, tree by tree
abbrev pub all_leaves : List Listed → List Leaf
all_leaves [] = []
all_leaves (l ∷ ls) = leaves_of l.tree l.boxes ++ all_leaves ls
