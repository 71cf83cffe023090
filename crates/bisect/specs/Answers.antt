-- The answer of a tree.
use Rattle.std.specs.Prelude.{◌≡◌, ◌<◌, ◌≤◌, ℕ, List, length, Some, None}
use Rattle.bisect.specs.declared.outcome.OpenLeaf.{OpenLeaf}
use Rattle.bisect.specs.declared.outcome.Outcome.{Outcome}
use Rattle.bisect.specs.declared.outcome.Outcome.TheVariants as outcome
use Rattle.bisect.specs.Trees.{Tree}
use Rattle.bisect.specs.Boxes.{AreBoxes, first_open, leaves_of}

-- the open leaf of the case with this number, by its path and goal
abbrev pub open_at : ℕ → List ℕ × ℕ → OpenLeaf
open_at case leaf = record { case = case; path = leaf.0; goal = leaf.1 }

-- by its boxes, in the order of their paths
abbrev pub IsAnswerOf : Tree → ℕ → List (List ℕ) → Outcome → Type 0
-- there are more than are allowed
IsAnswerOf t limit boxes outcome.BoxLimit = limit < length boxes
-- else, where leaves are open, the first of them, of the first case
IsAnswerOf t limit boxes (outcome.Unproved count leaf) = (length boxes ≤ limit)
    × (first_open t boxes ≡ Some (leaf.path, leaf.goal)) × (count ≡ length boxes) × (leaf.case ≡ 0)
-- else all leaves
IsAnswerOf t limit boxes (outcome.Leaves count leaves) = (length boxes ≤ limit)
    × (first_open t boxes ≡ None) × (count ≡ length boxes) × (leaves ≡ leaves_of t boxes)

-- The answer of the tree where at most so many boxes are allowed: that of its boxes, in the order
-- of their paths.
abbrev pub IsAnswer : Tree → ℕ → Outcome → Type 0
IsAnswer t limit found = (boxes : List (List ℕ)) × AreBoxes t boxes × IsAnswerOf t limit boxes found
