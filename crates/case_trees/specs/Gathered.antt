-- What several trees have come to so far, tree by tree.
use Rattle.std.specs.Prelude.{◌≡◌, ◌<◌, ◌≤◌, ◌+◌, ◌-◌, ◌++◌, ⊤, ℕ, List, [], Option, Some, None}
use Rattle.bisect.specs.declared.outcome.Leaf.{Leaf}
use Rattle.bisect.specs.declared.outcome.Outcome.{Outcome}
use Rattle.bisect.specs.declared.outcome.Outcome.TheVariants as outcome
use Rattle.bisect.specs.Trees.{Tree}
use Rattle.bisect.specs.Boxes.{AreBoxes}
use Rattle.bisect.specs.declared.outcome.OpenLeaf.{OpenLeaf}
use Rattle.bisect.specs.Answers.{open_at}
use Rattle.case_trees.specs.Listed.{Listed, AreListed, box_count, first_open_from, all_leaves}

-- how many trees there were, how many boxes they have, how many all may have, their first open
-- leaf, and the leaves as long as none was open
pub record Seen : Type 0 where
  pub cases : ℕ
  pub boxes : ℕ
  pub limit : ℕ
  pub first : Option OpenLeaf
  pub leaves : List Leaf

-- before the first tree
abbrev pub nothing_seen : ℕ → Seen
nothing_seen limit = record { cases = 0; boxes = 0; limit = limit; first = None; leaves = [] }

-- how many boxes the trees to come may have
abbrev pub boxes_left : Seen → ℕ
boxes_left w = w.limit - w.boxes

-- the first open leaf: the earlier one, where there is one
abbrev pub or_open : Option OpenLeaf → Option OpenLeaf → Option OpenLeaf
or_open (Some leaf) later = Some leaf
or_open None later = later

-- the leaves with those of one tree more; where a leaf is open they matter no longer
abbrev pub leaves_with : Option OpenLeaf → List Leaf → List Leaf → List Leaf
leaves_with (Some leaf) before more = before
leaves_with None before more = before ++ more

-- with one tree more that comes to this; more boxes than are left are no part of it
abbrev pub with_outcome : Seen → Outcome → Seen
with_outcome w (outcome.Leaves count leaves) =
    record {
      cases = w.cases + 1;
      boxes = w.boxes + count;
      limit = w.limit;
      first = w.first;
      leaves = leaves_with w.first w.leaves leaves;
    }
with_outcome w (outcome.Unproved count leaf) =
    record {
      cases = w.cases + 1;
      boxes = w.boxes + count;
      limit = w.limit;
      first = or_open w.first (Some (open_at w.cases (leaf.path, leaf.goal)));
      leaves = w.leaves;
    }
with_outcome w outcome.BoxLimit = w

-- it has no more boxes than these, or says that there are more
abbrev pub IsWithin : ℕ → Outcome → Type 0
IsWithin left (outcome.Leaves count leaves) = count ≤ left
IsWithin left (outcome.Unproved count leaf) = count ≤ left
IsWithin left outcome.BoxLimit = ⊤

-- what all come to, where no more trees follow
abbrev pub end_at : ℕ → Option OpenLeaf → List Leaf → Outcome
end_at count (Some leaf) leaves = outcome.Unproved count leaf
end_at count None leaves = outcome.Leaves count leaves

-- what all trees come to where no further one follows
abbrev pub end_of : Seen → Outcome
end_of w = end_at w.boxes w.first w.leaves

-- ---- with the trees that follow
-- by their boxes
abbrev pub EndsBy : Seen → List Listed → Outcome → Type 0
EndsBy w later outcome.BoxLimit = w.limit < w.boxes + box_count later
EndsBy w later (outcome.Unproved count leaf) = (w.boxes + box_count later ≤ w.limit)
    × (or_open w.first (first_open_from w.cases later) ≡ Some leaf)
    × (count ≡ w.boxes + box_count later)
EndsBy w later (outcome.Leaves count leaves) = (w.boxes + box_count later ≤ w.limit)
    × (or_open w.first (first_open_from w.cases later) ≡ None) × (count ≡ w.boxes + box_count later)
    × (leaves ≡ w.leaves ++ all_leaves later)

-- What was seen, and these trees behind it, come to this.
abbrev pub EndsAs : Seen → List Tree → Outcome → Type 0
EndsAs w later found = (ls : List Listed) × AreListed later ls × EndsBy w ls found

-- the tree has boxes in order
abbrev pub HasBoxes : Tree → Type 0
HasBoxes t = (boxes : List (List ℕ)) × AreBoxes t boxes
