-- The one answer of several trees.
use Rattle.std.specs.Prelude.{◌≡◌, ◌<◌, ◌≤◌, ℕ, List, Some, None}
use Rattle.bisect.specs.declared.outcome.Outcome.{Outcome}
use Rattle.bisect.specs.declared.outcome.Outcome.TheVariants as outcome
use Rattle.bisect.specs.Trees.{Tree}
use Rattle.case_trees.specs.Listed.{Listed, AreListed, box_count, first_open_from, all_leaves}

-- by their boxes, in the order of their paths
abbrev pub IsAnswerBy : ℕ → List Listed → Outcome → Type 0
-- together they have more than are allowed
IsAnswerBy limit trees outcome.BoxLimit = limit < box_count trees
-- else, where leaves are open, the first of the first case that has one
IsAnswerBy limit trees (outcome.Unproved count leaf) = (box_count trees ≤ limit)
    × (first_open_from 0 trees ≡ Some leaf) × (count ≡ box_count trees)
-- else all leaves
IsAnswerBy limit trees (outcome.Leaves count leaves) = (box_count trees ≤ limit)
    × (first_open_from 0 trees ≡ None) × (count ≡ box_count trees) × (leaves ≡ all_leaves trees)

-- This is what the trees come to, one after the other, under a limit on all their boxes.
abbrev pub IsAnswerOfAll : List Tree → ℕ → Outcome → Type 0
IsAnswerOfAll trees limit found = (ls : List Listed)
    × AreListed trees ls × IsAnswerBy limit ls found
