-- Laws of what specs/Listed defines.
use Rattle.std.specs.Prelude.{ℕ, List}
use Rattle.bisect.specs.Trees.{Tree}
use Rattle.case_trees.specs.Listed.{Listed}

-- a tree with the paths of its boxes
abbrev pub listed : Tree → List (List ℕ) → Listed
listed t boxes = record { tree = t; boxes = boxes }
