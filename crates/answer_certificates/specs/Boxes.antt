-- The tree of a script's boxes, as a certificate goes over it.
use Rattle.std.specs.Prelude.{◌≡◌, ◌+◌, ◌*◌, ◌++◌, ℕ, zero, suc, List, [], ◌∷◌, length, Option}
use Rattle.std.specs.Prelude.{Some, None}
use Rattle.fx_model.specs.declared.ExprId.{ExprId}
use Rattle.interval.specs.declared.interval.Interval.{Interval}
use Rattle.interval.specs.Results.{whole_interval}
use Rattle.goals.specs.declared.line.Line.{Line}
use Rattle.derivation.specs.Known.{Piece}
use Rattle.rule_universe.specs.Worlds.{World}
use Rattle.saturate.specs.Universes.{setting_of}
use Rattle.box_tree.specs.declared.cut.Cut.{Cut}
use Rattle.box_tree.specs.declared.cut.Cut.TheVariants.{Forced, Half, Bottom}
use Rattle.box_tree.specs.Plans.{cut_at, piece_at}
use Rattle.box_tree.specs.Regions.{PlanParts}
use Rattle.bisect.specs.declared.settler.State.{State}
use Rattle.bisect.specs.declared.outcome.Leaf.{Leaf}
use Rattle.bisect.specs.Gathered.{line_with}
use Rattle.bisect.specs.Trees.{children}
use Rattle.tree_certificates.specs.Trees.{Tree, Trees, leaf, cut, last, next, IsProved}
use Rattle.tree_certificates.specs.Trees.{lines_of_tree, steps_in}

-- what the last cut left of its variable's range
abbrev pub range_of_piece : Option Piece → Interval
range_of_piece None = whole_interval
range_of_piece (Some p) = p.1

-- the variable along which the cut goes; none at the bottom
abbrev pub variable_of : Cut → Option ExprId
variable_of (Forced x points) = Some x
variable_of (Half x m) = Some x
variable_of Bottom = None

-- the pieces of the box at the path from number i on, of which n are left, each with what `below`
-- says is below it
abbrev pub pieces_from : PlanParts → (List ℕ → Tree) → List ℕ → ℕ → ℕ → Trees
pieces_from plan below path i zero = last
pieces_from plan below path i (suc n) = next (range_of_piece (piece_at plan (path ++ i ∷ [])))
    (below (path ++ i ∷ [])) (pieces_from plan below path (i + 1) n)

-- a box that goes into so many pieces
abbrev pub cut_into : Cut → ℕ → Trees → Tree
cut_into c zero trees = leaf
cut_into (Forced x points) (suc n) trees = cut x points trees
cut_into (Half x m) (suc n) trees = cut x (m ∷ []) trees
cut_into Bottom (suc n) trees = leaf

-- the box at the path with those below it, as far as so many cuts
unfoldable pub boxes_below : PlanParts → (List ℕ → State) → ℕ → List ℕ → Tree
boxes_below plan states zero path = leaf
boxes_below plan states (suc cuts) path =
    cut_into (cut_at plan path) (children (cut_at plan path) (states path)) (pieces_from plan
    (boxes_below plan states cuts) path 0 (children (cut_at plan path) (states path)))

-- the tree of a plan's boxes that stand so, of which none is cut that lies 36 cuts below the root
abbrev pub boxes_of : PlanParts → (List ℕ → State) → Tree
boxes_of plan states = boxes_below plan states 36 []

-- ---- what its leaves show
-- the lines of the goals from number k on, with what more leaves know
abbrev pub rows_from : ℕ → List Line → List Leaf → List Line
rows_from k [] leaves = []
rows_from k (l ∷ lines) leaves = line_with k l leaves ∷ rows_from (k + 1) lines leaves

-- The tree has so many boxes and these leaves, each of them settled or void, and they show in lines
-- what is known there.
pub record IsProvedTree (u : World) (height : ℕ) (tree : Tree) (count : ℕ) (leaves : List Leaf)
    : Type 0 where
  pub proved : IsProved (setting_of u) height u.goals tree [] 0
  pub shown : (lines : List Line) → length lines ≡ length u.goals
      → lines_of_tree (setting_of u) height u.goals tree [] lines ≡ rows_from 0 lines leaves
  pub steps : (most : ℕ) → steps_in most tree ≡ most * count
