-- Pairs by their first sides.
use Rattle.std.specs.Prelude.{◌≡◌, ◌<◌, if◌then◌else◌, List, [], ◌∷◌, Some, slice_get, length}
use Rattle.fx_model.specs.declared.ExprId.{ExprId}
use Rattle.pair_closure.specs.Reached.{Has}
use Rattle.pair_closure.specs.Closure.{Pair, is_same}

-- the second sides of the pairs with this first side, in their order
abbrev pub seconds : List Pair → ExprId → List ExprId
seconds [] a = []
seconds (p ∷ ps) a = if is_same p.0 a then p.1 ∷ seconds ps a else seconds ps a

-- The row of each first side has its second sides.
pub record IsIndexed (pairs : List Pair) (table : List (List ExprId)) : Type 0 where
  pub each : (a : ExprId) (row : List ExprId)
      → slice_get table a.0 ≡ Some row → row ≡ seconds pairs a
  pub all : (p : Pair) → Has pairs p → (p.0).0 < length table
