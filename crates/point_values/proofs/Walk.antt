-- Laws of what specs/Walk defines.
use Rattle.std.specs.Prelude.{◌≡◌, ℕ, List, drop, length, Option}
use Rattle.fx_model.specs.Expression.{Assignment, value}
use Rattle.fx_model.specs.declared.Node.{Node}
use Rattle.exact_fractions.specs.declared.exact.Exact.{Exact}
use Rattle.point_values.specs.Numbers.{node_numbers, wide_from}
use Rattle.point_values.specs.declared.place.Place.TheVariants as place
use Rattle.point_values.specs.Walk.{AreKnown}

-- The first n nodes have these values, and none of them has a number that is too wide.
pub record IsWalked (nodes : List Node) (a : Assignment) (vs : List (Option Exact)) (n : ℕ) :
    Type 0 where
  pub count : length vs ≡ n
  pub known : AreKnown nodes a vs n
  pub narrow : wide_from place.Node (node_numbers (value nodes a)) n (drop n nodes)
      ≡ wide_from place.Node (node_numbers (value nodes a)) 0 nodes
