-- Points of a script.
use Rattle.std.specs.Prelude.{◌≡◌, List, length}
use Rattle.std.specs.List.{AllByRecursion}
use Rattle.script_nodes.specs.Known.{Name}
use Rattle.point_values.specs.Rows.{Row, IsRow}

-- one row for each variable
pub record AreRowsOf (variables : List Name) (rows : List Row) : Type 0 where
  pub count : length rows ≡ length variables
  pub normal : AllByRecursion IsRow rows
