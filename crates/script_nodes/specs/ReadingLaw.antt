-- Reading the words of an expression from the left gives the nodes and the number of its tree.
use Rattle.std.specs.Prelude.{◌≡◌, List, [], ◌++◌, Option, Some}
use Rattle.fx_model.specs.declared.Rounding.{Rounding}
use Rattle.script_shape.specs.Expressions.{Expr}
use Rattle.script_shape.specs.Roles.{Leaf, expr_leaves}
use Rattle.script_nodes.specs.Known.{Known}
use Rattle.script_nodes.specs.Values.{expr_value}
use Rattle.script_nodes.specs.declared.waits.Waits.{Waits}
use Rattle.script_nodes.specs.Waits.{Reading, expr_done, read_all}

-- what stands behind an expression, whose end gives its number
pub record IsReadAs (q : Option Rounding) (e : Expr) (rest : List Leaf) (k : Known)
    (ws : List Waits) : Type 0 where
  pub after : Reading
  pub same : read_all q (expr_leaves e ++ rest)
      (record { known = k; waits = ws }) ≡ read_all q rest after
  pub done : expr_done q after after.waits ≡ Some (expr_value q e k, ws)

-- Whatever is known and whatever follows, the words of an expression are read as its tree.
abbrev pub ReadsTrees : Type 0
ReadsTrees = (q : Option Rounding) (e : Expr) (rest : List Leaf) (k : Known)
    → IsReadAs q e rest k []
