-- A list of nodes that others follow.
use Rattle.std.specs.Prelude.{◌≡◌, ◌<◌, List, ◌++◌, length}
use Rattle.fx_model.specs.Expression.{Assignment, IsOrdered, value}
use Rattle.fx_model.specs.declared.ExprId.{ExprId}
use Rattle.fx_model.specs.declared.Node.{Node}

-- The values of its nodes are what they were.
abbrev pub ValuesStay : Type 0
ValuesStay = (nodes more : List Node) (a : Assignment) → IsOrdered nodes → IsOrdered (nodes ++ more)
    → (x : ExprId) → x.0 < length nodes → value (nodes ++ more) a x ≡ value nodes a x
