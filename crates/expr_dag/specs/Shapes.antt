-- Which node an expression is.
use Rattle.std.specs.Prelude.{◌&&◌, Bool, false, List, Option, Some, None, slice_get, nat_lt}
use Rattle.std.specs.Prelude.{length}
use Rattle.fx_model.specs.declared.ExprId.{ExprId}
use Rattle.fx_model.specs.declared.Node.{Node}
use Rattle.expr_dag.specs.Nodes.{same_node}

-- whether there is a node, and it is n
abbrev pub is_node : Option Node → Node → Bool
is_node None n = false
is_node (Some m) n = same_node m n

-- expression x of the list is the node n
abbrev pub is_at : List Node → ExprId → Node → Bool
is_at nodes x n = is_node (slice_get nodes x.0) n

-- the list has an expression x
abbrev pub is_known : List Node → ExprId → Bool
is_known nodes x = nat_lt x.0 (length nodes)

-- the list has both expressions
abbrev pub are_known : List Node → ExprId → ExprId → Bool
are_known nodes x y = is_known nodes x && is_known nodes y
