-- Conclusions of rules.
use Rattle.std.specs.Prelude.{◌&&◌, Bool, List}
use Rattle.fx_model.specs.declared.Node.{Node}
use Rattle.fx_model.specs.declared.ExprId.{ExprId}
use Rattle.expr_dag.specs.Shapes.{is_known}
use Rattle.facts.specs.Order.{is_same}

-- both are one expression of the list
abbrev pub is_one : List Node → ExprId → ExprId → Bool
is_one nodes x y = is_same x y && is_known nodes x
