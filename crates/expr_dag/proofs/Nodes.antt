-- Laws of what specs/Nodes defines.
use Rattle.std.specs.Prelude.{◌≡◌, List}
use Rattle.std.proofs.Common.{sym, ◌∙◌}
use Rattle.fx_model.specs.declared.ExprId.{ExprId}
use Rattle.fx_model.specs.declared.Node.{Node}
use Rattle.expr_dag.specs.Nodes.{IsAt}

pub one_node : (nodes : List Node) (x : ExprId) (m n : Node) → IsAt nodes x m
    → IsAt nodes x n → m ≡ n
one_node nodes x m n a b = let e = sym a ∙ b in cc
