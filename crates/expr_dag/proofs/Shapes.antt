-- Laws of what specs/Shapes defines.
use Rattle.std.specs.Prelude.{◌≡◌, true, List, Option, Some, None, slice_get}
use Rattle.std.proofs.Common.{ap, ◌∙◌}
use Rattle.std.proofs.lemmas.Option.{slice_get_within, get_or_from_slice_get}
use Rattle.fx_model.specs.declared.ExprId.{ExprId}
use Rattle.fx_model.specs.declared.Node.{Node}
use Rattle.fx_model.specs.Expression.{Assignment, IsOrdered, value, node_value}
use Rattle.fx_model.proofs.Expression.{value_step}
use Rattle.expr_dag.proofs.Same.{same}
use Rattle.expr_dag.specs.Shapes.{is_node, is_at}

is_node_out : (o : Option Node) (n : Node) → is_node o n ≡ true → o ≡ Some n
is_node_out None n e = cc
is_node_out (Some m) n e = ap Some (same m n e)

pub is_at_out : (nodes : List Node) (x : ExprId) (n : Node) → is_at nodes x n ≡ true
    → slice_get nodes x.0 ≡ Some n
is_at_out nodes x n e = is_node_out (slice_get nodes x.0) n e

-- the value of an expression is made of those of its parts
pub node_at-value : (nodes : List Node) (a : Assignment) (x : ExprId) (n : Node) → IsOrdered nodes
    → slice_get nodes x.0 ≡ Some n → value nodes a x ≡ node_value a (value nodes a) n
node_at-value nodes a x n o e = value_step nodes a x n o (slice_get_within nodes x.0 n e)
    ∙ ap (node_value a (value nodes a)) (get_or_from_slice_get nodes x.0 n n e)
