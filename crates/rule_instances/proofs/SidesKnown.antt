-- The sides of a difference are nodes.
use Rattle.std.specs.Prelude.{◌<◌, List, length}
use Rattle.std.proofs.Common.{arith, subst}
use Rattle.std.proofs.lemmas.Option.{slice_get_within, get_or_from_slice_get}
use Rattle.fx_model.specs.declared.ExprId.{ExprId}
use Rattle.fx_model.specs.declared.Node.{Node}
use Rattle.fx_model.specs.declared.Node.TheVariants.{Sub}
use Rattle.fx_model.specs.Expression.{ChildrenBelow, IsOrdered}
use Rattle.expr_dag.specs.Nodes.{IsAt}

pub sides_known : (nodes : List Node) → IsOrdered nodes → (x a c : ExprId) → IsAt nodes x (Sub a c)
    → (a.0 < length nodes) × (c.0 < length nodes)
sides_known nodes o x a c at =
    let l = slice_get_within nodes x.0 (Sub a c) at in
    let k : ChildrenBelow x.0 (Sub a c) = subst (ChildrenBelow x.0)
    (get_or_from_slice_get nodes x.0 (Sub a c) (Sub a c) at) (o x.0 (Sub a c) l) in
    let first : a.0 < x.0 = k.0 in
    let second : c.0 < x.0 = k.1 in
    (omega arith, omega arith)
