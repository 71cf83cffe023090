-- What a name stands for.
use Rattle.std.proofs.Common.{◌≡◌, ◌<◌, length, Option, None, Result, IfOk, ap, subst}
use Rattle.fx_model.specs.declared.ExprId.{ExprId}
use Rattle.expr_dag.specs.declared.dag.DagFault.{DagFault}
use Rattle.script_nodes.specs.Known.{Name, Known, PlacedNode, entry_of, variable_put, name_put}
use Rattle.script_nodes.specs.Known.{named}

pub named_as : (k : Known) (text : Name) (o : Option ExprId) → o ≡ entry_of k.values text
    → name_put k text o ≡ named k text
unfolding named
named_as k text o e = ap (name_put k text) e

-- where it has no value
pub named_put : (k new : Known) (text : Name) (answer : Result ExprId DagFault)
    → None ≡ entry_of k.values text
    → IfOk answer (λ x. ◌≡◌ {A = PlacedNode} (new, x) (variable_put k text))
    → IfOk answer (λ x. ◌≡◌ {A = PlacedNode} (new, x) (named k text))
named_put k new text answer e h = subst (λ (p : PlacedNode).
    IfOk answer (λ x. ◌≡◌ {A = PlacedNode} (new, x) p)) (named_as k text None e) h

pub named_past : (k : Known) (text : Name) → None ≡ entry_of k.values text
    → 1024 < length (variable_put k text).0.nodes → 1024 < length (named k text).0.nodes
named_past k text e h =
    subst (λ (p : PlacedNode). 1024 < length p.0.nodes) (named_as k text None e) h
