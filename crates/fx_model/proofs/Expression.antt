-- Laws of what specs/Expression defines.
use Rattle.std.specs.Prelude.{◌≡◌, ℕ, ◌+◌, ◌<◌, List, [], slice_index_or, length}
use Rattle.std.proofs.Common.{subst, arith, ◌≤◌}
use Rattle.fx_model.specs.declared.ExprId.{ExprId}
use Rattle.fx_model.specs.declared.Node.{Node}
use Rattle.fx_model.specs.declared.Node.TheVariants.{Var, Lit, Neg, Add, Sub, Mul, Div, Abs, Round}
use Rattle.fx_model.specs.Expression.{Assignment, node_value, value, ChildrenBelow, IsOrdered, step}

-- ---- one step of the value
zero_plus : (k l : ℕ) → l ≡ 0 + k → k ≡ l
zero_plus k l e = omega arith

-- The value of a node is made of the values of its parts.
pub value_step : (nodes : List Node) (a : Assignment) (x : ExprId) (d : Node)
    → IsOrdered nodes → x.0 < length nodes
    → value nodes a x ≡ node_value a (value nodes a) (slice_index_or nodes x.0 d)
value_step nodes a x d o h = step a [] nodes x.0 x.0 d (omega arith) h
    (λ k l e m. subst (λ l. ChildrenBelow l (slice_index_or nodes k d)) (zero_plus k l e) (o k d m))

pub children_later : (j k : ℕ) (n : Node) → j ≤ k → ChildrenBelow j n → ChildrenBelow k n
children_later j k (Var m) l c = tt
children_later j k (Lit m) l c = tt
children_later j k (Neg x) l c = let a : x.0 < j = c in omega arith
children_later j k (Add x y) l c = let a : x.0 < j = c.0 in let b : y.0 < j = c.1 in
    (omega arith, omega arith)
children_later j k (Sub x y) l c = let a : x.0 < j = c.0 in let b : y.0 < j = c.1 in
    (omega arith, omega arith)
children_later j k (Mul x y) l c = let a : x.0 < j = c.0 in let b : y.0 < j = c.1 in
    (omega arith, omega arith)
children_later j k (Div x y) l c = let a : x.0 < j = c.0 in let b : y.0 < j = c.1 in
    (omega arith, omega arith)
children_later j k (Abs x) l c = let a : x.0 < j = c in omega arith
children_later j k (Round r x) l c = let a : x.0 < j = c in omega arith
