-- Conclusions on multiples, and roundings of an expression.
use Rattle.std.specs.Prelude.{⊤, ◌≤ℤ◌, pos, negsuc, List, Option, Some, None, slice_get}
use Rattle.std.specs.Prelude.{if◌then◌else◌}
use Rattle.fx_model.specs.declared.ExprId.{ExprId}
use Rattle.fx_model.specs.declared.Rounding.{Rounding}
use Rattle.fx_model.specs.declared.Node.{Node}
use Rattle.fx_model.specs.declared.Node.TheVariants as node
use Rattle.facts.specs.Order.{is_same}

-- the rounding, where the node is one of x
abbrev pub rounding_of : Option Node → ExprId → Option Rounding
rounding_of (Some (node.Round r y)) x = if is_same y x then Some r else None
rounding_of _ x = None

-- the rounding by which the expression is made of x
abbrev pub rounding_at : List Node → ExprId → ExprId → Option Rounding
rounding_at nodes e x = rounding_of (slice_get nodes e.0) x

-- the rounding, if there is one, is to multiples of a power from 2^-512 to 2^512
abbrev pub IsInLimits : Option Rounding → Type 0
IsInLimits None = ⊤
IsInLimits (Some r) = (negsuc 511 ≤ℤ r.lsb) × (r.lsb ≤ℤ pos 512)

-- the rounding R, where the node is R(x) - x
abbrev pub error_rounding_of : List Node → Option Node → ExprId → Option Rounding
error_rounding_of nodes (Some (node.Sub r y)) x =
    if is_same y x then rounding_at nodes r x else None
error_rounding_of nodes _ x = None

-- the rounding R, where the expression is R(x) - x
abbrev pub error_rounding_at : List Node → ExprId → ExprId → Option Rounding
error_rounding_at nodes e x = error_rounding_of nodes (slice_get nodes e.0) x
