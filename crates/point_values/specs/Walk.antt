-- The values of nodes, one after another.
use Rattle.std.specs.Prelude.{◌≡◌, ℕ, ◌<◌, List, Option}
use Rattle.fx_model.specs.Expression.{Assignment, value}
use Rattle.fx_model.specs.declared.ExprId.{ExprId}
use Rattle.fx_model.specs.declared.Node.{Node}
use Rattle.exact_fractions.specs.declared.exact.Exact.{Exact}
use Rattle.point_values.specs.Known.{values_of}

-- The first n expressions have these values.
abbrev pub AreKnown : List Node → Assignment → List (Option Exact) → ℕ → Type 0
AreKnown nodes a vs n = (x : ExprId) → x.0 < n → values_of vs x ≡ value nodes a x
