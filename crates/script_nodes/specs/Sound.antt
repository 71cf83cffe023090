-- What every reading keeps: its numbers are those of nodes, its roundings are within their limits,
-- and its nodes name the variables that there are.
use Rattle.std.specs.Prelude.{ℕ, ◌<◌, ◌≤◌, pos, negsuc, List, [], ◌∷◌, length, Option, Some, None}
use Rattle.fx_model.specs.declared.Rounding.{Rounding}
use Rattle.fx_model.specs.declared.ExprId.{ExprId}
use Rattle.fx_model.specs.declared.Node.{Node}
use Rattle.fx_model.specs.declared.Node.TheVariants.{Var}
use Rattle.literal.specs.Spelling.{IsBetween}
use Rattle.expr_dag.specs.Nodes.{IsAt}
use Rattle.script_nodes.specs.declared.waits.Waits.{Waits}
use Rattle.script_nodes.specs.declared.waits.Waits.TheVariants as wait
use Rattle.script_nodes.specs.Known.{Name}
use Rattle.script_nodes.specs.Waits.{Reading}

-- the rounding's power is from -512 to 512
abbrev pub IsInRange : Rounding → Type 0
IsInRange r = IsBetween (negsuc 511) (pos 512) r.lsb

-- the same, where there is a rounding
abbrev pub IsInRangeIf : Option Rounding → Type 0
IsInRangeIf None = Unit {0}
IsInRangeIf (Some r) = IsInRange r

-- its numbers are below n
abbrev pub Fits : ℕ → Waits → Type 0
Fits n (wait.Term x) = x.0 < n
Fits n (wait.Sum x) = x.0 < n
Fits n (wait.Difference x) = x.0 < n
Fits n (wait.Product x) = x.0 < n
Fits n (wait.Quotient x) = x.0 < n
Fits n wait.Minus = Unit {0}
Fits n wait.Paren = Unit {0}
Fits n wait.Bar = Unit {0}
Fits n (wait.Call r) = IsInRange r
Fits n wait.Fma = Unit {0}
Fits n (wait.FmaWithOne x) = x.0 < n
Fits n (wait.FmaWithTwo x y) = (x.0 < n) × (y.0 < n)
Fits n (wait.Operator r) = IsInRange r

-- what waits speaks of the first n nodes, and its roundings are within their limits
abbrev pub AllFit : ℕ → List Waits → Type 0
AllFit n [] = Unit {0}
AllFit n (w ∷ ws) = Fits n w × AllFit n ws

-- the values of names are among the first n nodes
abbrev pub ValuesFit : ℕ → List (Name × ExprId) → Type 0
ValuesFit n [] = Unit {0}
ValuesFit n (e ∷ es) = (e.1.0 < n) × ValuesFit n es

-- the roundings of names are within their limits
abbrev pub OperatorsFit : List (Name × Rounding) → Type 0
OperatorsFit [] = Unit {0}
OperatorsFit (e ∷ es) = IsInRange e.1 × OperatorsFit es

-- What waits and what names mean fits the nodes; there are no more variables than nodes, and each
-- variable of a node is one of them.
pub record IsSound (r : Reading) : Type 0 where
  pub waits : AllFit (length r.known.nodes) r.waits
  pub values : ValuesFit (length r.known.nodes) r.known.values
  pub operators : OperatorsFit r.known.operators
  pub variables : length r.known.variables ≤ length r.known.nodes
  pub numbered : (x : ExprId) (n : ℕ) → IsAt r.known.nodes x (Var n) → n < length r.known.variables

-- a node that is no variable
abbrev pub IsMade : Node → Type 0
IsMade (Var n) = ⊥
IsMade n = Unit {0}
