-- What stands before an expression: nodes, and names with what they mean.
use Rattle.std.specs.Prelude.{ℕ, pos, List, [], ◌∷◌, ◌++◌, Option, Some, None, if◌then◌else◌}
use Rattle.std.specs.List.{list_any, position, position_or_len}
use Rattle.std.specs.Str.{bytes_eq}
use Rattle.fx_model.specs.declared.Direction.TheVariants.{Zr}
use Rattle.fx_model.specs.declared.Rounding.{Rounding}
use Rattle.fx_model.specs.declared.ExprId.{ExprId}
use Rattle.fx_model.specs.declared.Node.{Node}
use Rattle.fx_model.specs.declared.Node.TheVariants.{Var}
use Rattle.expr_dag.specs.Nodes.{with_node, place_of}

-- the bytes of a name
abbrev pub Name : Type 0
Name = List ℕ

-- The nodes so far; the names of variables in the order of their first use, so that `Var i` is the
-- i-th; the names that have a value, with the number of its node; the names of operators.
pub record Known : Type 0 where
  pub nodes : List Node
  pub variables : List Name
  pub values : List (Name × ExprId)
  pub operators : List (Name × Rounding)

-- before the first definition
abbrev pub nothing_known : Known
nothing_known = record { nodes = []; variables = []; values = []; operators = [] }

-- what a name stands for among these, or none
abbrev pub entry_of : {A : Type 0} → List (Name × A) → Name → Option A
entry_of [] text = None
entry_of (e ∷ es) text = if bytes_eq text e.0 then Some e.1 else entry_of es text

-- A name that is there takes what it is given, and a new one goes last.
abbrev pub with_entry : {A : Type 0} → List (Name × A) → Name → A → List (Name × A)
with_entry [] text a = (text, a) ∷ []
with_entry (e ∷ es) text a = if bytes_eq text e.0 then (e.0, a) ∷ es else e ∷ with_entry es text a

-- what is known, and the number of an expression
abbrev pub PlacedNode : Type 0
PlacedNode = Known × ExprId

-- A node that is there keeps its number, and a new one goes last.
unfoldable pub put : Known → Node → PlacedNode
put k n = (record k { nodes = (with_node k.nodes n).0 }, (with_node k.nodes n).1)

-- the variables with one more, unless it is among them
abbrev pub variables_with : List Name → Name → List Name
variables_with names text = if list_any (bytes_eq text) names then names else names ++ (text ∷ [])

-- A variable has the number of its place among the variables. At its first use it is new and goes
-- last.
unfoldable pub variable_put : Known → Name → PlacedNode
variable_put k text = put (record k { variables = variables_with k.variables text })
    (Var (position_or_len (bytes_eq text) k.variables))

-- a name with a value stands for that, and any other for a variable
abbrev pub name_put : Known → Name → Option ExprId → PlacedNode
name_put k text (Some x) = (k, x)
name_put k text None = variable_put k text

-- what is known with this name, and the number of what it stands for
unfoldable pub named : Known → Name → PlacedNode
named k text = name_put k text (entry_of k.values text)

-- the number of a variable's node, where there is a variable and it has one
abbrev pub node_at : List Node → Option ℕ → Option ExprId
node_at nodes None = None
node_at nodes (Some place) = place_of nodes (Var place)

-- the number of a value, or else of a variable's node
abbrev pub value_or_node : Option ExprId → Option ExprId → Option ExprId
value_or_node (Some x) other = Some x
value_or_node None other = other

-- The number of what a name stands for, where it has a value or is a variable with a node.
abbrev pub number_of : Known → Name → Option ExprId
number_of k text = value_or_node (entry_of k.values text)
    (node_at k.nodes (position (bytes_eq text) k.variables))

-- Rounding to whole numbers toward 0. It stands where a name isn't an operator's, which no script
-- has.
abbrev pub no_rounding : Rounding
no_rounding = record { lsb = pos 0; dir = Zr }

-- the rounding, or that of no operator where there is none
abbrev pub or_none : Option Rounding → Rounding
or_none (Some r) = r
or_none None = no_rounding

-- the rounding of an operator's name
unfoldable pub operator_named : Known → Name → Rounding
operator_named k text = or_none (entry_of k.operators text)
