-- Which nodes are subexpressions, as marks: one for each node.
use Rattle.std.specs.Prelude.{◌≡◌, ◌⊎◌, ◌↔◌, Bool, true, false, List, slice_index_or, length, ℕ}
use Rattle.std.specs.Prelude.{Some, slice_get}
use Rattle.fx_model.specs.declared.ExprId.{ExprId}
use Rattle.fx_model.specs.declared.Node.{Node}
use Rattle.fx_model.specs.declared.Node.TheVariants.{Var, Lit, Neg, Add, Sub, Mul, Div, Abs, Round}
use Rattle.poly_normal.specs.Mark.{IsPart}

-- whether an expression is marked
abbrev pub marked : List Bool → ExprId → Bool
marked marks x = slice_index_or marks x.0 false

-- an expression is one of the sides
abbrev pub IsSide : List ExprId → ExprId → Type 0
IsSide sides x = (k : ℕ) × (slice_get sides k ≡ Some x)

-- an expression is a subexpression of one of the sides
abbrev pub IsPartOfSide : List Node → List ExprId → ExprId → Type 0
IsPartOfSide nodes sides x = (r : ExprId) × IsSide sides r × IsPart nodes r x

-- Just the subexpressions of the sides are marked.
pub record AreParts (nodes : List Node) (sides : List ExprId) (marks : List Bool) : Type 0 where
  pub each : length marks ≡ length nodes
  pub parts : (x : ExprId) → marked marks x ≡ true ↔ IsPartOfSide nodes sides x

-- Exactly the expressions of P have been marked.
pub record IsMarking (before after : List Bool) (P : ExprId → Type 0) : Type 0 where
  pub lengths : length after ≡ length before
  pub marks : (x : ExprId) → marked after x ≡ true ↔ (marked before x ≡ true ⊎ P x)

-- whether a node is an atom
abbrev pub is_atom_node : Node → Bool
is_atom_node (Var n) = true
is_atom_node (Lit l) = false
is_atom_node (Neg x) = false
is_atom_node (Add x y) = false
is_atom_node (Sub x y) = false
is_atom_node (Mul x y) = false
is_atom_node (Div x y) = false
is_atom_node (Abs x) = true
is_atom_node (Round r x) = true
