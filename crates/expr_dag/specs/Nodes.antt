-- The list of shared nodes.
use Rattle.std.specs.Prelude.{◌≡◌, ℕ, ◌<◌, ◌≤◌, pos, negsuc, Bool, List, [], ◌∷◌, ◌++◌, length}
use Rattle.std.specs.Prelude.{slice_get, position, Option, Some, None, ◌⊎◌, ⊤}
use Rattle.fx_model.specs.declared.ExprId.{ExprId}
use Rattle.fx_model.specs.declared.Node.{Node}
use Rattle.fx_model.specs.declared.Node.TheVariants.{Var, Lit, Neg, Add, Sub, Mul, Div, Abs, Round}
use Rattle.fx_model.specs.contracts.NodePartialEq.TheImpl as node_eq
use Rattle.fx_model.specs.Expression.{Assignment, ChildrenBelow, value}
use Rattle.literal.specs.Spelling.{IsBetween}
use Rattle.literal.specs.Normal.{IsNormal}

-- A node's own numbers: a literal is the normal form of one within the limits,
-- and a rounding is to multiples of a power from 2^-512 to 2^512.
abbrev pub IsInLimits : Node → Type 0
IsInLimits (Var n) = ⊤
IsInLimits (Lit l) = IsNormal l
IsInLimits (Neg x) = ⊤
IsInLimits (Add x y) = ⊤
IsInLimits (Sub x y) = ⊤
IsInLimits (Mul x y) = ⊤
IsInLimits (Div x y) = ⊤
IsInLimits (Abs x) = ⊤
IsInLimits (Round r x) = IsBetween (negsuc 511) (pos 512) r.lsb

-- A node that may stand at place k: it is made of earlier ones.
pub record IsLawful (k : ℕ) (n : Node) : Type 0 where
  pub children : ChildrenBelow k n
  pub limits : IsInLimits n

-- The node with number x is n.
abbrev pub IsAt : List Node → ExprId → Node → Type 0
IsAt nodes x n = slice_get nodes x.0 ≡ Some n

-- No node of the list is n.
abbrev pub IsAbsent : List Node → Node → Type 0
IsAbsent nodes n = (x : ExprId) → ¬ IsAt nodes x n

-- What a list of shared nodes keeps: each node is lawful at its place and stands at one place
-- alone, and there are at most 1,024.
pub record IsShared (nodes : List Node) : Type 0 where
  pub lawful : (x : ExprId) (n : Node) → IsAt nodes x n → IsLawful x.0 n
  pub distinct : (x y : ExprId) (n : Node) → IsAt nodes x n → IsAt nodes y n → x ≡ y
  pub short : length nodes ≤ 1024

-- ---- adding a node

-- The node was there, with number x, and the list stays.
pub record IsFound (old : List Node) (n : Node) (new : List Node) (x : ExprId) : Type 0 where
  pub there : IsAt old x n
  pub same : new ≡ old

-- The node is new and goes last, with number x.
pub record IsLast (old : List Node) (n : Node) (new : List Node) (x : ExprId) : Type 0 where
  pub absent : IsAbsent old n
  pub list : new ≡ old ++ n ∷ []
  pub number : x.0 ≡ length old

-- The node has number x in the new list, and either was there or goes last.
pub record IsPlaced (old : List Node) (n : Node) (new : List Node) (x : ExprId) : Type 0 where
  pub within : x.0 < length new
  pub at : IsAt new x n
  pub how : IsFound old n new x ⊎ IsLast old n new x

-- What was there stays: each node keeps its number, and each expression its value.
pub record IsKept (old new : List Node) : Type 0 where
  pub longer : length old ≤ length new
  pub nodes : (x : ExprId) (n : Node) → IsAt old x n → IsAt new x n
  pub values : (a : Assignment) (x : ExprId) → x.0 < length old → value new a x ≡ value old a x

-- There is no room for the node.
pub record IsFull (nodes : List Node) (n : Node) : Type 0 where
  pub absent : IsAbsent nodes n
  pub long : length nodes ≡ 1024

-- ---- the same as functions

-- whether two nodes are one, as the program compares them
abbrev pub same_node : Node → Node → Bool
same_node = (node_eq.ghosts).eq

-- a place as the number of an expression
abbrev pub numbered : Option ℕ → Option ExprId
numbered None = None
numbered (Some i) = Some (record { 0 = i })

-- The number of a node, which is the first place where it stands; none where it doesn't.
abbrev pub place_of : List Node → Node → Option ExprId
place_of nodes n = numbered (position (same_node n) nodes)

-- the list and the number, where the node has number x, and where it has none
abbrev pub placed : List Node → Node → Option ExprId → List Node × ExprId
placed nodes n (Some x) = (nodes, x)
placed nodes n None = (nodes ++ n ∷ [], record { 0 = length nodes })

-- The list with a node, and the node's number.
abbrev pub with_node : List Node → Node → List Node × ExprId
with_node nodes n = placed nodes n (place_of nodes n)
