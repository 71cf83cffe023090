-- Which pairs of expressions are compared, and which expressions that takes: the least sets under
-- the rules below. Both sides of a pair are numbers of the script's nodes, and so are those of each
-- difference that is added.
use Rattle.std.specs.Prelude.{◌≡◌, ◌≢◌, ◌⊎◌, ◌<◌, ◌==◌, ◌+◌, ◌*◌, ℕ, Bool, if◌then◌else◌, List, []}
use Rattle.std.specs.Prelude.{◌∷◌, ◌++◌, Some, slice_get, map, length}
use Rattle.fx_model.specs.declared.ExprId.{ExprId}
use Rattle.fx_model.specs.declared.Rounding.{Rounding}
use Rattle.fx_model.specs.declared.Node.{Node}
use Rattle.fx_model.specs.declared.Node.TheVariants.{Neg, Add, Sub, Mul, Div, Round}
use Rattle.expr_dag.specs.Nodes.{IsAt}
use Rattle.pair_closure.specs.Reached.{IsReached, Has, IsEachOnce, IsListOf}

-- Two expressions that are compared, by their numbers; which one is first matters.
abbrev pub Pair : Type 0
Pair = ExprId × ExprId

-- whether two are one expression
abbrev pub is_same : ExprId → ExprId → Bool
is_same x y = x.0 == y.0

-- ---- pairs

-- operands at the same places of two sums, two differences, two products, two quotients or two
-- negations
abbrev pub matched : Node → Node → List Pair
matched (Add a b) (Add c d) = (a, c) ∷ (b, d) ∷ []
matched (Sub a b) (Sub c d) = (a, c) ∷ (b, d) ∷ []
matched (Mul a b) (Mul c d) = (a, c) ∷ (b, d) ∷ []
matched (Div a b) (Div c d) = (a, c) ∷ (b, d) ∷ []
matched (Neg a) (Neg b) = (a, b) ∷ []
matched _ _ = []

-- A rounding is compared with what it rounds.
abbrev pub IsRounding : List Node → Pair → Type 0
IsRounding nodes p = (r : Rounding) × IsAt nodes p.0 (Round r p.1)

-- The pairs to begin with: roundings, and those that a script names.
abbrev pub BeginsPairs : List Node → List Pair → Pair → Type 0
BeginsPairs nodes starts p = IsRounding nodes p ⊎ Has starts p

-- what a rounding rounds, beside an expression other than that
abbrev pub rounded : Node → ExprId → List Pair
rounded (Round r e) c = if is_same e c then [] else ((e, c) ∷ [])
rounded _ c = []

-- From a pair of different sides, operands at the same places. From (R(e), c) with c other than e,
-- (e, c).
pub data LeadsToPair (nodes : List Node) : Pair → Pair → Type 0 where
  operands : (x y : ExprId) (m n : Node) (p : Pair) → x ≢ y → IsAt nodes x m → IsAt nodes y n
      → Has (matched m n) p → LeadsToPair nodes (x, y) p
  inside : (x y : ExprId) (m : Node) (p : Pair) → IsAt nodes x m → Has (rounded m y) p
      → LeadsToPair nodes (x, y) p

-- The pairs that are compared.
abbrev pub IsPair : List Node → List Pair → Pair → Type 0
IsPair nodes starts = IsReached (BeginsPairs nodes starts) (LeadsToPair nodes)

-- both sides are among the first n nodes
abbrev pub AreBelow : ℕ → List Pair → Type 0
AreBelow n ps = (p : Pair) → Has ps p → ((p.0).0 < n) × ((p.1).0 < n)

-- both sides are nodes of the list
abbrev pub IsKnownPair : List Node → Pair → Type 0
IsKnownPair nodes p = ((p.0).0 < length nodes) × ((p.1).0 < length nodes)

-- Both sides of every pair in the list are numbers of these nodes.
abbrev pub AreKnown : List Node → List Pair → Type 0
AreKnown nodes ps = AreBelow (length nodes) ps

-- There are more than 1,024 pairs.
pub record AreManyPairs (nodes : List Node) (starts : List Pair) : Type 0 where
  pub list : List Pair
  pub only : (p : Pair) → Has list p → IsPair nodes starts p
  pub once : IsEachOnce list
  pub many : 1024 < length list

-- ---- expressions

-- operands at the same places, but those of quotients
abbrev pub matched_terms : Node → Node → List Pair
matched_terms (Div a b) n = []
matched_terms m n = matched m n

-- three different expressions
abbrev pub AreApart : ExprId → ExprId → ExprId → Type 0
AreApart a b c = (a ≢ b) × (b ≢ c) × (a ≢ c)

module _ (nodes : List Node) (P : Pair → Type 0) where
  -- The script's nodes, and for each pair (a, b) a - b. (Its b is a node of the script already.)
  pub data BeginsExpressions : Node → Type 0 where
    written : (n : Node) → Has nodes n → BeginsExpressions n
    difference : (a b : ExprId) → P (a, b) → BeginsExpressions (Sub a b)

  -- From (a + b) - (c + d), (a - b) - (c - d) and a * b - c * d: a - c and b - d; from (-a) - (-b):
  -- a - b. From a - c and a pair (a, b): b - c. From a - c and a pair (c, b): a - b.
  pub data LeadsToExpression : Node → Node → Type 0 where
    operands : (x y a b : ExprId) (m n : Node) → IsAt nodes x m → IsAt nodes y n
        → Has (matched_terms m n) (a, b) → LeadsToExpression (Sub x y) (Sub a b)
    past_left : (a b c : ExprId) → P (a, b) → AreApart a b c → LeadsToExpression (Sub a c) (Sub b c)
    past_right : (a b c : ExprId) → P (c, b) → AreApart a b c
        → LeadsToExpression (Sub a c) (Sub a b)

  -- The expressions that the pairs of P take.
  abbrev pub IsTaken : Node → Type 0
  IsTaken = IsReached BeginsExpressions LeadsToExpression

-- The expressions that facts may speak of.
abbrev pub IsExpression : List Node → List Pair → Node → Type 0
IsExpression nodes starts = IsTaken nodes (IsPair nodes starts)

-- There are more than 1,024 different ones.
pub record AreTooMany (E : Node → Type 0) : Type 0 where
  pub list : List Node
  pub only : (n : Node) → Has list n → E n
  pub once : IsEachOnce list
  pub many : 1024 < length list

-- ---- order

-- the place of a pair among all: by first sides, and where these are one by second sides (numbers
-- are below 65,536)
abbrev pub rank : Pair → ℕ
rank p = (p.0).0 * 65536 + (p.1).0

-- Each stands before those of higher rank.
abbrev pub AreRising : List Pair → Type 0
AreRising ps = (i j : ℕ) (p q : Pair) → slice_get ps i ≡ Some p → slice_get ps j ≡ Some q
    → i < j → rank p < rank q

-- The node that stands for a pair's first side less its second.
abbrev pub difference_of : Pair → Node
difference_of p = Sub p.0 p.1

-- Behind the first list stand differences, by rising sides.
pub record IsFollowed (nodes all : List Node) : Type 0 where
  pub differences : List Pair
  pub list : all ≡ nodes ++ map difference_of differences
  pub rising : AreRising differences

-- The list of nodes begins with the script's, behind which differences rise, and has exactly the
-- expressions, each once; the other list has exactly the pairs, rising.
pub record IsClosure (nodes : List Node) (starts : List Pair) (all : List Node)
    (found : List Pair) : Type 0 where
  pub begins : (x : ExprId) (n : Node) → IsAt nodes x n → IsAt all x n
  pub order : IsFollowed nodes all
  pub expressions : IsListOf (IsExpression nodes starts) all
  pub pairs : IsListOf (IsPair nodes starts) found
  pub rising : AreRising found

-- Two closures are one.
abbrev pub ClosuresAreOne : Type 0
ClosuresAreOne = (nodes : List Node) (starts : List Pair)
    (all some : List Node) (found others : List Pair) → IsClosure nodes starts all found
    → IsClosure nodes starts some others → (all ≡ some) × (found ≡ others)
