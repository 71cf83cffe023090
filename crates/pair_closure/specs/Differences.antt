-- What a difference leads to, case by case.
use Rattle.std.specs.Prelude.{◌≡◌, ◌<◌, ◌≤◌, ℕ, List, [], ◌∷◌, Some, slice_get, length}
use Rattle.fx_model.specs.declared.ExprId.{ExprId}
use Rattle.fx_model.specs.declared.Node.{Node}
use Rattle.fx_model.specs.declared.Node.TheVariants.{Sub}
use Rattle.pair_closure.specs.Reached.{Has}
use Rattle.pair_closure.specs.Closure.{Pair, AreApart, IsKnownPair}

-- some member of the list gives y
abbrev pub IsGivenBy : {A B : Type 0} → List A → (A → B → Type 0) → B → Type 0
IsGivenBy {A} xs Q y = (x : A) × Has xs x × Q x y

-- the difference of a pair
abbrev pub IsDifferenceOf : Pair → Node → Type 0
IsDifferenceOf p n = n ≡ Sub p.0 p.1

-- from a - c, b - c
abbrev pub IsPastLeft : ExprId → ExprId → ExprId → Node → Type 0
IsPastLeft a c b n = AreApart a b c × (n ≡ Sub b c)

-- from a - c, a - b
abbrev pub IsPastRight : ExprId → ExprId → ExprId → Node → Type 0
IsPastRight a c b n = AreApart a b c × (n ≡ Sub a b)

-- the sides of a difference are nodes of the list
abbrev pub HasKnownSides : List Node → Node → Type 0
HasKnownSides nodes n = (a c : ExprId) → n ≡ Sub a c → (a.0 < length nodes) × (c.0 < length nodes)

-- the sides of a node that is a difference
abbrev pub sides_of : Node → List Pair
sides_of (Sub a b) = (a, b) ∷ []
sides_of n = []

-- the sides of a difference that stands at place `from`, or behind it, before place `to`
abbrev pub IsBehind : List Node → ℕ → ℕ → Pair → Type 0
IsBehind all from to p = (k : ℕ) × (from ≤ k) × (k < to) × (slice_get all k ≡ Some (Sub p.0 p.1))

-- a difference of nodes of the list
abbrev pub IsKnownDifference : List Node → Node → Type 0
IsKnownDifference nodes n = (p : Pair) × (n ≡ Sub p.0 p.1) × IsKnownPair nodes p
