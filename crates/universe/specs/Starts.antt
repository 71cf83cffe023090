-- The pairs that a script names.
use Rattle.std.specs.Prelude.{List, [], ◌∷◌, ◌++◌, Option, Some, slice_get}
use Rattle.fx_model.specs.declared.ExprId.{ExprId}
use Rattle.fx_model.specs.declared.Node.{Node}
use Rattle.fx_model.specs.declared.Node.TheVariants.{Sub}
use Rattle.pair_closure.specs.Closure.{Pair}
use Rattle.script_claims.specs.declared.claim.Claim.{Claim}
use Rattle.script_claims.specs.declared.claim.Claim.TheVariants.{Bounded, Asked, Relative}
use Rattle.script_claims.specs.declared.claim.Claim.TheVariants.{RelativeAsked, Multiple, Above}
use Rattle.script_claims.specs.declared.claim.Claim.TheVariants.{Below}
use Rattle.script_hints.specs.declared.hint.Hint.{Hint}
use Rattle.script_grammar.specs.Spells.{View}

-- the sides of a node that is a difference
abbrev pub sides_of : Option Node → List Pair
sides_of (Some (Sub a b)) = (a, b) ∷ []
sides_of _ = []

-- the sides of an expression that as a whole is a difference
abbrev pub whole_difference : List Node → ExprId → List Pair
whole_difference nodes x = sides_of (slice_get nodes x.0)

-- Of a proposition a -/ b: a and b. Of any other, also of @FIX(a - b, k), where its expression is a
-- difference: the sides of that.
abbrev pub claim_pairs : List Node → Claim → List Pair
claim_pairs nodes (Bounded x lower upper) = whole_difference nodes x
claim_pairs nodes (Asked x) = whole_difference nodes x
claim_pairs nodes (Relative x y lower upper) = (x, y) ∷ []
claim_pairs nodes (RelativeAsked x y) = (x, y) ∷ []
claim_pairs nodes (Multiple x k) = whole_difference nodes x
claim_pairs nodes (Above x n) = whole_difference nodes x
claim_pairs nodes (Below x n) = whole_difference nodes x

-- The pairs that these claims name, claim by claim in order; one that is named twice stands twice.
abbrev pub claims_pairs : List Node → List Claim → List Pair
claims_pairs nodes [] = []
claims_pairs nodes (c ∷ cs) = claim_pairs nodes c ++ claims_pairs nodes cs

-- of a hint a -> b: the sides of a and of b, where these are differences
abbrev pub hint_pairs : List Node → Hint → List Pair
hint_pairs nodes h = whole_difference nodes h.left ++ whole_difference nodes h.right

-- The pairs that these hints name, hint by hint in order; one that is named twice stands twice.
abbrev pub hints_pairs : List Node → List Hint → List Pair
hints_pairs nodes [] = []
hints_pairs nodes (h ∷ hs) = hint_pairs nodes h ++ hints_pairs nodes hs

-- Of each hint a ~ b: a and b; of each hypothesis and goal, and of each hint a -> b, as above.
abbrev pub starting_pairs : View → List Pair
starting_pairs s = s.hints.likes ++ (claims_pairs s.nodes s.hypotheses
    ++ (claims_pairs s.nodes s.goals ++ hints_pairs s.nodes s.hints.rewrites))
