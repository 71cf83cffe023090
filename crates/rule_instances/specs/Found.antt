-- Instances that need an expression to be there, as lists.
use Rattle.std.specs.Prelude.{◌&&◌, Bool, true, false, List, [], ◌∷◌, ◌++◌, Option, Some, None}
use Rattle.std.specs.Prelude.{if◌then◌else◌}
use Rattle.fx_model.specs.declared.ExprId.{ExprId}
use Rattle.fx_model.specs.declared.Direction.{Direction}
use Rattle.fx_model.specs.declared.Direction.TheVariants.{Zr, Aw}
use Rattle.fx_model.specs.declared.Node.{Node}
use Rattle.fx_model.specs.declared.Node.TheVariants as node
use Rattle.expr_dag.specs.Nodes.{place_of}
use Rattle.pair_closure.specs.Closure.{Pair, is_same}
use Rattle.pair_closure.specs.Among.{is_among}
use Rattle.facts.specs.declared.fact.Slot.TheVariants.{Bnd, Rel, Fix, Nzr, Void}
use Rattle.facts.specs.declared.instance.Instance.{Instance}
use Rattle.rule_instances.specs.Slots.{rule}
use Rattle.rule_instances.specs.Lists.{given}

-- what an expression that is there gives
abbrev pub found : Option ExprId → (ExprId → List Instance) → List Instance
found None f = []
found (Some d) f = f d

-- what two that are there give
abbrev pub both_found : Option ExprId → Option ExprId
    → (ExprId → ExprId → List Instance) → List Instance
both_found (Some p) (Some q) f = f p q
both_found _ _ f = []

-- ---- of a difference x = y - z, by the nodes of y and z
abbrev pub is_sided : Direction → Bool
is_sided Zr = true
is_sided Aw = true
is_sided d = false

-- the error of a rounding
abbrev pub error_rules : ExprId → ExprId → Bool → List Instance
error_rules x a sided = (rule 42 (Bnd a ∷ []) (Bnd x) ∷ rule 44 (Fix a ∷ []) (Bnd x) ∷ [])
    ++ given sided (rule 43 (Bnd a ∷ []) (Bnd x))

-- What the difference `x` of the node `m` and `a` gives where `m` is a rounding of `a`; nothing
-- elsewhere.
abbrev pub at_error : ExprId → Node → ExprId → List Instance
at_error x (node.Round r e) a = if is_same e a then error_rules x a (is_sided r.dir) else []
at_error x _ a = []

-- two operations of one kind
abbrev pub at_terms : List Node → ExprId → Node → Node → List Instance
at_terms nodes x (node.Add a b) (node.Add c d) = both_found (place_of nodes (node.Sub a c))
    (place_of nodes (node.Sub b d)) (λ p q. rule 71 (Bnd p ∷ Bnd q ∷ []) (Bnd x) ∷ [])
at_terms nodes x (node.Sub a b) (node.Sub c d) = both_found (place_of nodes (node.Sub a c))
    (place_of nodes (node.Sub b d)) (λ p q. rule 72 (Bnd p ∷ Bnd q ∷ []) (Bnd x) ∷ [])
at_terms nodes x (node.Mul a b) (node.Mul c d) =
    both_found (place_of nodes (node.Sub a c)) (place_of nodes (node.Sub b d))
    (λ p q. rule 73 (Bnd a ∷ Bnd q ∷ Bnd p ∷ Bnd d ∷ []) (Bnd x) ∷ [])
at_terms nodes x (node.Neg a) (node.Neg b) =
    found (place_of nodes (node.Sub a b)) (λ p. rule 74 (Bnd p ∷ []) (Bnd x) ∷ [])
at_terms nodes x _ _ = []

-- a pair with one of the sides, where the three differ
abbrev pub past_left : List Node → ExprId → ExprId → ExprId → ExprId → List Instance
past_left nodes x a c b = both_found (place_of nodes (node.Sub a b)) (place_of nodes (node.Sub b c))
    (λ p q. rule 75 (Bnd p ∷ Bnd q ∷ []) (Bnd x) ∷ [])

-- What the difference `x` of `a` and `c` gives from `a - b` and `c - b`, where both are among the
-- nodes.
abbrev pub past_right : List Node → ExprId → ExprId → ExprId → ExprId → List Instance
past_right nodes x a c b = both_found (place_of nodes (node.Sub a b))
    (place_of nodes (node.Sub c b)) (λ p q. rule 76 (Bnd p ∷ Bnd q ∷ []) (Bnd x) ∷ [])

-- ---- of a pair (x, y)
abbrev pub pair_rules : ExprId → ExprId → List Instance
pair_rules x y = rule 36 (Rel x y ∷ Nzr x ∷ []) (Nzr y) ∷ rule 54 (Rel x y ∷ Bnd y ∷ []) (Bnd x)
    ∷ rule 92 (Rel x y ∷ Nzr y ∷ []) Void ∷ []

-- of one expression with itself, and of two
abbrev pub twin_rules : ExprId → ExprId → Bool → List Instance
twin_rules x y true = rule 51 (Bnd x ∷ []) (Rel x x) ∷ []
twin_rules x y false = rule 36 (Rel x y ∷ Nzr y ∷ []) (Nzr x) ∷ []

-- by the pair's difference
abbrev pub difference_rules : ExprId → ExprId → ExprId → List Instance
difference_rules x y d =
    rule 52 (Bnd d ∷ Bnd y ∷ []) (Rel x y) ∷ rule 53 (Rel x y ∷ Bnd y ∷ []) (Bnd d) ∷ []

-- What the pair's difference `d` gives about each side from the other; nothing for an expression
-- paired with itself.
abbrev pub apart_rules : ExprId → ExprId → Bool → ExprId → List Instance
apart_rules x y true d = []
apart_rules x y false d =
    rule 77 (Bnd y ∷ Bnd d ∷ []) (Bnd x) ∷ rule 78 (Bnd x ∷ Bnd d ∷ []) (Bnd y) ∷ []

-- by the nodes of its sides
abbrev pub operation_rules : List Node → List Pair → ExprId → ExprId → Node → Node → List Instance
operation_rules nodes pairs x y (node.Mul a b) (node.Mul c d) = given
    (is_among pairs (a, c) && is_among pairs (b, d)) (rule 56 (Rel a c ∷ Rel b d ∷ []) (Rel x y))
operation_rules nodes pairs x y (node.Div a b) (node.Div c d) = given (is_among pairs (a, c)
    && is_among pairs (b, d)) (rule 57 (Rel a c ∷ Rel b d ∷ Nzr d ∷ []) (Rel x y))
operation_rules nodes pairs x y (node.Neg a) (node.Neg b) =
    given (is_among pairs (a, b)) (rule 60 (Rel a b ∷ []) (Rel x y))
operation_rules nodes pairs x y (node.Add a b) (node.Add c d) =
    found (place_of nodes (node.Div c y)) (λ s. given (is_among pairs (a, c)
    && is_among pairs (b, d)) (rule 61 (Rel a c ∷ Rel b d ∷ Bnd s ∷ []) (Rel x y)))
operation_rules nodes pairs x y _ _ = []

-- all that doesn't go over other pairs
abbrev pub at_pair : List Node → List Pair → ExprId → ExprId → Node → Node → List Instance
at_pair nodes pairs x y m n =
    pair_rules x y ++ (twin_rules x y (is_same x y)
    ++ (found (place_of nodes (node.Sub x y))
    (λ d. difference_rules x y d ++ apart_rules x y (is_same x y) d)
    ++ (found (place_of nodes (node.Div x y)) (λ q. rule 55 (Rel x y ∷ Nzr y ∷ []) (Bnd q) ∷ [])
    ++ (given (is_among pairs (y, x)) (rule 59 (Rel x y ∷ []) (Rel y x))
    ++ operation_rules nodes pairs x y m n))))

-- and what a third expression c gives
abbrev pub past_pair : List Pair → ExprId → ExprId → ExprId → List Instance
past_pair pairs x y c = given (is_among pairs (x, c)) (rule 58 (Rel x y ∷ Rel y c ∷ []) (Rel x c))
