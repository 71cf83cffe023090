-- The instances that an expression or a pair gives, as lists.
use Rattle.std.specs.Prelude.{Bool, List, [], ◌∷◌, ◌++◌, if◌then◌else◌}
use Rattle.fx_model.specs.declared.ExprId.{ExprId}
use Rattle.fx_model.specs.declared.Node.{Node}
use Rattle.fx_model.specs.declared.Node.TheVariants as node
use Rattle.pair_closure.specs.Closure.{is_same}
use Rattle.facts.specs.declared.fact.Slot.TheVariants.{Bnd, Abs, Fix, Nzr, Void}
use Rattle.facts.specs.declared.instance.Instance.{Instance}
use Rattle.rule_instances.specs.Slots.{rule}

-- what the test gives leave to
abbrev pub given : Bool → Instance → List Instance
given b i = if b then (i ∷ []) else []

-- of any expression
abbrev pub any_sizes : ExprId → List Instance
any_sizes x = rule 11 (Bnd x ∷ []) (Abs x) ∷ rule 12 (Abs x ∷ []) (Bnd x)
    ∷ rule 13 (Bnd x ∷ Abs x ∷ []) (Bnd x) ∷ []

-- The instances on multiples that any expression gives: from its bounds, back to its bounds, and to
-- a contradiction.
abbrev pub any_multiples : ExprId → List Instance
any_multiples x = rule 27 (Bnd x ∷ []) (Fix x) ∷ rule 28 (Bnd x ∷ Fix x ∷ []) (Bnd x)
    ∷ rule 90 (Bnd x ∷ Fix x ∷ []) Void ∷ []

-- The instances on being other than 0 that any expression gives: from its bounds or its size, and
-- to a contradiction.
abbrev pub any_nonzero : ExprId → List Instance
any_nonzero x = rule 31 (Bnd x ∷ []) (Nzr x) ∷ rule 32 (Abs x ∷ []) (Nzr x)
    ∷ rule 91 (Bnd x ∷ Nzr x ∷ []) Void ∷ []

-- All instances that an expression gives whatever its node is: on sizes, on multiples and on being
-- other than 0.
abbrev pub at_any : ExprId → List Instance
at_any x = any_sizes x ++ (any_multiples x ++ any_nonzero x)

-- of a difference, a product and a quotient, and one more where both operands are one
abbrev pub difference_rules : ExprId → ExprId → ExprId → List Instance
difference_rules x a b = rule 4 (Bnd a ∷ Bnd b ∷ []) (Bnd x) ∷ rule 19 (Abs a ∷ Abs b ∷ []) (Abs x)
    ∷ rule 23 (Fix a ∷ Fix b ∷ []) (Fix x) ∷ []

-- What the product `x` of `a` and `b` gives, be the operands one expression or two.
abbrev pub product_rules : ExprId → ExprId → ExprId → List Instance
product_rules x a b = rule 6 (Bnd a ∷ Bnd b ∷ []) (Bnd x) ∷ rule 17 (Abs a ∷ Abs b ∷ []) (Abs x)
    ∷ rule 24 (Fix a ∷ Fix b ∷ []) (Fix x) ∷ rule 33 (Nzr a ∷ Nzr b ∷ []) (Nzr x) ∷ []

-- What the quotient `x` of `a` by `b` gives, be the operands one expression or two.
abbrev pub quotient_rules : ExprId → ExprId → ExprId → List Instance
quotient_rules x a b = rule 8 (Bnd a ∷ Bnd b ∷ []) (Bnd x) ∷ rule 9 (Bnd a ∷ Nzr b ∷ []) (Bnd x)
    ∷ rule 18 (Abs a ∷ Abs b ∷ []) (Abs x) ∷ rule 34 (Nzr a ∷ Nzr b ∷ []) (Nzr x) ∷ []

-- of one operation
abbrev pub at_operation : ExprId → Node → List Instance
at_operation x (node.Var n) = []
at_operation x (node.Lit l) = rule 1 [] (Bnd x) ∷ rule 21 [] (Fix x) ∷ []
at_operation x (node.Neg a) = rule 2 (Bnd a ∷ []) (Bnd x) ∷ rule 16 (Abs a ∷ []) (Abs x)
    ∷ rule 22 (Fix a ∷ []) (Fix x) ∷ rule 35 (Nzr a ∷ []) (Nzr x) ∷ []
at_operation x (node.Add a b) = rule 3 (Bnd a ∷ Bnd b ∷ []) (Bnd x)
    ∷ rule 19 (Abs a ∷ Abs b ∷ []) (Abs x) ∷ rule 23 (Fix a ∷ Fix b ∷ []) (Fix x) ∷ []
at_operation x (node.Sub a b) =
    difference_rules x a b ++ given (is_same a b) (rule 5 (Bnd a ∷ []) (Bnd x))
at_operation x (node.Mul a b) =
    product_rules x a b ++ given (is_same a b) (rule 7 (Abs a ∷ []) (Bnd x))
at_operation x (node.Div a b) =
    quotient_rules x a b ++ given (is_same a b) (rule 10 (Nzr a ∷ []) (Bnd x))
at_operation x (node.Abs a) = rule 14 (Abs a ∷ []) (Bnd x) ∷ rule 15 (Bnd x ∷ []) (Abs a) ∷ []
at_operation x (node.Round r a) =
    rule 25 (Bnd a ∷ []) (Fix x) ∷ rule 26 (Fix a ∷ []) (Fix x) ∷ rule 41 (Bnd a ∷ []) (Bnd x) ∷ []
