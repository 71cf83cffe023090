-- Rules on bounds, numbers 1 to 10 of the list: each row as a function from premises and a target
-- to its conclusion. What fits no row gives nothing.
use Rattle.std.specs.Prelude.{List, [], ◌∷◌, Option, Some, None, slice_get}
use Rattle.fx_model.specs.declared.ExprId.{ExprId}
use Rattle.fx_model.specs.declared.Node.{Node}
use Rattle.fx_model.specs.declared.Node.TheVariants as node
use Rattle.fx_model.specs.Fraction.{zero_ℚ, one_ℚ}
use Rattle.fx_model.specs.Expression.{literal_value}
use Rattle.interval.specs.declared.interval.Interval.{Interval}
use Rattle.interval.specs.Results.{negation_of, sum_of, difference_of, product_of, quotient_of}
use Rattle.interval.specs.Results.{point_of, whole_interval}
use Rattle.expr_dag.specs.Shapes.{is_at}
use Rattle.facts.specs.declared.fact.Fact.{Fact}
use Rattle.facts.specs.declared.fact.Slot.{Slot}
use Rattle.facts.specs.declared.fact.Fact.TheVariants as fact
use Rattle.facts.specs.declared.fact.Slot.TheVariants as slot
use Rattle.facts.specs.Conclusions.{bnd_of, given_if, only_if}

-- ---- literals
-- the best interval of the literal that the expression is
abbrev pub literal_at : Option Node → ExprId → Option Fact
literal_at (Some (node.Lit l)) e = Some (fact.Bnd e (point_of (literal_value l)))
literal_at _ e = None

-- 1: for a literal c, BND(c, [down c, up c])
abbrev pub literal_rule : List Node → List Fact → Slot → Option Fact
literal_rule nodes [] (slot.Bnd e) = literal_at (slice_get nodes e.0) e
literal_rule nodes _ _ = None

-- ---- negations, sums, differences, products
-- 2: from BND(a, I): BND(-a, -I)   (Gappa: `neg`)
abbrev pub negation_rule : List Node → List Fact → Slot → Option Fact
negation_rule nodes (fact.Bnd a i ∷ []) (slot.Bnd e) =
    only_if (is_at nodes e (node.Neg a)) (fact.Bnd e (negation_of i))
negation_rule nodes _ _ = None

-- from BND(a, I), BND(b, J): BND of what `make` makes of a and b, with `op` of I and J
abbrev pub binary_rule : (ExprId → ExprId → Node) → (Interval → Interval → Interval) → List Node
    → List Fact → Slot → Option Fact
binary_rule make op nodes (fact.Bnd a i ∷ fact.Bnd b j ∷ []) (slot.Bnd e) =
    only_if (is_at nodes e (make a b)) (fact.Bnd e (op i j))
binary_rule make op nodes _ _ = None

-- 3: from BND(a, I), BND(b, J): BND(a + b, I + J)   (`add`)
abbrev pub sum_rule : List Node → List Fact → Slot → Option Fact
sum_rule = binary_rule node.Add sum_of

-- 4: BND(a - b, I - J)   (`sub`)
abbrev pub difference_rule : List Node → List Fact → Slot → Option Fact
difference_rule = binary_rule node.Sub difference_of

-- 6: BND(a * b, I * J)   (`mul`)
abbrev pub product_rule : List Node → List Fact → Slot → Option Fact
product_rule = binary_rule node.Mul product_of

-- 5: from BND(x): BND(x - x, [0, 0])   (`sub_refl`)
abbrev pub difference_with_itself_rule : List Node → List Fact → Slot → Option Fact
difference_with_itself_rule nodes (fact.Bnd x i ∷ []) (slot.Bnd e) =
    only_if (is_at nodes e (node.Sub x x)) (fact.Bnd e (point_of zero_ℚ))
difference_with_itself_rule nodes _ _ = None

-- 7: from ABS(x, I): BND(x * x, I * I)   (`square`)
abbrev pub square_rule : List Node → List Fact → Slot → Option Fact
square_rule nodes (fact.Abs x s ∷ []) (slot.Bnd e) =
    only_if (is_at nodes e (node.Mul x x)) (fact.Bnd e (product_of s.interval s.interval))
square_rule nodes _ _ = None

-- ---- quotients
-- 8: from BND(a, I), BND(b, J), where 0 isn't in J: BND(a / b, I / J)   (`div`)
abbrev pub quotient_rule : List Node → List Fact → Slot → Option Fact
quotient_rule nodes (fact.Bnd a i ∷ fact.Bnd b j ∷ []) (slot.Bnd e) =
    given_if (is_at nodes e (node.Div a b)) (bnd_of e (quotient_of i j))
quotient_rule nodes _ _ = None

-- 9: from BND(a), NZR(b): a / b has a value, BND(a / b, whole line)
abbrev pub quotient_by_nonzero_rule : List Node → List Fact → Slot → Option Fact
quotient_by_nonzero_rule nodes (fact.Bnd a i ∷ fact.Nzr b ∷ []) (slot.Bnd e) =
    only_if (is_at nodes e (node.Div a b)) (fact.Bnd e whole_interval)
quotient_by_nonzero_rule nodes _ _ = None

-- 10: from NZR(x): BND(x / x, [1, 1])   (`div_refl`)
abbrev pub quotient_by_itself_rule : List Node → List Fact → Slot → Option Fact
quotient_by_itself_rule nodes (fact.Nzr x ∷ []) (slot.Bnd e) =
    only_if (is_at nodes e (node.Div x x)) (fact.Bnd e (point_of one_ℚ))
quotient_by_itself_rule nodes _ _ = None
