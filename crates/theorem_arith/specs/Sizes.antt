-- Rules on absolute values, numbers 11 to 19 of the list: each row as a function from premises and
-- a target to its conclusion. What fits no row gives nothing. An interval of absolute values is met
-- with [0, +inf].
use Rattle.std.specs.Prelude.{Bool, true, false, ◌&&◌, ◌||◌, List, [], ◌∷◌, Option, Some, None}
use Rattle.std.specs.Prelude.{slice_get, if◌then◌else◌}
use Rattle.fx_model.specs.declared.ExprId.{ExprId}
use Rattle.fx_model.specs.declared.Node.{Node}
use Rattle.fx_model.specs.declared.Node.TheVariants as node
use Rattle.fx_model.specs.Grid.{le_bound, Bound, neg_bound}
use Rattle.dyadic.specs.Ends.{bound_of}
use Rattle.dyadic.specs.declared.number.End.{End}
use Rattle.dyadic.specs.Extremes.{greater_end}
use Rattle.interval.specs.declared.interval.Interval.{Interval}
use Rattle.interval.specs.Meets.{interval_from}
use Rattle.interval.specs.Results.{negation_of, sum_of, difference_of, product_of, quotient_of}
use Rattle.interval.specs.Results.{size_of, half_line}
use Rattle.expr_dag.specs.Shapes.{is_at}
use Rattle.facts.specs.declared.size.Size.{Size}
use Rattle.facts.specs.declared.fact.Fact.{Fact}
use Rattle.facts.specs.declared.fact.Slot.{Slot}
use Rattle.facts.specs.declared.fact.Fact.TheVariants as fact
use Rattle.facts.specs.declared.fact.Slot.TheVariants as slot
use Rattle.facts.specs.Parts.{size_within}
use Rattle.facts.specs.Order.{is_same}
use Rattle.facts.specs.Conclusions.{abs_of, bnd_of, given_if, only_if}
use Rattle.theorem_arith.specs.Shapes.{is_one}

-- ---- from values to absolute values and back
-- 11: from BND(x, I): ABS(x, abs I)   (Gappa: `abs_of_bnd`)
abbrev pub size_rule : List Node → List Fact → Slot → Option Fact
size_rule nodes (fact.Bnd x i ∷ []) (slot.Abs e) =
    given_if (is_one nodes x e) (abs_of e (size_within (size_of i)))
size_rule nodes _ _ = None

-- [-q, q], for absolute values in [p, q]
abbrev pub around : Size → Option Interval
around s = interval_from (negation_of s.interval).lo s.interval.hi

-- 12: from ABS(x, [p, q]): BND(x, [-q, q])   (`bnd_of_abs`)
abbrev pub value_rule : List Node → List Fact → Slot → Option Fact
value_rule nodes (fact.Abs x s ∷ []) (slot.Bnd e) =
    given_if (is_one nodes x e) (bnd_of e (around s))
value_rule nodes _ _ = None

-- the first bound is below the second
abbrev pub is_less : Bound → Bound → Bool
is_less b c = if le_bound c b then false else true

-- the lower end of I is above -p: x isn't in [-q, -p]
abbrev pub is_above : Interval → Size → Bool
is_above i s = is_less (neg_bound (bound_of s.interval.lo)) (bound_of i.lo)

-- the upper end of I is below p: x isn't in [p, q]
abbrev pub is_below : Interval → Size → Bool
is_below i s = is_less (bound_of i.hi) (bound_of s.interval.lo)

-- x in [p, q] where it isn't below, in [-q, -p] where it isn't above, VOID where both; nothing else
abbrev pub signed_fact : ExprId → Size → Bool → Bool → Option Fact
signed_fact x s true true = Some fact.Void
signed_fact x s true false = Some (fact.Bnd x s.interval)
signed_fact x s false true = Some (fact.Bnd x (negation_of s.interval))
signed_fact x s false false = None

-- 13: from BND(x, I), ABS(x, [p, q]): BND(x, [p, q]) where the lower end of I is above -p; BND(x,
-- [-q, -p]) where the upper end is below p; VOID where both (`bnd_of_bnd_abs`)
abbrev pub sign_rule : List Node → List Fact → Slot → Option Fact
sign_rule nodes (fact.Bnd x i ∷ fact.Abs y s ∷ []) (slot.Bnd e) =
    given_if (is_one nodes x y && is_same x e) (signed_fact e s (is_above i s) (is_below i s))
sign_rule nodes (fact.Bnd x i ∷ fact.Abs y s ∷ []) slot.Void =
    only_if (is_one nodes x y && (is_above i s && is_below i s)) fact.Void
sign_rule nodes _ _ = None

-- 14: from ABS(x, I): BND(|x|, I)
abbrev pub absolute_value_rule : List Node → List Fact → Slot → Option Fact
absolute_value_rule nodes (fact.Abs x s ∷ []) (slot.Bnd e) =
    only_if (is_at nodes e (node.Abs x)) (fact.Bnd e s.interval)
absolute_value_rule nodes _ _ = None

-- an ABS fact, or VOID where no absolute value is left
abbrev pub abs_or_void : ExprId → Option Size → Fact
abs_or_void x (Some s) = fact.Abs x s
abs_or_void x None = fact.Void

-- VOID, where no absolute value is left
abbrev pub void_if_none : Option Size → Option Fact
void_if_none (Some s) = None
void_if_none None = Some fact.Void

-- the expression is an absolute value
abbrev pub is_absolute_value : Option Node → Bool
is_absolute_value (Some (node.Abs x)) = true
is_absolute_value _ = false

-- 15: from BND(|x|, I): ABS(x, I); VOID where I lies below 0
abbrev pub size_of_value_rule : List Node → List Fact → Slot → Option Fact
size_of_value_rule nodes (fact.Bnd y i ∷ []) (slot.Abs e) =
    only_if (is_at nodes y (node.Abs e)) (abs_or_void e (size_within i))
size_of_value_rule nodes (fact.Bnd y i ∷ []) slot.Void =
    given_if (is_absolute_value (slice_get nodes y.0)) (void_if_none (size_within i))
size_of_value_rule nodes _ _ = None

-- ---- absolute values of operations
-- 16: from ABS(a, I): ABS(-a, I)   (`neg_a`)
abbrev pub size_of_negation_rule : List Node → List Fact → Slot → Option Fact
size_of_negation_rule nodes (fact.Abs a s ∷ []) (slot.Abs e) =
    only_if (is_at nodes e (node.Neg a)) (fact.Abs e s)
size_of_negation_rule nodes _ _ = None

-- 17: from ABS(a, I), ABS(b, J): ABS(a * b, I * J)   (`mul_aa`)
abbrev pub size_of_product_rule : List Node → List Fact → Slot → Option Fact
size_of_product_rule nodes (fact.Abs a s ∷ fact.Abs b t ∷ []) (slot.Abs e) = given_if
    (is_at nodes e (node.Mul a b)) (abs_of e (size_within (product_of s.interval t.interval)))
size_of_product_rule nodes _ _ = None

-- what of an interval, where there is one, is at least 0
abbrev pub size_within_part : Option Interval → Option Size
size_within_part None = None
size_within_part (Some i) = size_within i

-- 18: from ABS(a, I), ABS(b, J), where 0 isn't in J: ABS(a / b, I / J)   (`div_aa`)
abbrev pub size_of_quotient_rule : List Node → List Fact → Slot → Option Fact
size_of_quotient_rule nodes (fact.Abs a s ∷ fact.Abs b t ∷ []) (slot.Abs e) = given_if
    (is_at nodes e (node.Div a b)) (abs_of e (size_within_part (quotient_of s.interval t.interval)))
size_of_quotient_rule nodes _ _ = None

-- the greatest of 0, p - s and r - q, rounded down, for absolute values in [p, q] and [r, s]
abbrev pub least_size : Interval → Interval → End
least_size i j =
    greater_end (greater_end half_line.lo (difference_of i j).lo) (difference_of j i).lo

-- [max(0, p - s, r - q), q + s], rounded outward
abbrev pub size_of_sum : Interval → Interval → Option Size
size_of_sum i j = size_within_part (interval_from (least_size i j) (sum_of i j).hi)

-- 19: from ABS(a, [p, q]), ABS(b, [r, s]): ABS of a + b and of a - b in [max(0, p - s, r - q), q +
-- s] (`add_aa`, `sub_aa`)
abbrev pub size_of_sum_rule : List Node → List Fact → Slot → Option Fact
size_of_sum_rule nodes (fact.Abs a s ∷ fact.Abs b t ∷ []) (slot.Abs e) =
    given_if (is_at nodes e (node.Add a b) || is_at nodes e (node.Sub a b))
    (abs_of e (size_of_sum s.interval t.interval))
size_of_sum_rule nodes _ _ = None
