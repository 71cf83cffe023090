-- Rules on multiples of powers of two, numbers 21 to 27 of the list: each row as a function from
-- premises and a target to its conclusion. What fits no row gives nothing. A power above 2^512 is
-- kept as 2^512; below 2^-1024 there is no conclusion.
use Rattle.std.specs.Prelude.{◌==◌, ◌||◌, pos, Bool, List, [], ◌∷◌, Option, Some, None, slice_get}
use Rattle.std.specs.Prelude.{if◌then◌else◌}
use Rattle.std.specs.Int.RustNames.{int_lt, unsigned_abs}
use Rattle.fx_model.specs.Expression.{literal_value}
use Rattle.fx_model.specs.declared.Rounding.{Rounding}
use Rattle.fx_model.specs.declared.Node.{Node}
use Rattle.fx_model.specs.declared.Node.TheVariants as node
use Rattle.fx_model.specs.Grid.{le_bound}
use Rattle.dyadic.specs.declared.number.Dyadic.{Dyadic}
use Rattle.dyadic.specs.declared.number.End.{End}
use Rattle.dyadic.specs.declared.number.End.TheVariants as end
use Rattle.dyadic.specs.Ends.{bound_of}
use Rattle.expr_dag.specs.Shapes.{is_at}
use Rattle.facts.specs.declared.place.FixPlace.{FixPlace}
use Rattle.facts.specs.declared.fact.Fact.{Fact}
use Rattle.facts.specs.declared.fact.Slot.{Slot}
use Rattle.facts.specs.declared.fact.Fact.TheVariants as fact
use Rattle.facts.specs.declared.fact.Slot.TheVariants as slot
use Rattle.facts.specs.Conclusions.{fix_of, given_if, only_if}
use Rattle.facts.specs.Places.{place_from, kept, sum_place, lesser_place}
use Rattle.theorem_arith.specs.Shapes.{is_one}
use Rattle.theorem_fix.specs.Greatest.{greatest_place}
use Rattle.theorem_fix.specs.Shapes.{rounding_at}

-- the greatest place of the literal that the node is
abbrev pub literal_place : Option Node → Option FixPlace
literal_place (Some (node.Lit l)) = greatest_place (literal_value l)
literal_place _ = None

-- 21: for a literal c, FIX(c, k), where k is the greatest of which it is a multiple
abbrev pub literal_multiple_rule : List Node → List Fact → Slot → Option Fact
literal_multiple_rule nodes [] (slot.Fix e) = fix_of e (literal_place (slice_get nodes e.0))
literal_multiple_rule nodes _ _ = None

-- 22: from FIX(a, k): FIX(-a, k)   (Gappa: `neg_fix`)
abbrev pub multiple_of_negation_rule : List Node → List Fact → Slot → Option Fact
multiple_of_negation_rule nodes (fact.Fix a k ∷ []) (slot.Fix e) =
    only_if (is_at nodes e (node.Neg a)) (fact.Fix e k)
multiple_of_negation_rule nodes _ _ = None

-- 23: from FIX(a, k), FIX(b, n): FIX(a + b) and FIX(a - b) with the lesser of k and n (`add_fix`,
-- `sub_fix`)
abbrev pub multiple_of_sum_rule : List Node → List Fact → Slot → Option Fact
multiple_of_sum_rule nodes (fact.Fix a k ∷ fact.Fix b n ∷ []) (slot.Fix e) = only_if
    (is_at nodes e (node.Add a b) || is_at nodes e (node.Sub a b)) (fact.Fix e (lesser_place k n))
multiple_of_sum_rule nodes _ _ = None

-- 24: from FIX(a, k), FIX(b, n): FIX(a * b, k + n)   (`mul_fix`)
abbrev pub multiple_of_product_rule : List Node → List Fact → Slot → Option Fact
multiple_of_product_rule nodes (fact.Fix a k ∷ fact.Fix b n ∷ []) (slot.Fix e) =
    given_if (is_at nodes e (node.Mul a b)) (fix_of e (sum_place k n))
multiple_of_product_rule nodes _ _ = None

-- the place of a rounding's last digit
abbrev pub last_place : Option Rounding → Option FixPlace
last_place None = None
last_place (Some r) = place_from r.lsb

-- 25: from BND(x): FIX(R(x), l)
abbrev pub rounded_multiple_rule : List Node → List Fact → Slot → Option Fact
rounded_multiple_rule nodes (fact.Bnd x i ∷ []) (slot.Fix e) =
    fix_of e (last_place (rounding_at nodes e x))
rounded_multiple_rule nodes _ _ = None

-- the place, where the rounding is to it or a lower one
abbrev pub untouched : FixPlace → Option Rounding → Option FixPlace
untouched k None = None
untouched k (Some r) = if int_lt k.exponent r.lsb then None else Some k

-- 26: from FIX(x, k), k >= l: FIX(R(x), k)
abbrev pub untouched_multiple_rule : List Node → List Fact → Slot → Option Fact
untouched_multiple_rule nodes (fact.Fix x k ∷ []) (slot.Fix e) =
    fix_of e (untouched k (rounding_at nodes e x))
untouched_multiple_rule nodes _ _ = None

-- the number is 0
abbrev pub is_zero : Dyadic → Bool
is_zero d = unsigned_abs d.mantissa == 0

-- the power of m * 2^e with odd m: 2^e, and 2^512 for 0
abbrev pub number_place : Dyadic → Option FixPlace
number_place d = kept (if is_zero d then pos 512 else d.exponent)

-- of an interval of one number
abbrev pub point_place : End → End → Option FixPlace
point_place (end.At c) (end.At d) =
    if le_bound (bound_of (end.At d)) (bound_of (end.At c)) then number_place c else None
point_place _ _ = None

-- 27: from BND(x, [p, p]): FIX(x, the exponent of p in its canonical form, 512 for 0)
-- (`fix_of_singleton_bnd`)
abbrev pub number_multiple_rule : List Node → List Fact → Slot → Option Fact
number_multiple_rule nodes (fact.Bnd x i ∷ []) (slot.Fix e) =
    given_if (is_one nodes x e) (fix_of e (point_place i.lo i.hi))
number_multiple_rule nodes _ _ = None
