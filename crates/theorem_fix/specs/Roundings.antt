-- Rules on roundings, numbers 41 to 44 of the list: each row as a function from premises and a
-- target to its conclusion. What fits no row gives nothing.
use Rattle.std.specs.Prelude.{ℤ, Bool, true, false, List, [], ◌∷◌, Option, Some, None}
use Rattle.std.specs.Prelude.{if◌then◌else◌}
use Rattle.fx_model.specs.Fraction.{zero_ℚ}
use Rattle.fx_model.specs.Grid.{Bound, Below, At, Above, le_bound}
use Rattle.fx_model.specs.Enclosure.{Range}
use Rattle.fx_model.specs.Rounded.{rounded}
use Rattle.fx_model.specs.declared.Direction.{Direction}
use Rattle.fx_model.specs.declared.Direction.TheVariants.{Zr, Aw}
use Rattle.fx_model.specs.declared.Rounding.{Rounding}
use Rattle.fx_model.specs.declared.Node.{Node}
use Rattle.interval.specs.declared.interval.Interval.{Interval}
use Rattle.interval.specs.Intervals.{range_of}
use Rattle.interval.specs.Outward.{outward_of}
use Rattle.rounding.specs.declared.sign.Sign.{Sign}
use Rattle.rounding.specs.declared.sign.Sign.TheVariants.{Unknown, NotNegative, NotPositive, Zero}
use Rattle.rounding.specs.Errors.{error_range}
use Rattle.facts.specs.declared.fact.Fact.{Fact}
use Rattle.facts.specs.declared.fact.Slot.{Slot}
use Rattle.facts.specs.declared.fact.Fact.TheVariants as fact
use Rattle.facts.specs.declared.fact.Slot.TheVariants as slot
use Rattle.facts.specs.Conclusions.{bnd_of}
use Rattle.theorem_fix.specs.Shapes.{rounding_at, error_rounding_at}

-- ---- rounded values
-- a finite end rounded; an infinite one stays
abbrev pub rounded_end : Rounding → Bound → Bound
rounded_end r Below = Below
rounded_end r (At x) = At (rounded r.dir r.lsb x)
rounded_end r Above = Above

-- The range between the rounded ends; a side without an end stays open.
abbrev pub rounded_range : Rounding → Range → Range
rounded_range r s = record { low = rounded_end r s.low; high = rounded_end r s.high }

-- the interval between the rounded ends
abbrev pub rounded_interval : Option Rounding → Interval → Option Interval
rounded_interval None i = None
rounded_interval (Some r) i = outward_of (rounded_range r (range_of i))

-- 41: from BND(x, [p, q]): BND(R(x), [R(p), R(q)])
abbrev pub rounded_bound_rule : List Node → List Fact → Slot → Option Fact
rounded_bound_rule nodes (fact.Bnd x i ∷ []) (slot.Bnd e) =
    bnd_of e (rounded_interval (rounding_at nodes e x) i)
rounded_bound_rule nodes _ _ = None

-- ---- errors
-- the interval of the errors, where this is known of a number's sign and of which power it is a
-- multiple
abbrev pub errors_of : Option Rounding → Sign → Option ℤ → Option Interval
errors_of None sign place = None
errors_of (Some r) sign place = outward_of (error_range r.dir r.lsb sign place)

-- 42: from BND(x): BND(R(x) - x, E), where E is what the direction may be off
abbrev pub error_rule : List Node → List Fact → Slot → Option Fact
error_rule nodes (fact.Bnd x i ∷ []) (slot.Bnd e) =
    bnd_of e (errors_of (error_rounding_at nodes e x) Unknown None)
error_rule nodes _ _ = None

-- what an interval tells of the sign of a number in it
abbrev pub sign_by : Bool → Bool → Sign
sign_by true true = Zero
sign_by true false = NotNegative
sign_by false true = NotPositive
sign_by false false = Unknown

-- What a range tells of the sign of a number in it; unknown where it reaches to both sides of 0.
abbrev pub sign_of : Range → Sign
sign_of r = sign_by (le_bound (At zero_ℚ) r.low) (le_bound r.high (At zero_ℚ))

-- toward and away from zero the sign tells the side of the error
abbrev pub is_sided : Direction → Bool
is_sided Zr = true
is_sided Aw = true
is_sided d = false

-- The rounding, where a number's sign tells the side of its error: toward or away from zero. Others
-- give none.
abbrev pub sided : Option Rounding → Option Rounding
sided None = None
sided (Some r) = if is_sided r.dir then Some r else None

-- the interval of the errors, where the sign is known
abbrev pub signed_errors_of : Option Rounding → Sign → Option Interval
signed_errors_of r Unknown = None
signed_errors_of r NotNegative = errors_of (sided r) NotNegative None
signed_errors_of r NotPositive = errors_of (sided r) NotPositive None
signed_errors_of r Zero = errors_of (sided r) Zero None

-- 43: from BND(x, I), R toward or away from zero: BND(R(x) - x, E), where I is at or above 0:
-- toward [-2^l, 0], away [0, 2^l]; at or below 0 the two exchanged; I = [0, 0]: [0, 0]
abbrev pub signed_error_rule : List Node → List Fact → Slot → Option Fact
signed_error_rule nodes (fact.Bnd x i ∷ []) (slot.Bnd e) =
    bnd_of e (signed_errors_of (error_rounding_at nodes e x) (sign_of (range_of i)))
signed_error_rule nodes _ _ = None

-- 44: from FIX(x, k): BND(R(x) - x, [0, 0]) where k is at least l; else E of rule 42 with 2^l - 2^k
-- for each 2^l
abbrev pub multiple_error_rule : List Node → List Fact → Slot → Option Fact
multiple_error_rule nodes (fact.Fix x k ∷ []) (slot.Bnd e) =
    bnd_of e (errors_of (error_rounding_at nodes e x) Unknown (Some k.exponent))
multiple_error_rule nodes _ _ = None
