-- What a fact says of an assignment (Gappa User's Guide, "Predicates").
use Rattle.std.specs.Prelude.{◌≡◌, ◌≢◌, ◌⊎◌, Option, Some, None, List}
use Rattle.std.specs.Option.{IsSomeAnd}
use Rattle.fx_model.specs.Fraction.{Fraction, ◌-ℚ◌, ◌/ℚ◌, abs_ℚ, zero_ℚ, one_ℚ}
use Rattle.fx_model.specs.Powers.{IsMultiple}
use Rattle.fx_model.specs.Enclosure.{Lies}
use Rattle.fx_model.specs.Expression.{Assignment, value}
use Rattle.fx_model.specs.declared.Node.{Node}
use Rattle.interval.specs.declared.interval.Interval.{Interval}
use Rattle.interval.specs.Intervals.{range_of}
use Rattle.facts.specs.declared.relative.RelativeError.{RelativeError}
use Rattle.facts.specs.declared.fact.Fact.{Fact}
use Rattle.facts.specs.declared.fact.Fact.TheVariants.{Bnd, Abs, Rel, Fix, Nzr, Void}

-- Both sides of a relative error are 0.
abbrev pub AreZero : Fraction → Fraction → Type 0
AreZero x y = (x ≡ zero_ℚ) × (y ≡ zero_ℚ)

-- Both are 0, or y isn't and x / y - 1 lies in the interval: x is y * (1 + t) for a t in it.
abbrev pub IsRelated : Interval → Fraction → Fraction → Type 0
IsRelated i x y = AreZero x y ⊎ ((y ≢ zero_ℚ) × Lies (range_of i) ((x /ℚ y) -ℚ one_ℚ))

-- Where no interval is given, both are 0.
abbrev pub IsRelatedBy : Option RelativeError → Fraction → Fraction → Type 0
IsRelatedBy (Some e) x y = IsRelated e.interval x y
IsRelatedBy None x y = AreZero x y

-- The fact holds of the assignment.
abbrev pub Holds : List Node → Assignment → Fact → Type 0
-- BND: the expression has a value, and it lies in the interval
Holds nodes a (Bnd x i) = IsSomeAnd (value nodes a x) (Lies (range_of i))
-- ABS: it has one, and its absolute value lies in the interval
Holds nodes a (Abs x s) = IsSomeAnd (value nodes a x) (λ v. Lies (range_of s.interval) (abs_ℚ v))
-- REL: both have values, which are related
Holds nodes a (Rel x y e) =
    IsSomeAnd (value nodes a x) (λ v. IsSomeAnd (value nodes a y) (IsRelatedBy e v))
-- FIX: it has one, a whole multiple of 2^k
Holds nodes a (Fix x k) = IsSomeAnd (value nodes a x) (IsMultiple k.exponent)
-- NZR: it has one, and it isn't 0
Holds nodes a (Nzr x) = IsSomeAnd (value nodes a x) (λ v. v ≢ zero_ℚ)
-- VOID holds of no assignment
Holds nodes a Void = ⊥
