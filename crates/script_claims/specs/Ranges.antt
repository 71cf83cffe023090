-- The range that claims give a variable: that of the first hypothesis on its node that bounds it on
-- both sides, where its ends, rounded outward, are finite.
use Rattle.std.specs.Prelude.{Bool, not, ◌&&◌, List, [], ◌∷◌, Option, Some, None, if◌then◌else◌}
use Rattle.std.specs.List.{flat_map, AllByRecursion}
use Rattle.fx_model.specs.declared.ExprId.{ExprId}
use Rattle.fx_model.specs.Fraction.{le_ℚ, ◌≤ℚ◌}
use Rattle.dyadic.specs.declared.number.Dyadic.{Dyadic}
use Rattle.dyadic.specs.declared.number.End.{End}
use Rattle.dyadic.specs.declared.number.End.TheVariants as end
use Rattle.dyadic.specs.Values.{value_of}
use Rattle.facts.specs.declared.fact.Fact.{Fact}
use Rattle.facts.specs.declared.fact.Fact.TheVariants as fact
use Rattle.facts.specs.Order.{is_same}
use Rattle.script_cases.specs.Cases.{all_items}
use Rattle.script_cases.specs.Parts.{Parts}
use Rattle.script_claims.specs.declared.claim.Claim.{Claim}
use Rattle.script_claims.specs.declared.range.SplitRange.{SplitRange}
use Rattle.script_claims.specs.Facts.{hypothesis_fact}

-- Whether the value of the first is less than that of the second.
abbrev pub is_less : Dyadic → Dyadic → Bool
is_less a b = not (le_ℚ (value_of b) (value_of a))

-- p lies strictly inside the range
abbrev pub is_inside : SplitRange → Dyadic → Bool
is_inside r p = is_less r.low p && is_less p r.high

-- the ends are in order
abbrev pub IsOrdered : SplitRange → Type 0
IsOrdered r = value_of r.low ≤ℚ value_of r.high

-- ends that are both finite, as a range
abbrev pub finite_range : ExprId → End → End → Option SplitRange
finite_range x (end.At low) (end.At high) = Some (record { var = x; low = low; high = high })
finite_range x _ _ = None

-- the range that a hypothesis gives a variable: its bounds rounded outward, where both are finite
abbrev pub range_by : ExprId → Option Fact → Option SplitRange
range_by x (Some (fact.Bnd y i)) = if is_same y x then finite_range x i.lo i.hi else None
range_by x _ = None

-- The range, or the later one where there is none.
abbrev pub or_later : Option SplitRange → Option SplitRange → Option SplitRange
or_later None later = later
or_later (Some r) later = Some r

-- the range that the first such hypothesis gives it
abbrev pub split_range : List Claim → ExprId → Option SplitRange
split_range [] x = None
split_range (c ∷ cs) x = or_later (range_by x (hypothesis_fact c)) (split_range cs x)

-- What holds of each item of parts that are being read.
pub record AllInParts {X : Type 0} (P : X → Type 0) (p : Parts X) : Type 0 where
  pub before : AllByRecursion P (all_items p.before)
  pub ended : AllByRecursion P (flat_map (λ c. c) p.ended)
  pub last : AllByRecursion P p.last
