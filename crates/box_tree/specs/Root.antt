-- What cuts claims and hints ask for.
use Rattle.std.specs.Prelude.{◌≡◌, ℕ, List, [], ◌∷◌, slice_get, Option, Some, None}
use Rattle.fx_model.specs.declared.ExprId.{ExprId}
use Rattle.interval.specs.declared.interval.Interval.{Interval}
use Rattle.facts.specs.declared.fact.Fact.TheVariants as fact
use Rattle.script_claims.specs.declared.claim.Claim.{Claim}
use Rattle.script_claims.specs.declared.range.SplitRange.{SplitRange}
use Rattle.script_claims.specs.Facts.{hypothesis_fact}
use Rattle.script_claims.specs.Ranges.{split_range}
use Rattle.script_hints.specs.declared.hint.HintList.{HintList}
use Rattle.box_tree.specs.Regions.{PlanParts}

-- The ranges with this one first, where it is there.
abbrev pub with_range : Option SplitRange → List SplitRange → List SplitRange
with_range None later = later
with_range (Some r) later = r ∷ later

-- the ranges of the variables that have one
abbrev pub split_ranges : List Claim → List ExprId → List SplitRange
split_ranges claims [] = []
split_ranges claims (x ∷ xs) = with_range (split_range claims x) (split_ranges claims xs)

-- What the hints ask for, over the ranges that the claims give; the claims are the hypotheses, or
-- one case of them.
abbrev pub plan_by : List Claim → HintList → ℕ → PlanParts
plan_by claims hints depth = record {
  ranges = split_ranges claims hints.order;
  cuts = hints.cuts;
  halves = hints.halves;
  depth = depth;
}

-- one of the claims, as a hypothesis, bounds the expression
abbrev pub IsBounded : List Claim → ExprId → Type 0
IsBounded claims x = (k : ℕ) × (c : Claim) × (slice_get claims k ≡ Some c) × (i : Interval)
    × (hypothesis_fact c ≡ Some (fact.Bnd x i))
