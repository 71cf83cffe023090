-- The code's formula and split ranges as those that definitions speak of.
use Rattle.std.specs.Prelude.{◌≡◌, ℕ, ◌≤◌, List, [], slice_get, Option, Some, None}
use Rattle.std.specs.List.{AllByRecursion, list_any}
use Rattle.std.specs.Option.{option_map}
use Rattle.dyadic.specs.Values.{value_of}
use Rattle.script_cases.specs.Cases.{case_count}
use Rattle.script_claims.specs.declared.claim.Claim.{Claim}
use Rattle.script_claims.specs.declared.range.SplitRange.{SplitRange}
use Rattle.script_judge.specs.declared.formula.Formula.{Formula}
use Rattle.script_judge.specs.declared.splits.CaseRanges.{CaseRanges}
use Rattle.script_judge.specs.declared.splits.Splits.{Splits}
use Rattle.script_judge.specs.Said.{Said}
use Rattle.script_judge.specs.Front.{said_of}
use Rattle.script_judge.specs.Splits.{SplitsSeen, case_ranges, is_none}

-- What the code's formula says.
abbrev pub said_by : Formula → Said
said_by f = said_of f.nodes f.sides

-- What it says, where there is one.
abbrev pub said_if : Option Formula → Option Said
said_if o = option_map said_by o

-- what was kept of a variable
abbrev pub kept_cases : Option CaseRanges → List (Option SplitRange)
kept_cases None = []
kept_cases (Some r) = r.cases.items

-- What the code holds of splits before a token, as definitions speak of it.
abbrev pub splits_seen : Splits → SplitsSeen
splits_seen x = record {
  cut = kept_cases (slice_get x.ranges.items x.cut);
  before = option_map value_of x.before;
}

-- The ranges are the variable's in the cases of these parts.
pub record AreRangesOf (parts : List (List (List Claim))) (r : CaseRanges) : Type 0 where
  pub cases : r.cases.items ≡ case_ranges parts r.var
  pub lacks : r.lacks ≡ list_any is_none r.cases.items

-- What was kept of variables is of this formula. Before its end nothing is.
abbrev pub AreKept : Option Said → List CaseRanges → Type 0
AreKept None rs = rs ≡ []
AreKept (Some f) rs = AllByRecursion (AreRangesOf f.parts) rs

-- The formula has few cases, where there is one.
abbrev pub HasFewCases : Option Said → Type 0
HasFewCases None = Unit {0}
HasFewCases (Some f) = case_count f.parts ≤ 64
