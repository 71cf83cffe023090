-- Split ranges of variables, and points that split them.
use Rattle.std.specs.Prelude.{◌&&◌, not, List, [], map, Option, Some, None, Bool, true, false}
use Rattle.std.specs.List.{list_any}
use Rattle.fx_model.specs.Fraction.{Fraction}
use Rattle.fx_model.specs.declared.ExprId.{ExprId}
use Rattle.dyadic.specs.Values.{value_of}
use Rattle.script_shape.specs.declared.due.Due.{Due}
use Rattle.script_shape.specs.declared.due.Due.TheVariants as d
use Rattle.script_cases.specs.Cases.{cases}
use Rattle.script_bounds.specs.Tests.{is_less, down_number}
use Rattle.script_nodes.specs.Known.{number_of}
use Rattle.script_claims.specs.declared.claim.Claim.{Claim}
use Rattle.script_claims.specs.declared.range.SplitRange.{SplitRange}
use Rattle.script_claims.specs.Ranges.{split_range}
use Rattle.script_judge.specs.Names.{Name}
use Rattle.script_judge.specs.Said.{Said}

-- ---- split ranges

-- the range that the hypotheses give a node, in each case of their parts
abbrev pub case_ranges : List (List (List Claim)) → ExprId → List (Option SplitRange)
case_ranges parts x = map (λ claims. split_range claims x) (cases parts)

-- Whether a range is missing.
abbrev pub is_none : Option SplitRange → Bool
is_none None = true
is_none (Some r) = false

-- what has no node has no range
abbrev pub lacks_range : List (List (List Claim)) → Option ExprId → Bool
lacks_range parts None = true
lacks_range parts (Some x) = list_any is_none (case_ranges parts x)

-- Whether a split variable has no range in some case of the formula. Words that have none split no
-- variable.
abbrev pub is_lacking : Option Said → Option Name → Bool
is_lacking said None = false
is_lacking None (Some text) = false
is_lacking (Some f) (Some text) = lacks_range f.parts (number_of f.known text)

-- a split variable that has no definition, and in some case no range
abbrev pub is_rangeless : Option Said → Bool → Option Name → Bool
is_rangeless said defined name = not defined && is_lacking said name

-- the ranges of a node, where there is one
abbrev pub node_ranges : List (List (List Claim)) → Option ExprId → List (Option SplitRange)
node_ranges parts None = []
node_ranges parts (Some x) = case_ranges parts x

-- those of the split variable that stands before: of a new one these
abbrev pub cut_after : Option Said → Option Name → List (Option SplitRange)
    → List (Option SplitRange)
cut_after said None old = old
cut_after None (Some text) old = old
cut_after (Some f) (Some text) old = node_ranges f.parts (number_of f.known text)

-- ---- points

-- a number rounded down, where there is one
abbrev pub some_down : Option Fraction → Option Fraction
some_down None = None
some_down (Some x) = down_number x

-- the point before, rounded down
abbrev pub before_after : Option Fraction → Option Fraction → Due → Option Fraction
before_after old number d.Cut = None
before_after old number d.Bound = some_down number
before_after old number r = old

-- no point stands before, or one below
abbrev pub is_after : Option Fraction → Fraction → Bool
is_after None g = true
is_after (Some before) g = is_less before g

-- strictly inside a range
abbrev pub is_inside : Fraction → Option SplitRange → Bool
is_inside g None = false
is_inside g (Some r) = is_less (value_of r.low) g && is_less g (value_of r.high)

-- inside the range of some case, and above the point before
abbrev pub splits_at : List (Option SplitRange) → Option Fraction → Option Fraction → Bool
splits_at cut before None = false
splits_at cut before (Some g) = list_any (is_inside g) cut && is_after before g

-- a point that, rounded down, is inside the range of no case, or not above the one before
abbrev pub is_no_split : List (Option SplitRange) → Option Fraction → Option Fraction → Bool
is_no_split cut before None = false
is_no_split cut before (Some x) = not (splits_at cut before (down_number x))

-- ---- what stands before a token

-- The ranges of the split variable by cases, and the point before.
pub record SplitsSeen : Type 0 where
  pub cut : List (Option SplitRange)
  pub before : Option Fraction

-- before the first token
abbrev pub no_splits : SplitsSeen
no_splits = record { cut = []; before = None }

-- What stands behind a token, which may name a split variable.
abbrev pub splits_after : SplitsSeen → Option Said → Option Name → Option Fraction → Due
    → SplitsSeen
splits_after x said name number r =
    record { cut = cut_after said name x.cut; before = before_after x.before number r }

-- a point of a list that doesn't split
abbrev pub is_bad_point : SplitsSeen → Bool → Option Fraction → Bool
is_bad_point x in_points number = in_points && is_no_split x.cut x.before number
