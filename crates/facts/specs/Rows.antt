-- When the row of a hint is true of an assignment.
use Rattle.std.specs.Prelude.{◌≡◌, ⊤, Bool, true, false, List, Some}
use Rattle.std.specs.List.{AllByRecursion}
use Rattle.std.specs.Option.{IsSomeAnd}
use Rattle.fx_model.specs.Fraction.{Fraction, ◌≤ℚ◌, ◌<ℚ◌}
use Rattle.fx_model.specs.Grid.{Bound, Below, At, Above}
use Rattle.fx_model.specs.Expression.{Assignment, value}
use Rattle.fx_model.specs.declared.Node.{Node}
use Rattle.dyadic.specs.Ends.{bound_of}
use Rattle.facts.specs.declared.hint.Need.{Need}
use Rattle.facts.specs.declared.hint.Need.TheVariants as need
use Rattle.facts.specs.declared.hint.HintRow.{HintRow}
use Rattle.facts.specs.declared.fact.Fact.TheVariants as fact
use Rattle.facts.specs.Holds.{Holds}

-- x is at most the end, or below it where they are to be apart
abbrev pub IsUnder : Bound → Bool → Fraction → Type 0
IsUnder Below apart x = ⊥
IsUnder (At g) true x = x <ℚ g
IsUnder (At g) false x = x ≤ℚ g
IsUnder Above apart x = ⊤

-- x is at least the end, or above it where they are to be apart
abbrev pub IsOver : Bound → Bool → Fraction → Type 0
IsOver Below apart x = ⊤
IsOver (At g) true x = g <ℚ x
IsOver (At g) false x = g ≤ℚ x
IsOver Above apart x = ⊥

-- The expression of the constraint has a value, of which it is true.
abbrev pub IsMet : List Node → Assignment → Need → Type 0
IsMet nodes a (need.NotZero x) = Holds nodes a (fact.Nzr x)
IsMet nodes a (need.Below x end apart) = IsSomeAnd (value nodes a x) (IsUnder (bound_of end) apart)
IsMet nodes a (need.Above x end apart) = IsSomeAnd (value nodes a x) (IsOver (bound_of end) apart)

-- Each divisor has a value other than 0.
abbrev pub AreNonzero : List Node → Assignment → HintRow → Type 0
AreNonzero nodes a row = AllByRecursion (λ d. Holds nodes a (fact.Nzr d)) row.divisors

-- Each constraint holds.
abbrev pub AreMet : List Node → Assignment → HintRow → Type 0
AreMet nodes a row = AllByRecursion (IsMet nodes a) row.needs

-- Where the divisors have values other than 0, the constraints hold and the right side has a value,
-- the left side has that value.
abbrev pub RowIsTrue : List Node → Assignment → HintRow → Type 0
RowIsTrue nodes a row = AreNonzero nodes a row → AreMet nodes a row → (v : Fraction)
    → value nodes a row.right ≡ Some v → value nodes a row.left ≡ Some v
