-- The values that are known, as the code has them, and what a call answers that finds one.
use Rattle.std.specs.Prelude.{◌≡◌, ℤ, List, map, Option, Some, None, MatchOption, true, false}
use Rattle.std.specs.Prelude.{slice_index_or}
use Rattle.fx_model.specs.Fraction.{Fraction}
use Rattle.fx_model.specs.declared.ExprId.{ExprId}
use Rattle.exact_fractions.specs.declared.exact.Exact.{Exact}
use Rattle.exact_fractions.specs.Exact.{value_of}
use Rattle.exact_fractions.specs.Wide.{are_narrow}

-- a value, or none
abbrev pub fraction_of : Option Exact → Option Fraction
fraction_of None = None
fraction_of (Some x) = Some (value_of x)

-- the values of the nodes, by their numbers
abbrev pub values_of : List (Option Exact) → ExprId → Option Fraction
values_of vs x = slice_index_or (map fraction_of vs) x.0 None

-- The answer is this value, or that there is none, where each of these numbers is below 2^127; and
-- no answer where one isn't.
abbrev pub GivesValue : List ℤ → Option Fraction → Option (Option Exact) → Type 0
GivesValue zs v r = MatchOption r (are_narrow zs ≡ false) (λ e. (are_narrow zs ≡ true)
    × (fraction_of e ≡ v))
