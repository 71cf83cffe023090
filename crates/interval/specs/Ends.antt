-- The ends of an interval.
use Rattle.std.specs.Prelude.{◌≡◌, Option, Some, None}
use Rattle.fx_model.specs.Fraction.{Fraction}
use Rattle.fx_model.specs.Grid.{Bound, At}
use Rattle.fx_model.specs.Enclosure.{Range, IsOrdered, IsOrdered-prop}
use Rattle.dyadic.specs.declared.number.Dyadic.{Dyadic}
use Rattle.dyadic.specs.declared.number.End.{End}
use Rattle.dyadic.specs.Values.{value_of}
use Rattle.dyadic.specs.Ends.{bound_of}

-- the fractions from one end to the other
abbrev pub range_from : End → End → Range
range_from lo hi = record { low = bound_of lo; high = bound_of hi }

-- The lower end isn't plus infinity, the upper isn't minus infinity, and they are in order.
abbrev pub AreEnds : End → End → Type 0
AreEnds lo hi = IsOrdered (bound_of lo) (bound_of hi)

pub AreEnds-prop : (lo hi : End) → IsProp (AreEnds lo hi)
AreEnds-prop lo hi = IsOrdered-prop (bound_of lo) (bound_of hi)

-- The number at a finite end; none where it is infinite.
abbrev pub IsNumberOf : Bound → Option Dyadic → Type 0
IsNumberOf b (Some d) = b ≡ At (value_of d)
IsNumberOf b None = (g : Fraction) → ¬ (b ≡ At g)
