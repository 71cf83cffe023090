-- What an `End` stands for.
use Rattle.std.specs.Prelude.{Option, Some, None}
use Rattle.fx_model.specs.Grid as grid
use Rattle.fx_model.specs.Grid.{Bound}
use Rattle.dyadic.specs.declared.number.Dyadic.{Dyadic}
use Rattle.dyadic.specs.declared.number.End.{End}
use Rattle.dyadic.specs.declared.number.End.TheVariants.{Low, At, High}
use Rattle.dyadic.specs.Values.{value_of}

-- the end as a bound of fractions: a value, or beyond all on one side
abbrev pub bound_of : End → Bound
bound_of Low = grid.Below
bound_of (At d) = grid.At (value_of d)
bound_of High = grid.Above

-- a rounding up, where none is too large for the grid
abbrev pub upper : Option Dyadic → Bound
upper None = grid.Above
upper (Some d) = grid.At (value_of d)
