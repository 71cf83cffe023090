-- Laws of what specs/Made defines.
use Rattle.dyadic.specs.declared.number.End.{End}
use Rattle.dyadic.specs.declared.number.End.TheVariants.{Low, At, High}
use Rattle.dyadic.proofs.Values.{on_grid}
use Rattle.dyadic.specs.Ends.{bound_of}
use Rattle.dyadic.specs.Made.{IsGridBound}

-- ---- a bound of the grid
-- each end is of the grid
pub grid_bound : (e : End) → IsGridBound (bound_of e)
grid_bound Low = tt
grid_bound (At d) = on_grid d
grid_bound High = tt
