-- The interval that holds a range of fractions, its ends rounded outward to the grid.
use Rattle.std.specs.Prelude.{◌≡◌, Option}
use Rattle.fx_model.specs.Grid.{Bound, Below, At, Above, IsDown, IsUp}
use Rattle.fx_model.specs.Enclosure.{Range}
use Rattle.grid_words.specs.Nearest.{down, up, down_is, up_is}
use Rattle.grid_words.specs.Outward.{down_end, up_end}
use Rattle.dyadic.specs.declared.number.End.{End}
use Rattle.dyadic.specs.Ends.{bound_of}
use Rattle.dyadic.specs.Made.{IsGridBound, end_of, end_of-bound}
use Rattle.interval.specs.declared.interval.Interval.{Interval}
use Rattle.interval.specs.Meets.{interval_from}

-- rounded down or up, an end is one of the grid
down_of_grid : (b : Bound) → IsGridBound (down_end b)
down_of_grid Below = tt
down_of_grid (At x) = by (down x) (down_is x)
  where
    by : (b : Bound) → IsDown x b → IsGridBound b
    by Below d = tt
    by (At g) d = d.0
    by Above d = absurd d
down_of_grid Above = tt

up_of_grid : (b : Bound) → IsGridBound (up_end b)
up_of_grid Below = tt
up_of_grid (At x) = by (up x) (up_is x)
  where
    by : (b : Bound) → IsUp x b → IsGridBound b
    by Below d = absurd d
    by (At g) d = d.0
    by Above d = tt
up_of_grid Above = tt

-- an end rounded down to the grid
pub low_end : Bound → End
low_end b = end_of (down_end b) (down_of_grid b)

-- an end rounded up to the grid
pub high_end : Bound → End
high_end b = end_of (up_end b) (up_of_grid b)

-- the interval of a range, its ends rounded outward; none where they make no interval
abbrev pub outward_of : Range → Option Interval
outward_of r = interval_from (low_end r.low) (high_end r.high)

-- ---- the ends
pub low_end-bound : (b : Bound) → bound_of (low_end b) ≡ down_end b
unfolding low_end
low_end-bound b = end_of-bound (down_end b) (down_of_grid b)

pub high_end-bound : (b : Bound) → bound_of (high_end b) ≡ up_end b
unfolding high_end
high_end-bound b = end_of-bound (up_end b) (up_of_grid b)
