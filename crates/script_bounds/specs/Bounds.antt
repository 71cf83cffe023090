-- The intervals that stand for written bounds.
use Rattle.std.specs.Prelude.{Option, Some, None}
use Rattle.fx_model.specs.Grid.{Bound, Below, At, Above}
use Rattle.fx_model.specs.Enclosure.{Range}
use Rattle.dyadic.specs.declared.number.End.{End}
use Rattle.dyadic.specs.declared.number.End.TheVariants as end
use Rattle.interval.specs.declared.interval.Interval.{Interval}
use Rattle.interval.specs.Results.{point_of}
use Rattle.interval.specs.Meets.{interval_from}
use Rattle.literal_order.specs.declared.written.Written.{Written}
use Rattle.literal_order.specs.Values.{written_value}

-- the bound below and above, open where none is written
abbrev pub low_of : Option Written → Bound
low_of None = Below
low_of (Some w) = At (written_value w)

-- The upper bound exactly as it is written, and open above where none is.
abbrev pub high_of : Option Written → Bound
high_of None = Above
high_of (Some w) = At (written_value w)

-- what lies between the bounds, exactly as they are written
abbrev pub written_range : Option Written → Option Written → Range
written_range lower upper = record { low = low_of lower; high = high_of upper }

-- the bound rounded down to the grid, and up
abbrev pub down_end : Bound → End
down_end Below = end.Low
down_end (At x) = (point_of x).lo
down_end Above = end.High

-- The bound rounded up to the grid, as an end of an interval; an open side stays infinite.
abbrev pub up_end : Bound → End
up_end Below = end.Low
up_end (At x) = (point_of x).hi
up_end Above = end.High

-- the interval with the ends rounded outward
abbrev pub outward_of : Range → Option Interval
outward_of r = interval_from (down_end r.low) (up_end r.high)

-- the interval with the ends rounded inward; none where the lower end is plus infinity, the upper
-- is minus infinity, or they cross
abbrev pub inward_of : Range → Option Interval
inward_of r = interval_from (up_end r.low) (down_end r.high)
