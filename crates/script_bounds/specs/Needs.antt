-- Constraints on one side.
use Rattle.std.specs.Prelude.{◌&&◌, Bool}
use Rattle.fx_model.specs.Grid.{le_bound}
use Rattle.dyadic.specs.declared.number.End.{End}
use Rattle.dyadic.specs.Ends.{bound_of}
use Rattle.interval.specs.declared.interval.Interval.{Interval}
use Rattle.interval.specs.Results.{point_of}
use Rattle.literal_order.specs.declared.written.Written.{Written}
use Rattle.literal_order.specs.Values.{written_value}

-- both ends are the same number
abbrev pub is_point : Interval → Bool
is_point i = le_bound (bound_of i.hi) (bound_of i.lo)

-- At most this end, and below it where the flag is true. It is true where the bound is strict and a
-- number of the grid.
abbrev pub below_of : Written → Bool → End × Bool
below_of w strict =
    ((point_of (written_value w)).lo, strict && is_point (point_of (written_value w)))

-- At least this end, and above it where the flag is true: where the bound is strict and a number of
-- the grid.
abbrev pub above_of : Written → Bool → End × Bool
above_of w strict =
    ((point_of (written_value w)).hi, strict && is_point (point_of (written_value w)))
