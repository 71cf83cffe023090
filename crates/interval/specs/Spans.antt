-- Intervals with two finite ends.
use Rattle.std.specs.Prelude.{◌≡◌, Option, Some, None}
use Rattle.fx_model.specs.Grid as grid
use Rattle.fx_model.specs.Enclosure.{Range, IsFinite}
use Rattle.dyadic.specs.Values.{value_of}
use Rattle.interval.specs.declared.interval.Interval.{Interval}
use Rattle.interval.specs.declared.span.Span.{Span}
use Rattle.interval.specs.Intervals.{range_of}

-- the fractions of a span
abbrev pub span_of : Span → Range
span_of s = record { low = grid.At (value_of s.low); high = grid.At (value_of s.high) }

-- The ends of an interval as a span; none where one is infinite.
abbrev pub IsSpan : Interval → Option Span → Type 0
IsSpan i None = ¬ (IsFinite (range_of i))
IsSpan i (Some s) = range_of i ≡ span_of s
