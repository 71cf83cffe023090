-- What of an interval is a size.
use Rattle.fx_model.specs.Fraction.{Fraction, ◌≤ℚ◌, zero_ℚ}
use Rattle.fx_model.specs.Enclosure.{Lies}
use Rattle.interval.specs.declared.interval.Interval.{Interval}
use Rattle.interval.specs.Intervals.{range_of}

-- x lies in the interval, and is at least 0.
abbrev pub LiesFromZero : Interval → Fraction → Type 0
LiesFromZero i x = Lies (range_of i) x × zero_ℚ ≤ℚ x
