-- What lies in intervals, and intervals within intervals by what lies in them.
use Rattle.std.specs.Prelude.{◌&&◌, Bool}
use Rattle.fx_model.specs.Fraction.{one_ℚ}
use Rattle.fx_model.specs.Grid.{At, le_bound}
use Rattle.fx_model.specs.Enclosure.{Range}

-- ---- tests for a number
-- whether 1 lies in the interval
abbrev pub has_one : Range → Bool
has_one r = le_bound r.low (At one_ℚ) && le_bound (At one_ℚ) r.high
