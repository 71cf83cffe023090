-- Worked rows: a range that is open on both sides, and one that has nothing in it.
use Rattle.std.specs.Prelude.{◌≡◌, Some, None}
use Rattle.fx_model.specs.Grid.{Above}
use Rattle.dyadic.specs.declared.number.End.TheVariants as end
use Rattle.interval.specs.Results.{whole_interval}
use Rattle.interval.specs.Meets.{interval_from-some, interval_from-none}
use Rattle.script_bounds.specs.Bounds.{written_range, outward_of, inward_of}

open_is_whole : outward_of (written_range None None) ≡ Some whole_interval
open_is_whole = interval_from-some end.Low end.High tt

open_stays_whole : inward_of (written_range None None) ≡ Some whole_interval
open_stays_whole = interval_from-some end.Low end.High tt

above_everything : outward_of (record { low = Above; high = Above }) ≡ None
above_everything = interval_from-none end.High end.High (λ o. o)
