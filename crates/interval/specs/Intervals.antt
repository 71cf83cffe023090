-- What an interval stands for. There is one interval with given ends.
use Rattle.fx_model.specs.Enclosure.{Range}
use Rattle.interval.specs.declared.interval.Interval.{Interval}
use Rattle.interval.specs.Ends.{range_from}

-- the fractions of an interval
abbrev pub range_of : Interval → Range
range_of i = range_from i.lo i.hi
