use Rattle.interval.specs.Intervals.{range_of}
use Rattle.interval.proofs.interval.Interval.quotient.Goals as goal

pub rising_quotient-requires : goal.rising_quotient-requires
rising_quotient-requires c = c.rising.ensures.above

pub returns : goal.returns
returns c = c.rising.ensures.same (range_of c.rising_quotient.result) c.rising_quotient.ensures
