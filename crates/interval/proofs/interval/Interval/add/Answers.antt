use Rattle.interval.proofs.Results.{sum_only}
use Rattle.interval.proofs.Sums.{ends_sum, sum_ordered}
use Rattle.interval.specs.Ends.{range_from}
use Rattle.interval.specs.Intervals.{range_of}
use Rattle.interval.proofs.interval.Interval.add.Goals as goal

pub invariant_of-result : goal.invariant_of-result
invariant_of-result c = let t = range_from c.low_sum.result c.high_sum.result in
    record {
      ordered = sum_ordered (range_of c.args.self)
          (range_of c.args.other) t c.args.self.ordered c.args.other.ordered (ends_sum _ _ t
          c.args.self.ordered c.args.other.ordered c.low_sum.ensures c.high_sum.ensures);
    }

pub returns-clause-best : goal.returns-clause-best
returns-clause-best c =
    ends_sum _ _ _ c.args.self.ordered c.args.other.ordered c.low_sum.ensures c.high_sum.ensures

pub returns-clause-is : goal.returns-clause-is
returns-clause-is c = sum_only c.args.self c.args.other _
    (ends_sum _ _ _ c.args.self.ordered c.args.other.ordered c.low_sum.ensures c.high_sum.ensures)
