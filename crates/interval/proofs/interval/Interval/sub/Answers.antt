use Rattle.dyadic.specs.Ends.{bound_of}
use Rattle.interval.proofs.Results.{difference_only}
use Rattle.interval.specs.Ends.{range_from}
use Rattle.interval.specs.Intervals.{range_of}
use Rattle.interval.proofs.Sums.{ends_difference, difference_ordered}
use Rattle.interval.proofs.interval.Interval.sub.Goals as goal

pub returns-clause-best : goal.returns-clause-best
returns-clause-best c =
    ends_difference (range_of c.args.self) (range_of c.args.other) _ (bound_of c.opposite.result)
    (bound_of c.opposite-2.result) c.args.self.ordered c.args.other.ordered c.opposite.ensures
    c.opposite-2.ensures c.low_sum.ensures c.high_sum.ensures

pub returns-clause-is : goal.returns-clause-is
returns-clause-is c = difference_only c.args.self c.args.other _
    (ends_difference (range_of c.args.self) (range_of c.args.other) _ (bound_of c.opposite.result)
    (bound_of c.opposite-2.result) c.args.self.ordered c.args.other.ordered c.opposite.ensures
    c.opposite-2.ensures c.low_sum.ensures c.high_sum.ensures)

pub invariant_of-result : goal.invariant_of-result
invariant_of-result c = let t = range_from c.low_sum.result c.high_sum.result in
    record {
      ordered = difference_ordered (range_of c.args.self)
          (range_of c.args.other) t c.args.self.ordered c.args.other.ordered
          (ends_difference (range_of c.args.self)
          (range_of c.args.other) t (bound_of c.opposite.result)
          (bound_of c.opposite-2.result) c.args.self.ordered c.args.other.ordered c.opposite.ensures
          c.opposite-2.ensures c.low_sum.ensures c.high_sum.ensures);
    }
