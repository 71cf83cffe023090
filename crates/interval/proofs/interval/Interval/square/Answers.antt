use Rattle.interval.specs.Ends.{range_from}
use Rattle.interval.specs.Intervals.{range_of}
use Rattle.interval.proofs.Sizes.{square_is, square_ordered}
use Rattle.interval.proofs.interval.Interval.square.Goals as goal

pub invariant_of-result : goal.invariant_of-result
invariant_of-result c = let t = range_from c.low_square.result c.high_square.result in
    record {
      ordered = square_ordered (range_of c.args.self)
          (range_of c.abs-size.result) t c.abs-size.result.ordered c.abs-size.ensures.exact
          (square_is (range_of c.args.self) (range_of c.abs-size.result) t c.abs-size.result.ordered
          c.abs-size.ensures.exact c.low_square.ensures c.high_square.ensures);
    }

pub returns : goal.returns
returns c = square_is (range_of c.args.self) (range_of c.abs-size.result) _
    c.abs-size.result.ordered c.abs-size.ensures.exact c.low_square.ensures c.high_square.ensures
