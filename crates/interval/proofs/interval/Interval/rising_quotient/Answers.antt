use Rattle.dyadic.specs.Ends.{bound_of}
use Rattle.interval.specs.Spans.{span_of}
use Rattle.interval.proofs.Divisors.{quotients_ordered}
use Rattle.interval.proofs.interval.Interval.rising_quotient.Goals as goal

pub invariant_of-result : goal.invariant_of-result
invariant_of-result c = record {
  ordered = quotients_ordered (span_of c.args.x.now) (span_of c.args.y.now)
      (bound_of c.low_quotient.result) (bound_of c.high_quotient.result) c.args.x.now.ordered
      c.args.y.now.ordered c.low_quotient.ensures c.high_quotient.ensures;
}
