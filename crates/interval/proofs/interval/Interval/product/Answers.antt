use Rattle.dyadic.specs.Ends.{bound_of}
use Rattle.interval.specs.Spans.{span_of}
use Rattle.interval.proofs.Corners.{product_ordered}
use Rattle.interval.proofs.interval.Interval.product.Goals as goal

pub invariant_of-result : goal.invariant_of-result
invariant_of-result c = record {
  ordered = product_ordered (span_of c.in-Some.x) (span_of c.in-Some-span.y)
      (bound_of c.low_product.result) (bound_of c.high_product.result) c.in-Some.x.ordered
      c.in-Some-span.y.ordered c.low_product.ensures c.high_product.ensures;
}
