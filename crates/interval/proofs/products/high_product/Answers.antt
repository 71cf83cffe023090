use Rattle.std.proofs.Common.{subst}
use Rattle.fx_model.specs.Enclosure.{Products, IsInfimum}
use Rattle.dyadic.specs.Ends.{bound_of}
use Rattle.interval.specs.Spans.{span_of}
use Rattle.interval.proofs.Corners.{products_high}
use Rattle.interval.proofs.products.high_product.Goals as goal

pub returns : goal.returns
returns c = products_high (span_of c.args.x.now) (span_of c.args.y.now)
    (bound_of c.low_product.result) (bound_of c.opposite.result)
    (subst (λ r. IsInfimum (Products r (span_of c.args.y.now))
    (bound_of c.low_product.result)) c.neg.ensures.range c.low_product.ensures) c.opposite.ensures
