use Rattle.std.proofs.Common.{subst}
use Rattle.fx_model.specs.Enclosure.{Quotients, IsInfimum}
use Rattle.dyadic.specs.Ends.{bound_of}
use Rattle.interval.specs.Spans.{span_of}
use Rattle.interval.proofs.Divisors.{quotients_high}
use Rattle.interval.proofs.quotients.high_quotient.Goals as goal

pub returns : goal.returns
returns c = quotients_high (span_of c.args.x.now) (span_of c.args.y.now)
    (bound_of c.low_quotient.result) (bound_of c.opposite.result)
    (subst (λ r. IsInfimum (Quotients r (span_of c.args.y.now))
    (bound_of c.low_quotient.result)) c.neg.ensures.range c.low_quotient.ensures) c.opposite.ensures
