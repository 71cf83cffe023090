use Rattle.std.proofs.Common.{sym, subst}
use Rattle.fx_model.specs.Fraction.{zero_ℚ, ◌<ℚ◌}
use Rattle.fx_model.specs.Enclosure.{Quotients, IsEnclosure, mirror}
use Rattle.interval.specs.Spans.{span_of}
use Rattle.interval.proofs.Divisors.{turned_above, quotients_turned}
use Rattle.interval.proofs.quotients.rising.Goals as goal

pub returns-then-not_positive-clause-above : goal.returns-then-not_positive-clause-above
returns-then-not_positive-clause-above c =
    subst (λ y. zero_ℚ <ℚ y) (sym c.neg-then-not_positive.ensures.low)
    (turned_above _ _ (c.not_positive.ensures.0 c.if-not_positive.true) c.requires)

pub returns-then-not_positive-clause-same : goal.returns-then-not_positive-clause-same
returns-then-not_positive-clause-same c =
    λ r k. quotients_turned (span_of c.args.x.now) (span_of c.args.y.now) r c.requires
    (subst (λ s. IsEnclosure (Quotients s (mirror (span_of c.args.y.now))) r) c.neg.ensures.range
    (subst (λ s. IsEnclosure (Quotients (span_of c.neg.result) s) r)
    c.neg-then-not_positive.ensures.range k))
