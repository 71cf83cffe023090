use Rattle.fx_model.specs.Fraction.{neg-le}
use Rattle.dyadic.specs.Values.{value_of}
use Rattle.interval.proofs.span.Span.neg.Goals as goal

pub invariant_of-result : goal.invariant_of-result
invariant_of-result c = record {
  ordered = rw (c.neg.ensures, c.neg-2.ensures)
      (neg-le (value_of c.args.self.low) (value_of c.args.self.high) c.args.self.ordered);
}
