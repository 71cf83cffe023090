use Rattle.fx_model.specs.Enclosure.{Negations}
use Rattle.dyadic.proofs.Made.{grid_bound}
use Rattle.interval.proofs.Results.{negation_only}
use Rattle.interval.specs.Ends.{range_from}
use Rattle.interval.specs.Intervals.{range_of}
use Rattle.interval.proofs.Enclosures.{negation_exact, negation_ordered, exact_enclosure}
use Rattle.interval.proofs.interval.Interval.neg.Goals as goal

pub invariant_of-result : goal.invariant_of-result
invariant_of-result c = record {
  ordered = negation_ordered (range_of c.args.self) (range_from c.opposite.result
      c.opposite-2.result) c.args.self.ordered c.opposite.ensures c.opposite-2.ensures;
}

pub returns-clause-exact : goal.returns-clause-exact
returns-clause-exact c = negation_exact
    (range_of c.args.self) _ c.args.self.ordered c.opposite.ensures c.opposite-2.ensures

pub returns-clause-best : goal.returns-clause-best
returns-clause-best c = let t = range_from c.opposite.result c.opposite-2.result in
    exact_enclosure (Negations (range_of c.args.self)) t (negation_exact
    (range_of c.args.self) t c.args.self.ordered c.opposite.ensures c.opposite-2.ensures)
    (negation_ordered (range_of c.args.self) t c.args.self.ordered c.opposite.ensures
    c.opposite-2.ensures) (grid_bound c.opposite.result) (grid_bound c.opposite-2.result)

pub returns-clause-is : goal.returns-clause-is
returns-clause-is c =
    negation_only c.args.self _ (let t = range_from c.opposite.result c.opposite-2.result in
    exact_enclosure (Negations (range_of c.args.self)) t (negation_exact (range_of c.args.self)
    t c.args.self.ordered c.opposite.ensures c.opposite-2.ensures) (negation_ordered
    (range_of c.args.self) t c.args.self.ordered c.opposite.ensures c.opposite-2.ensures)
    (grid_bound c.opposite.result) (grid_bound c.opposite-2.result))
