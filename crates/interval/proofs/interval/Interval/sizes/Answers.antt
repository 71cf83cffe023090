use Rattle.fx_model.specs.Enclosure.{Sizes}
use Rattle.dyadic.proofs.Made.{grid_bound}
use Rattle.interval.specs.Ends.{range_from}
use Rattle.interval.specs.Exact.{IsExact}
use Rattle.interval.specs.Intervals.{range_of}
use Rattle.interval.proofs.Pairs.{one_bound}
use Rattle.interval.proofs.Enclosures.{exact_enclosure}
use Rattle.interval.proofs.Sizes.{sizes_up, sizes_down, sizes_between, sizes_ordered}
use Rattle.interval.proofs.interval.Interval.sizes.Goals as goal

pub returns-then-from_zero-clause-exact : goal.returns-then-from_zero-clause-exact
returns-then-from_zero-clause-exact c =
    sizes_up (range_of c.args.self) (c.from_zero.ensures.0 c.if-from_zero.true)

pub returns-then-from_zero-clause-best : goal.returns-then-from_zero-clause-best
returns-then-from_zero-clause-best c =
    exact_enclosure (Sizes (range_of c.args.self)) (range_of c.args.self)
    (sizes_up (range_of c.args.self) (c.from_zero.ensures.0 c.if-from_zero.true))
    c.args.self.ordered (grid_bound c.args.self.lo) (grid_bound c.args.self.hi)

pub returns-then-up_to_zero-clause-exact : goal.returns-then-up_to_zero-clause-exact
returns-then-up_to_zero-clause-exact c = sizes_down (range_of c.args.self) (range_of c.neg.result)
    (c.up_to_zero.ensures.0 c.if-up_to_zero.true) c.neg.ensures.exact

pub returns-then-up_to_zero-clause-best : goal.returns-then-up_to_zero-clause-best
returns-then-up_to_zero-clause-best c = exact_enclosure (Sizes (range_of c.args.self))
    (range_of c.neg.result) (sizes_down (range_of c.args.self) (range_of c.neg.result)
    (c.up_to_zero.ensures.0 c.if-up_to_zero.true) c.neg.ensures.exact) c.neg.result.ordered
    (grid_bound c.neg.result.lo) (grid_bound c.neg.result.hi)

pub invariant_of-result : goal.invariant_of-result
invariant_of-result c = record {
  ordered = sizes_ordered (range_of c.args.self)
      (range_from c.zero.result c.greater.result) c.args.self.ordered
      (sizes_between (range_of c.args.self)
      (range_from c.zero.result c.greater.result) _ _ _ c.from_zero.ensures.1 c.if-from_zero.false
      c.up_to_zero.ensures.1 c.if-up_to_zero.false c.zero.ensures c.opposite.ensures
      c.greater.ensures.first c.greater.ensures.second (one_bound _ _ _ c.greater.ensures.one));
}

pub returns-clause-exact : goal.returns-clause-exact
returns-clause-exact c = sizes_between (range_of c.args.self)
    (range_from c.zero.result c.greater.result) _ _ _ c.from_zero.ensures.1 c.if-from_zero.false
    c.up_to_zero.ensures.1 c.if-up_to_zero.false c.zero.ensures c.opposite.ensures
    c.greater.ensures.first c.greater.ensures.second (one_bound _ _ _ c.greater.ensures.one)

pub returns-clause-best : goal.returns-clause-best
returns-clause-best c = let e : IsExact (Sizes (range_of c.args.self))
    (range_from c.zero.result c.greater.result) = sizes_between (range_of c.args.self)
    (range_from c.zero.result c.greater.result) _ _ _ c.from_zero.ensures.1 c.if-from_zero.false
    c.up_to_zero.ensures.1 c.if-up_to_zero.false c.zero.ensures c.opposite.ensures
    c.greater.ensures.first c.greater.ensures.second (one_bound _ _ _ c.greater.ensures.one) in
    exact_enclosure (Sizes (range_of c.args.self)) (range_from c.zero.result c.greater.result) e
    (sizes_ordered (range_of c.args.self) (range_from c.zero.result c.greater.result)
    c.args.self.ordered e) (grid_bound c.zero.result) (grid_bound c.greater.result)
