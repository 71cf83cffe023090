use Rattle.dyadic.proofs.Made.{grid_bound}
use Rattle.interval.specs.Ends.{range_from}
use Rattle.interval.specs.Intervals.{range_of}
use Rattle.interval.proofs.Intervals.{same_ends}
use Rattle.interval.specs.Meets.{hull_of}
use Rattle.interval.proofs.Pairs.{IsKept, one_bound, hull_is, hull_ordered}
use Rattle.interval.proofs.interval.Interval.hull.Goals as goal

pub returns-clause-best : goal.returns-clause-best
returns-clause-best c = let i : IsKept (range_of c.args.self) = record {
  ordered = c.args.self.ordered;
  low = grid_bound c.args.self.lo;
  high = grid_bound c.args.self.hi;
} in
    let j : IsKept (range_of c.args.other) = record {
      ordered = c.args.other.ordered;
      low = grid_bound c.args.other.lo;
      high = grid_bound c.args.other.hi;
    } in
    hull_is (range_of c.args.self) (range_of c.args.other) _ i j
    c.lesser.ensures.first c.lesser.ensures.second c.greater.ensures.first c.greater.ensures.second
    (one_bound _ _ _ c.lesser.ensures.one) (one_bound _ _ _ c.greater.ensures.one)

pub invariant_of-result : goal.invariant_of-result
invariant_of-result c = let i : IsKept (range_of c.args.self) = record {
  ordered = c.args.self.ordered;
  low = grid_bound c.args.self.lo;
  high = grid_bound c.args.self.hi;
} in
    let j : IsKept (range_of c.args.other) = record {
      ordered = c.args.other.ordered;
      low = grid_bound c.args.other.lo;
      high = grid_bound c.args.other.hi;
    } in
    record {
      ordered = hull_ordered (range_of c.args.self) (range_of c.args.other)
          (range_from c.lesser.result c.greater.result) i j c.lesser.ensures.first
          c.lesser.ensures.second c.greater.ensures.first c.greater.ensures.second
          (one_bound _ _ _ c.lesser.ensures.one) (one_bound _ _ _ c.greater.ensures.one);
    }

pub returns-clause-is : goal.returns-clause-is
returns-clause-is c =
    same_ends _ (hull_of c.args.self c.args.other) c.lesser.ensures.is c.greater.ensures.is
