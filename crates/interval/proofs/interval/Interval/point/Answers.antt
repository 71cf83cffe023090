use Rattle.fx_model.specs.Fraction.{le_refl}
use Rattle.dyadic.specs.Values.{value_of}
use Rattle.interval.proofs.Results.{alone_is, point_only}
use Rattle.interval.proofs.interval.Interval.point.Goals as goal

pub invariant_of-result : goal.invariant_of-result
invariant_of-result c = record { ordered = le_refl (value_of c.args.number) }

pub returns-clause-best : goal.returns-clause-best
returns-clause-best c = alone_is c.args.number

pub returns-clause-is : goal.returns-clause-is
returns-clause-is c = point_only (value_of c.args.number) _ (alone_is c.args.number)
