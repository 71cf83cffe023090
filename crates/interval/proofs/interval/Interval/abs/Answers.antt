use Rattle.interval.proofs.Results.{size_only}
use Rattle.interval.proofs.interval.Interval.abs.Goals as goal

pub returns-clause-is : goal.returns-clause-is
returns-clause-is c = size_only c.args.self c.sizes.result c.sizes.ensures.best
