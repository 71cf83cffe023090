use Rattle.interval.proofs.Results.{product_only}
use Rattle.interval.proofs.interval.Interval.mul.Goals as goal

pub returns-clause-is : goal.returns-clause-is
returns-clause-is c = product_only c.args.self c.args.other c.product.result c.product.ensures
