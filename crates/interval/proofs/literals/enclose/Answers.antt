use Rattle.fx_model.specs.Grid.{signed}
use Rattle.fx_model.specs.Expression.{literal_value}
use Rattle.interval.proofs.Results.{point_only}
use Rattle.interval.proofs.literals.enclose.Goals as goal

pub returns-clause-is : goal.returns-clause-is
returns-clause-is c = point_only (signed c.args.negative (literal_value c.args.lit.now))
    c.around_literal.result c.around_literal.ensures
