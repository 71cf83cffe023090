use Rattle.exact_fractions.specs.Divisors.{gcd_positive}
use Rattle.exact_fractions.proofs.operations.shared.Goals as goal

pub returns-clause-positive : goal.returns-clause-positive
returns-clause-positive c =
    rw (c.greatest_divisor.ensures, c.den-2.ensures)
    (gcd_positive c.den.result c.args.y.den c.args.y.small.lowest.positive)
