use Rattle.point_values.proofs.Divisors.{divisor_nonzero, row_divisor}
use Rattle.point_values.proofs.entries.row_value.Goals as goal

pub quotient-requires : goal.quotient-requires
quotient-requires c = divisor_nonzero c.in-Some-of_literal.bottom c.in-Some-divisor.divisor
    c.in-Some-of_literal.ensures.1 (row_divisor c.args.row c.in-Some-divisor.divisor
    c.in-Some-divisor.is c.requires)
