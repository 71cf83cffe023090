use Rattle.std.proofs.Common.{arith, ◌∙◌}
use Rattle.std.proofs.lemmas.Int.{ints}
use Rattle.dyadic.proofs.QuotientLemmas.{divisor_positive, quotient_cut}
use Rattle.dyadic.proofs.products.quotient.Goals as goal

pub divided-requires-clause-not_zero : goal.divided-requires-clause-not_zero
divided-requires-clause-not_zero c =
    divisor_positive c.args.b c.size_of-2.result c.size_of-2.ensures.value c.requires

pub returns-clause-cuts : goal.returns-clause-cuts
returns-clause-cuts c = c.divided.ensures.cuts _
    (quotient_cut c.args.a c.args.b c.is_negative.result c.is_negative-2.result c.size_of-2.result
    c.exact.result.digits c.exact.result.two c.exact.result.inexact c.is_negative.ensures
    c.is_negative-2.ensures c.size_of-2.ensures.value
    (c.exact.ensures.digits ∙ c.size_of.ensures.value)
    (omega (arith, ints, c.exact.ensures.two, c.exponent.ensures.value, c.exponent-2.ensures.value))
    c.exact.ensures.exact c.requires)
