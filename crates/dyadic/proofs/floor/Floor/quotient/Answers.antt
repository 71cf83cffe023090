use Rattle.std.proofs.Common.{arith, false, refl}
use Rattle.std.proofs.lemmas.Int.{ints}
use Rattle.fx_model.specs.Fraction.{◌/ℚ◌}
use Rattle.dyadic.specs.Values.{value_of}
use Rattle.dyadic.proofs.QuotientLemmas.{divisor_positive, quotient_cut}
use Rattle.dyadic.proofs.floor.Floor.quotient.Goals as goal

pub short_ratio-requires-clause-not_zero : goal.short_ratio-requires-clause-not_zero
short_ratio-requires-clause-not_zero c = divisor_positive c.args.b c.unsigned_abs-2.result
    (omega (arith, ints, c.unsigned_abs-2.ensures.value, c.mantissa-2.ensures.value)) c.requires

pub short_ratio-requires-clause-low : goal.short_ratio-requires-clause-low
short_ratio-requires-clause-low c = omega (
  arith,
  ints,
  c.exponent.ensures.low,
  c.exponent.ensures.high,
  c.exponent-2.ensures.low,
  c.exponent-2.ensures.high,
)

pub short_ratio-requires-clause-high : goal.short_ratio-requires-clause-high
short_ratio-requires-clause-high c = omega (
  arith,
  ints,
  c.exponent.ensures.low,
  c.exponent.ensures.high,
  c.exponent-2.ensures.low,
  c.exponent-2.ensures.high,
)

pub returns-clause-floor : goal.returns-clause-floor
returns-clause-floor c = c.short_ratio.ensures.floor (value_of c.args.a /ℚ value_of c.args.b)
    (quotient_cut c.args.a c.args.b c.is_negative.result
    c.is_negative-2.result c.unsigned_abs-2.result c.unsigned_abs.result _ false
    c.is_negative.ensures c.is_negative-2.ensures
    (omega (arith, ints, c.unsigned_abs-2.ensures.value, c.mantissa-2.ensures.value))
    (omega (arith, ints, c.unsigned_abs.ensures.value, c.mantissa.ensures.value))
    (omega (arith, ints, c.exponent.ensures.value, c.exponent-2.ensures.value)) refl c.requires)
