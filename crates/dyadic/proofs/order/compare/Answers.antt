use Rattle.std.proofs.Common.{arith, ap, ◌∙◌, sym}
use Rattle.std.proofs.lemmas.Int.{ints}
use Rattle.std.specs.Ordering.{ordering_reverse}
use Rattle.dyadic.specs.Order.{value_cmp_total}
use Rattle.dyadic.proofs.OrderLemmas.{compared}
use Rattle.dyadic.proofs.order.compare.Goals as goal

pub returns-then-exponent : goal.returns-then-exponent
returns-then-exponent c = compared c.args.a c.args.b _ _ c.places_above.result _
    (omega (arith, ints, c.mantissa.ensures.value))
    (omega (arith, ints, c.mantissa-then-exponent.ensures.value))
    (omega (
      arith,
      ints,
      c.places_above.ensures,
      c.exponent-then-exponent.ensures.value,
      c.exponent-then-exponent-2.ensures.value,
    )) c.compare_at.ensures

pub returns-else-exponent : goal.returns-else-exponent
returns-else-exponent c = c.reverse.ensures ∙ ap ordering_reverse
    (compared c.args.b c.args.a _ _ c.places_above-else-exponent.result _
    (omega (arith, ints, c.mantissa-else-exponent.ensures.value))
    (omega (arith, ints, c.mantissa-else-exponent-2.ensures.value))
    (omega (
      arith,
      ints,
      c.places_above-else-exponent.ensures,
      c.exponent-else-exponent.ensures.value,
      c.exponent-else-exponent-2.ensures.value,
    )) c.compare_at-else-exponent.ensures)
    ∙ sym (value_cmp_total.antisymm c.args.a c.args.b)
