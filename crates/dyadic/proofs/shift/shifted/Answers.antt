use mir.Syntax.{w128}
use mir.Val.{to_z, of_z}
use Rattle.std.proofs.Common.{arith}
use Rattle.std.proofs.lemmas.Int.{ints}
use Rattle.dyadic.proofs.ShiftLemmas.{product_fits, product_is, product_small}
use Rattle.dyadic.proofs.shift.shifted.Goals as goal

pub overflow_mul-result : goal.overflow_mul-result
overflow_mul-result c = product_fits c.args.number (to_z w128 (of_z w128 c.args.number))
    (to_z w128 (of_z w128 c.power_of_two.result)) c.args.places (omega (arith, ints))
    c.requires.small (omega (arith, ints, c.power_of_two.ensures)) c.requires.few

pub returns-clause-value : goal.returns-clause-value
returns-clause-value c = product_is c.args.number (to_z w128 (of_z w128 c.args.number))
    (to_z w128 (of_z w128 c.power_of_two.result)) c.args.places (omega (arith, ints))
    c.requires.small (omega (arith, ints, c.power_of_two.ensures)) c.requires.few

pub returns-clause-small : goal.returns-clause-small
returns-clause-small c = product_small c.args.number c.args.places _
    (product_is c.args.number (to_z w128 (of_z w128 c.args.number)) (to_z w128
    (of_z w128 c.power_of_two.result)) c.args.places (omega (arith, ints)) c.requires.small
    (omega (arith, ints, c.power_of_two.ensures)) c.requires.few) c.requires.small c.requires.few
