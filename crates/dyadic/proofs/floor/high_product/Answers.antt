use mir.Syntax.{w128}
use Rattle.std.proofs.Common.{arith, to_z, of_z, w64}
use Rattle.std.proofs.lemmas.Int.{ints}
use Rattle.dyadic.proofs.FloorLemmas.{whole_fits, high_fits, high_is}
use Rattle.dyadic.proofs.floor.high_product.Goals as goal

pub overflow_mul-result : goal.overflow_mul-result
overflow_mul-result c =
    whole_fits c.args.a c.args.b (to_z w128 (of_z w128 (to_z w64 (of_z w64 c.args.a))))
    (to_z w128 (of_z w128 (to_z w64 (of_z w64 c.args.b)))) (omega (arith, ints))
    (omega (arith, ints)) c.requires.a_small c.requires.b_small

pub overflow_cast-result-3 : goal.overflow_cast-result-3
overflow_cast-result-3 c =
    high_fits c.args.a c.args.b (to_z w128 (of_z w128 (to_z w64 (of_z w64 c.args.a))))
    (to_z w128 (of_z w128 (to_z w64 (of_z w64 c.args.b)))) (omega (arith, ints))
    (omega (arith, ints)) c.requires.a_small c.requires.b_small

pub returns : goal.returns
returns c = high_is c.args.a c.args.b (to_z w128 (of_z w128 (to_z w64 (of_z w64 c.args.a))))
    (to_z w128 (of_z w128 (to_z w64 (of_z w64 c.args.b)))) (omega (arith, ints))
    (omega (arith, ints)) c.requires.a_small c.requires.b_small
