use mir.Syntax.{w128}
use mir.Val.{to_z, of_z}
use Rattle.std.proofs.Common.{arith}
use Rattle.std.proofs.lemmas.Int.{ints}
use Rattle.dyadic.proofs.SumLemmas.{near_sum_is}
use Rattle.dyadic.proofs.sums.near_term.Goals as goal

pub returns-clause-value : goal.returns-clause-value
returns-clause-value c = near_sum_is c.args.a.mantissa
    (to_z w128 (of_z w128 c.args.a.mantissa)) c.args.a.exponent c.args.b.mantissa c.args.b.exponent
    c.shifted.result _ _ c.args.gap c.requires.places c.shifted.ensures.value
    (omega (arith, ints)) (omega (arith, ints)) (omega (arith, ints))
