use Rattle.std.proofs.Common.{arith}
use Rattle.std.proofs.lemmas.Int.{ints}
use Rattle.dyadic.proofs.FloorLemmas.{room_64}
use Rattle.dyadic.proofs.floor.room_above.Goals as goal

pub overflow_sub-result : goal.overflow_sub-result
overflow_sub-result c = (room_64 c.args.mantissa c.unsigned_abs.result
    (omega (arith, ints, c.unsigned_abs.ensures.value)) c.requires.some c.requires.small).0

pub returns-clause-long : goal.returns-clause-long
returns-clause-long c = (room_64 c.args.mantissa c.unsigned_abs.result
    (omega (arith, ints, c.unsigned_abs.ensures.value)) c.requires.some c.requires.small).1

pub returns-clause-small : goal.returns-clause-small
returns-clause-small c = (room_64 c.args.mantissa c.unsigned_abs.result
    (omega (arith, ints, c.unsigned_abs.ensures.value)) c.requires.some c.requires.small).2
