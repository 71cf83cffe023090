use Rattle.dyadic.specs.Values.{value_of}
use Rattle.dyadic.proofs.Values.{on_grid}
use Rattle.dyadic.proofs.NumberLemmas.{exact_down, sign_exact}
use Rattle.dyadic.proofs.rounding.down.Goals as goal

pub returns-in-Some : goal.returns-in-Some
returns-in-Some c = λ x h. exact_down x (value_of c.with_sign.result) (on_grid c.with_sign.result)
    (sign_exact c.args.value.negative x (value_of c.in-Some.size) (value_of c.with_sign.result)
    (c.in-Some.ensures _ h) c.with_sign.ensures)

pub returns-in-None : goal.returns-in-None
returns-in-None c = λ x h. c.round_down.ensures x (c.long.ensures.cuts _ h)
