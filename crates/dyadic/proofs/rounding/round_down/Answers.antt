use Rattle.fx_model.specs.Grid.{signed}
use Rattle.dyadic.specs.Values.{value_of}
use Rattle.dyadic.proofs.NumberLemmas.{down_signed, down_low, down_plain}
use Rattle.dyadic.proofs.rounding.round_down.Goals as goal

pub returns-in-Some : goal.returns-in-Some
returns-in-Some c =
    λ x h. down_signed c.args.negative x (value_of c.in-Some.size) (value_of c.neg.result)
    c.if-negative.true (c.in-Some.ensures (signed c.args.negative x) h) c.neg.ensures

pub returns-in-None : goal.returns-in-None
returns-in-None c = λ x h.
    down_low c.args.negative x c.if-negative.true (c.in-None.ensures (signed c.args.negative x) h)

pub returns-else-negative : goal.returns-else-negative
returns-else-negative c = λ x h. down_plain c.args.negative x (value_of c.toward_zero.result)
    c.if-negative.false (c.toward_zero.ensures (signed c.args.negative x) h)
