use Rattle.fx_model.specs.Grid.{signed}
use Rattle.dyadic.specs.Values.{value_of}
use Rattle.dyadic.proofs.NumberLemmas.{up_signed, up_plain, up_high}
use Rattle.dyadic.proofs.rounding.round_up.Goals as goal

pub returns-then-negative : goal.returns-then-negative
returns-then-negative c =
    λ x h. up_signed c.args.negative x (value_of c.toward_zero.result) (value_of c.neg.result)
    c.if-negative.true (c.toward_zero.ensures (signed c.args.negative x) h) c.neg.ensures

pub returns-in-Some : goal.returns-in-Some
returns-in-Some c = λ x h. up_plain c.args.negative x (value_of c.in-Some.size) c.if-negative.false
    (c.in-Some.ensures (signed c.args.negative x) h)

pub returns-in-None : goal.returns-in-None
returns-in-None c = λ x h.
    up_high c.args.negative x c.if-negative.false (c.in-None.ensures (signed c.args.negative x) h)
