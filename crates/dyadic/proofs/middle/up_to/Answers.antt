use Rattle.dyadic.specs.Values.{value_of}
use Rattle.dyadic.proofs.Values.{on_grid}
use Rattle.dyadic.proofs.middle.up_to.Goals as goal

pub returns-in-Low : goal.returns-in-Low
returns-in-Low c = λ x h l. absurd (c.in-Low.ensures x h)

pub returns-in-High : goal.returns-in-High
returns-in-High c =
    λ x h l. absurd (c.in-High.ensures x h (value_of c.args.high) (on_grid c.args.high) l)
