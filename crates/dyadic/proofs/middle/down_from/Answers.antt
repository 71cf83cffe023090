use Rattle.dyadic.specs.Values.{value_of}
use Rattle.dyadic.proofs.Values.{on_grid}
use Rattle.dyadic.proofs.middle.down_from.Goals as goal

pub returns-in-Low : goal.returns-in-Low
returns-in-Low c =
    λ x h l. absurd (c.in-Low.ensures x h (value_of c.args.low) (on_grid c.args.low) l)

pub returns-in-High : goal.returns-in-High
returns-in-High c = λ x h l. absurd (c.in-High.ensures x h)
