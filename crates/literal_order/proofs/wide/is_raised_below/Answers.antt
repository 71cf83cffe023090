use Rattle.literal_order.specs.Sizes.{size_of}
use Rattle.literal_order.proofs.Shifts.{raised_below}
use Rattle.literal_order.proofs.wide.is_raised_below.Goals as goal

pub returns-then-is_some : goal.returns-then-is_some
returns-then-is_some c =
    raised_below c.is_less.result (size_of c.args.a) (size_of c.args.b) (size_of c.one_less.result)
    c.args.places (size_of c.shifted.result) c.one_less.ensures c.shifted.ensures c.is_less.ensures
