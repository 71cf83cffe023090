use Rattle.literal_order.specs.Sizes.{size_of}
use Rattle.literal_order.proofs.Shifts.{below_raised}
use Rattle.literal_order.proofs.wide.is_below_raised.Goals as goal

pub returns : goal.returns
returns c = below_raised c.is_less.result (size_of c.args.a)
    (size_of c.args.b) c.args.places (size_of c.shifted.result) c.shifted.ensures c.is_less.ensures
