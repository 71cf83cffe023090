use Rattle.std.proofs.Common.{rules, ◌<◌, ◌^◌, arith}
use Rattle.literal_order.proofs.Shifts.{all_lost}
use Rattle.literal_order.proofs.wide.half_shifted.Goals as goal

pub returns-else-places-lt128 : goal.returns-else-places-lt128
returns-else-places-lt128 c = let f : c.args.half < 2 ^ 128 = search rules in
    all_lost c.args.half c.args.places f (omega arith)
