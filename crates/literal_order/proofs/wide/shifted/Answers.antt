use Rattle.std.proofs.Common.{rules, ◌<◌, ◌+◌, ◌*◌, ◌^◌, ◌∙◌, ap, arith}
use Rattle.literal_order.proofs.Shifts.{half_size}
use Rattle.literal_order.proofs.wide.shifted.Goals as goal

pub returns-else-places-lt128 : goal.returns-else-places-lt128
returns-else-places-lt128 c =
    let f : c.args.number.low < 2 ^ 128 = search rules in
    ap (λ n. 0 * 2 ^ 128 + n) c.half_shifted.ensures
    ∙ half_size c.args.number.high c.args.number.low c.args.places f (omega arith)
