use Rattle.std.proofs.Common.{rules, ◌<◌, ◌-◌, ◌^◌, arith}
use Rattle.literal_order.proofs.Shifts.{moved_fits, shifted_size}
use Rattle.literal_order.proofs.wide.shifted_few.Goals as goal

pub overflow_mul-result : goal.overflow_mul-result
overflow_mul-result c =
    let f : c.args.number.low < 2 ^ 128 = search rules in
    let m = moved_fits c.args.number.high c.args.number.low c.args.places
    (128 - c.args.places) f (omega arith) in
    rw (c.power_of_two-lost.ensures, c.power_of_two-moved.ensures) (omega arith)

pub overflow_add-result : goal.overflow_add-result
overflow_add-result c =
    let f : c.args.number.low < 2 ^ 128 = search rules in
    let m = moved_fits c.args.number.high c.args.number.low c.args.places
    (128 - c.args.places) f (omega arith) in
    rw (c.power_of_two-lost.ensures, c.power_of_two-moved.ensures) (omega arith)

pub returns : goal.returns
returns c = rw (
  c.power_of_two-lost.ensures,
  c.power_of_two-moved.ensures,
) (shifted_size c.args.number.high c.args.number.low c.args.places
    (128 - c.args.places) (omega arith))
