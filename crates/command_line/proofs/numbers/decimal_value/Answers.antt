use Rattle.std.proofs.Common.{arith, length}
use Rattle.std.proofs.lemmas.Grind.{common_steps}
use Rattle.std.proofs.lemmas.List.Sums.{fold_more}
use Rattle.command_line.proofs.Powers.{next_power, power_bound}
use Rattle.command_line.proofs.numbers.decimal_value.Goals as goal

pub overflow_mul-value : goal.overflow_mul-value
overflow_mul-value c = omega (
  arith,
  c.loop-digit.invariant.small,
  power_bound c.loop-digit.digit-index (length c.args.digits.now) c.loop-digit-test.true c.requires,
)

pub overflow_add-value : goal.overflow_add-value
overflow_add-value c = omega (
  arith,
  c.type_inv.digits c.loop-digit.digit-index,
  c.loop-digit.invariant.small,
  power_bound c.loop-digit.digit-index (length c.args.digits.now) c.loop-digit-test.true c.requires,
)

pub loop-digit-preserved : goal.loop-digit-preserved
loop-digit-preserved c = record {
  so_far = grind (arith, common_steps, fold_more);
  small = omega (
    arith,
    c.type_inv.digits c.loop-digit.digit-index,
    next_power c.loop-digit.digit-index,
    c.loop-digit.invariant.small,
  );
}
