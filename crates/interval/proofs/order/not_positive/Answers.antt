use Rattle.std.proofs.Common.{arith}
use Rattle.std.proofs.lemmas.Int.{ints}
use Rattle.fx_model.proofs.Powers.{scaled_down, scaled_down_out}
use Rattle.interval.proofs.order.not_positive.Goals as goal

pub returns : goal.returns
returns c = (
  λ t. scaled_down c.args.a.mantissa c.args.a.exponent (omega (arith, ints)),
  λ h. let k = scaled_down_out c.args.a.mantissa c.args.a.exponent h in grind (arith, ints),
)
