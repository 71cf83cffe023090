use Rattle.std.proofs.Common.{arith}
use Rattle.std.proofs.lemmas.Int.{ints}
use Rattle.fx_model.proofs.Powers.{scaled_down, scaled_down_out}
use Rattle.dyadic.proofs.number.Dyadic.is_up_to_zero.Goals as goal

pub returns : goal.returns
returns c = (
  λ t. scaled_down c.args.self.mantissa c.args.self.exponent
      (omega (arith, ints, c.mantissa.ensures.value)),
  λ h. let k = scaled_down_out c.args.self.mantissa c.args.self.exponent h in
      let v = c.mantissa.ensures.value in grind (arith, ints),
)
