use Rattle.std.proofs.Common.{arith}
use Rattle.std.proofs.lemmas.Int.{ints}
use Rattle.fx_model.proofs.Powers.{scaled_up, scaled_up_out}
use Rattle.dyadic.proofs.number.Dyadic.is_from_zero.Goals as goal

pub returns : goal.returns
returns c = (
  λ t. scaled_up c.args.self.mantissa c.args.self.exponent
      (omega (arith, ints, c.mantissa.ensures.value)),
  λ h. let k = scaled_up_out c.args.self.mantissa c.args.self.exponent h in
      let v = c.mantissa.ensures.value in grind (arith, ints),
)
