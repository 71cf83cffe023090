use borrow.Author.Tests.{eqb-true}
use mir.Val.{of_z}
use Rattle.std.proofs.Common.{arith, ap, eq-eqb, w64}
use Rattle.std.proofs.lemmas.Int.{ints}
use Rattle.dyadic.proofs.GridLemmas.{zero_in, zero_out}
use Rattle.dyadic.proofs.number.Dyadic.is_zero.Goals as goal

pub returns : goal.returns
returns c = (
  λ t. let e = eqb-true (of_z w64 c.args.self.mantissa) 0 t in
      zero_in c.args.self.mantissa c.args.self.exponent (omega (arith, ints)),
  λ h. eq-eqb (of_z w64 c.args.self.mantissa) 0
      (ap (of_z w64) (zero_out c.args.self.mantissa c.args.self.exponent h)),
)
