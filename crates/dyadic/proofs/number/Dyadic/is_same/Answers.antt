use borrow.Author.Tests.{eqb-true}
use mir.Val.{of_z}
use Rattle.std.proofs.Common.{arith, ap, eq-eqb, w32, w64}
use Rattle.std.proofs.lemmas.Int.{ints}
use Rattle.dyadic.specs.declared.number.Dyadic.{Dyadic}
use Rattle.dyadic.proofs.Values.{same_value}
use Rattle.dyadic.proofs.GridLemmas.{same_scaled}
use Rattle.dyadic.proofs.number.Dyadic.is_same.Goals as goal

pub returns-then-self-other : goal.returns-then-self-other
returns-then-self-other c = (
  λ t. let e = eqb-true (of_z w32 c.args.self.exponent) (of_z w32 c.args.other.exponent) t in
      same_scaled c.args.other.mantissa c.args.other.exponent c.args.self.mantissa
      c.args.self.exponent (omega (arith, ints)) (omega (arith, ints)),
  λ h. eq-eqb (of_z w32 c.args.self.exponent) (of_z w32 c.args.other.exponent)
      (ap (λ (d : Dyadic). of_z w32 d.exponent) (same_value c.args.self c.args.other h)),
)

pub returns-else-self-other : goal.returns-else-self-other
returns-else-self-other c = (
  λ t. absurd (c.if-self-other.false
      (eqb-true (of_z w64 c.args.self.mantissa) (of_z w64 c.args.other.mantissa) t)),
  λ h. absurd (c.if-self-other.false
      (ap (λ (d : Dyadic). of_z w64 d.mantissa) (same_value c.args.self c.args.other h))),
)
