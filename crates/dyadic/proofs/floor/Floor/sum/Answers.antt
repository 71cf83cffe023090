use Rattle.std.proofs.Common.{IfSome, subst}
use Rattle.fx_model.specs.Fraction.{Fraction, add_comm}
use Rattle.dyadic.specs.Floors.{IsFloor}
use Rattle.dyadic.specs.Values.{value_of}
use Rattle.dyadic.proofs.floor.Floor.sum.Goals as goal

pub returns-else-exponent : goal.returns-else-exponent
returns-else-exponent c =
    subst (λ (x : Fraction). IfSome c.ordered_sum-else-exponent.result (IsFloor x))
    (add_comm (value_of c.args.b) (value_of c.args.a)) c.ordered_sum-else-exponent.ensures
