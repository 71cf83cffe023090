use Rattle.std.proofs.Common.{subst, sym}
use Rattle.fx_model.specs.Grid.{IsDown}
use Rattle.fx_model.specs.Fraction.{◌/ℚ◌}
use Rattle.dyadic.specs.Ends.{bound_of}
use Rattle.dyadic.specs.Values.{value_of}
use Rattle.dyadic.proofs.products.div_down.Goals as goal

pub returns-in-Some : goal.returns-in-Some
returns-in-Some c =
    c.long_rounded.ensures (value_of c.args.a /ℚ value_of c.args.b) c.in-Some.ensures.floor

pub returns-in-None : goal.returns-in-None
returns-in-None c = subst (λ e. IsDown (value_of c.args.a /ℚ value_of c.args.b) (bound_of e))
    (sym c.again.ensures) c.long_quotient_down.ensures
