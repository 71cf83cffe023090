use Rattle.fx_model.specs.Fraction.{◌*ℚ◌}
use Rattle.dyadic.specs.Values.{value_of}
use Rattle.dyadic.proofs.products.long_product_up.Goals as goal

pub returns : goal.returns
returns c = c.up.ensures (value_of c.args.a *ℚ value_of c.args.b) c.product.ensures.cuts
