use Rattle.std.proofs.Common.{arith}
use Rattle.std.proofs.lemmas.Int.{ints}
use Rattle.fx_model.specs.Cut.{on_grid}
use Rattle.dyadic.proofs.rounding.exact_number.Goals as goal

pub canonical-requires : goal.canonical-requires
canonical-requires c =
    on_grid c.args.cut.digits _ (omega arith) (omega (arith, ints)) (omega (arith, ints))
