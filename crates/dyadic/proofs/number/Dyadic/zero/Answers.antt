use Rattle.std.proofs.Common.{pos}
use Rattle.fx_model.specs.Powers.{scaled-zero}
use Rattle.dyadic.proofs.number.Dyadic.zero.Goals as goal

pub returns-clause-value : goal.returns-clause-value
returns-clause-value c = scaled-zero (pos 0)
