use Rattle.rounding.proofs.Rounded.{rounded-le, rounded-finer}
use Rattle.rounding.specs.Rounded.{rounded_multiple}
use Rattle.rounding.proofs.OnGrid.{rounded_on_grid}
use Rattle.rounding.proofs.laws.roundings.Goals as goal

pub returns : goal.returns
returns c = record {
  monotone = rounded-le;
  multiple = rounded_multiple;
  kept = rounded-finer;
  on_grid = rounded_on_grid;
}
