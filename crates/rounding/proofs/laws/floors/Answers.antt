use Rattle.rounding.proofs.Floor.{floor-le, ceiling-le}
use Rattle.rounding.specs.Floor.{floor-plus, floor-whole, ceiling-plus, ceiling-whole}
use Rattle.rounding.proofs.laws.floors.Goals as goal

pub returns : goal.returns
returns c = record {
  floor_monotone = floor-le;
  floor_of_sum = floor-plus;
  floor_of_whole = floor-whole;
  ceiling_monotone = ceiling-le;
  ceiling_of_sum = ceiling-plus;
  ceiling_of_whole = ceiling-whole;
}
