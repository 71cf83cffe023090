use Rattle.grid_words.specs.Sums.{sum_range_is, difference_range_is, negation_range_is}
use Rattle.grid_words.specs.Sizes.{size_range_is}
use Rattle.grid_words.specs.Products.{product_range_is, quotient_range_is}
use Rattle.grid_words.proofs.ranges.Goals as goal

pub returns : goal.returns
returns c = record {
  sum = sum_range_is;
  difference = difference_range_is;
  negation = negation_range_is;
  size = size_range_is;
  product = product_range_is;
  quotient = quotient_range_is;
}
