use Rattle.grid_words.specs.Sums.{sum_range_ordered, difference_range_ordered}
use Rattle.grid_words.specs.Sums.{negation_range_ordered}
use Rattle.grid_words.specs.Sizes.{size_range_ordered}
use Rattle.grid_words.specs.Products.{product_range_ordered, quotient_range_ordered}
use Rattle.grid_words.proofs.ranges_are_ordered.Goals as goal

pub returns : goal.returns
returns c = record {
  sum = sum_range_ordered;
  difference = difference_range_ordered;
  negation = negation_range_ordered;
  size = size_range_ordered;
  product = product_range_ordered;
  quotient = quotient_range_ordered;
}
