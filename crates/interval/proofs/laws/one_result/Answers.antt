use Rattle.fx_model.specs.Enclosure.{Negations, Sizes, Squares, Sums, Differences}
use Rattle.interval.specs.Pairs.{Union}
use Rattle.interval.proofs.Unique.{enclosure_only, product_only, quotient_only}
use Rattle.interval.proofs.laws.one_result.Goals as goal

pub returns : goal.returns
returns c = record {
  negation = λ r. enclosure_only (Negations r);
  size = λ r. enclosure_only (Sizes r);
  square = λ r. enclosure_only (Squares r);
  sum = λ r s. enclosure_only (Sums r s);
  difference = λ r s. enclosure_only (Differences r s);
  product = product_only;
  quotient = quotient_only;
  hull = λ r s. enclosure_only (Union r s);
}
