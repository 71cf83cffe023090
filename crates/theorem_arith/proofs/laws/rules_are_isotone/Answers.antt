use Rattle.theorem_arith.proofs.Isotone.{literal_rule-isotone, negation_rule-isotone}
use Rattle.theorem_arith.proofs.Isotone.{sum_rule-isotone, difference_rule-isotone}
use Rattle.theorem_arith.proofs.Isotone.{difference_with_itself_rule-isotone, product_rule-isotone}
use Rattle.theorem_arith.proofs.Isotone.{square_rule-isotone, quotient_rule-isotone}
use Rattle.theorem_arith.proofs.Isotone.{quotient_by_nonzero_rule-isotone}
use Rattle.theorem_arith.proofs.Isotone.{quotient_by_itself_rule-isotone}
use Rattle.theorem_arith.proofs.IsotoneSizes.{size_rule-isotone, value_rule-isotone}
use Rattle.theorem_arith.proofs.IsotoneSizes.{sign_rule-isotone, absolute_value_rule-isotone}
use Rattle.theorem_arith.proofs.IsotoneSizes.{size_of_value_rule-isotone}
use Rattle.theorem_arith.proofs.IsotoneOperations.{size_of_negation_rule-isotone}
use Rattle.theorem_arith.proofs.IsotoneOperations.{size_of_product_rule-isotone}
use Rattle.theorem_arith.proofs.IsotoneOperations.{size_of_quotient_rule-isotone}
use Rattle.theorem_arith.proofs.IsotoneOperations.{size_of_sum_rule-isotone}
use Rattle.theorem_arith.proofs.laws.rules_are_isotone.Goals as goal

pub returns : goal.returns
returns c = record {
  literal = literal_rule-isotone;
  negation = negation_rule-isotone;
  sum = sum_rule-isotone;
  difference = difference_rule-isotone;
  difference_with_itself = difference_with_itself_rule-isotone;
  product = product_rule-isotone;
  square = square_rule-isotone;
  quotient = quotient_rule-isotone;
  quotient_by_nonzero = quotient_by_nonzero_rule-isotone;
  quotient_by_itself = quotient_by_itself_rule-isotone;
  size = size_rule-isotone;
  value = value_rule-isotone;
  sign = sign_rule-isotone;
  absolute_value = absolute_value_rule-isotone;
  size_of_value = size_of_value_rule-isotone;
  size_of_negation = size_of_negation_rule-isotone;
  size_of_product = size_of_product_rule-isotone;
  size_within_part = size_of_quotient_rule-isotone;
  size_of_sum = size_of_sum_rule-isotone;
}
