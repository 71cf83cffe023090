use Rattle.theorem_arith.proofs.OnTarget.{literal_rule-target, negation_rule-target}
use Rattle.theorem_arith.proofs.OnTarget.{sum_rule-target, difference_rule-target}
use Rattle.theorem_arith.proofs.OnTarget.{difference_with_itself_rule-target, product_rule-target}
use Rattle.theorem_arith.proofs.OnTarget.{square_rule-target, quotient_rule-target}
use Rattle.theorem_arith.proofs.OnTarget.{quotient_by_nonzero_rule-target}
use Rattle.theorem_arith.proofs.OnTarget.{quotient_by_itself_rule-target, size_rule-target}
use Rattle.theorem_arith.proofs.OnTarget.{value_rule-target, sign_rule-target}
use Rattle.theorem_arith.proofs.OnTarget.{absolute_value_rule-target, size_of_value_rule-target}
use Rattle.theorem_arith.proofs.OnTarget.{size_of_negation_rule-target, size_of_product_rule-target}
use Rattle.theorem_arith.proofs.OnTarget.{size_of_quotient_rule-target, size_of_sum_rule-target}
use Rattle.theorem_arith.proofs.laws.rules_stay_on_target.Goals as goal

pub returns : goal.returns
returns c = record {
  literal = literal_rule-target;
  negation = negation_rule-target;
  sum = sum_rule-target;
  difference = difference_rule-target;
  difference_with_itself = difference_with_itself_rule-target;
  product = product_rule-target;
  square = square_rule-target;
  quotient = quotient_rule-target;
  quotient_by_nonzero = quotient_by_nonzero_rule-target;
  quotient_by_itself = quotient_by_itself_rule-target;
  size = size_rule-target;
  value = value_rule-target;
  sign = sign_rule-target;
  absolute_value = absolute_value_rule-target;
  size_of_value = size_of_value_rule-target;
  size_of_negation = size_of_negation_rule-target;
  size_of_product = size_of_product_rule-target;
  size_within_part = size_of_quotient_rule-target;
  size_of_sum = size_of_sum_rule-target;
}
