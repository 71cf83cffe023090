use Rattle.theorem_arith.proofs.Sound.{literal_rule-sound, negation_rule-sound, sum_rule-sound}
use Rattle.theorem_arith.proofs.Sound.{difference_rule-sound, difference_with_itself_rule-sound}
use Rattle.theorem_arith.proofs.Sound.{product_rule-sound, quotient_rule-sound}
use Rattle.theorem_arith.proofs.Sound.{quotient_by_nonzero_rule-sound}
use Rattle.theorem_arith.proofs.Sound.{quotient_by_itself_rule-sound}
use Rattle.theorem_arith.proofs.SoundOperations.{square_rule-sound, size_of_negation_rule-sound}
use Rattle.theorem_arith.proofs.SoundOperations.{size_of_product_rule-sound}
use Rattle.theorem_arith.proofs.SoundOperations.{size_of_quotient_rule-sound}
use Rattle.theorem_arith.proofs.SoundOperations.{size_of_sum_rule-sound}
use Rattle.theorem_arith.proofs.SoundSizes.{size_rule-sound, value_rule-sound, sign_rule-sound}
use Rattle.theorem_arith.proofs.SoundSizes.{absolute_value_rule-sound, size_of_value_rule-sound}
use Rattle.theorem_arith.proofs.laws.rules_are_sound.Goals as goal

pub returns : goal.returns
returns c = record {
  literal = literal_rule-sound;
  negation = negation_rule-sound;
  sum = sum_rule-sound;
  difference = difference_rule-sound;
  difference_with_itself = difference_with_itself_rule-sound;
  product = product_rule-sound;
  square = square_rule-sound;
  quotient = quotient_rule-sound;
  quotient_by_nonzero = quotient_by_nonzero_rule-sound;
  quotient_by_itself = quotient_by_itself_rule-sound;
  size = size_rule-sound;
  value = value_rule-sound;
  sign = sign_rule-sound;
  absolute_value = absolute_value_rule-sound;
  size_of_value = size_of_value_rule-sound;
  size_of_negation = size_of_negation_rule-sound;
  size_of_product = size_of_product_rule-sound;
  size_within_part = size_of_quotient_rule-sound;
  size_of_sum = size_of_sum_rule-sound;
}
