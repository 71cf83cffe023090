-- What holds of each rule of this crate.
use Rattle.facts.specs.Promises.{Rule}
use Rattle.theorem_arith.specs.Bounds.{literal_rule, negation_rule, sum_rule, difference_rule}
use Rattle.theorem_arith.specs.Bounds.{difference_with_itself_rule, product_rule, square_rule}
use Rattle.theorem_arith.specs.Bounds.{quotient_rule, quotient_by_nonzero_rule}
use Rattle.theorem_arith.specs.Bounds.{quotient_by_itself_rule}
use Rattle.theorem_arith.specs.Sizes.{size_rule, value_rule, sign_rule, absolute_value_rule}
use Rattle.theorem_arith.specs.Sizes.{size_of_value_rule, size_of_negation_rule}
use Rattle.theorem_arith.specs.Sizes.{size_of_product_rule, size_of_quotient_rule, size_of_sum_rule}

-- P holds of the rules 1 to 19.
pub record EachRule (P : Rule → Type 0) : Type 0 where
  pub literal : P literal_rule
  pub negation : P negation_rule
  pub sum : P sum_rule
  pub difference : P difference_rule
  pub difference_with_itself : P difference_with_itself_rule
  pub product : P product_rule
  pub square : P square_rule
  pub quotient : P quotient_rule
  pub quotient_by_nonzero : P quotient_by_nonzero_rule
  pub quotient_by_itself : P quotient_by_itself_rule
  pub size : P size_rule
  pub value : P value_rule
  pub sign : P sign_rule
  pub absolute_value : P absolute_value_rule
  pub size_of_value : P size_of_value_rule
  pub size_of_negation : P size_of_negation_rule
  pub size_of_product : P size_of_product_rule
  pub size_within_part : P size_of_quotient_rule
  pub size_of_sum : P size_of_sum_rule
