use Rattle.theorem_fix.proofs.OnTarget.{literal_multiple_rule-target}
use Rattle.theorem_fix.proofs.OnTarget.{multiple_of_negation_rule-target}
use Rattle.theorem_fix.proofs.OnTarget.{multiple_of_sum_rule-target}
use Rattle.theorem_fix.proofs.OnTarget.{multiple_of_product_rule-target}
use Rattle.theorem_fix.proofs.OnTarget.{rounded_multiple_rule-target}
use Rattle.theorem_fix.proofs.OnTarget.{untouched_multiple_rule-target, number_multiple_rule-target}
use Rattle.theorem_fix.proofs.OnTarget.{nonzero_bound_rule-target, nonzero_size_rule-target}
use Rattle.theorem_fix.proofs.OnTarget.{nonzero_product_rule-target, nonzero_quotient_rule-target}
use Rattle.theorem_fix.proofs.OnTarget.{nonzero_negation_rule-target, nonzero_side_rule-target}
use Rattle.theorem_fix.proofs.OnTarget.{rounded_bound_rule-target, error_rule-target}
use Rattle.theorem_fix.proofs.OnTarget.{signed_error_rule-target, multiple_error_rule-target}
use Rattle.theorem_fix.proofs.OnTarget.{no_multiple_rule-target, shrinking_rule-target}
use Rattle.theorem_fix.proofs.laws.rules_stay_on_target.Goals as goal

pub returns : goal.returns
returns c = record {
  each = record {
    literal_multiple = literal_multiple_rule-target;
    multiple_of_negation = multiple_of_negation_rule-target;
    multiple_of_sum = multiple_of_sum_rule-target;
    multiple_of_product = multiple_of_product_rule-target;
    rounded_multiple = rounded_multiple_rule-target;
    untouched_multiple = untouched_multiple_rule-target;
    number_multiple = number_multiple_rule-target;
    nonzero_bound = nonzero_bound_rule-target;
    nonzero_size = nonzero_size_rule-target;
    nonzero_product = nonzero_product_rule-target;
    nonzero_quotient = nonzero_quotient_rule-target;
    nonzero_negation = nonzero_negation_rule-target;
    nonzero_side = nonzero_side_rule-target;
    rounded_bound = rounded_bound_rule-target;
    error = error_rule-target;
    signed_error = signed_error_rule-target;
    multiple_error = multiple_error_rule-target;
    no_multiple = no_multiple_rule-target;
  };
  shrinking = shrinking_rule-target;
}
