use Rattle.theorem_fix.proofs.Isotone.{literal_multiple_rule-isotone}
use Rattle.theorem_fix.proofs.Isotone.{multiple_of_negation_rule-isotone}
use Rattle.theorem_fix.proofs.Isotone.{multiple_of_sum_rule-isotone}
use Rattle.theorem_fix.proofs.Isotone.{multiple_of_product_rule-isotone}
use Rattle.theorem_fix.proofs.Isotone.{rounded_multiple_rule-isotone}
use Rattle.theorem_fix.proofs.Isotone.{untouched_multiple_rule-isotone}
use Rattle.theorem_fix.proofs.Isotone.{number_multiple_rule-isotone}
use Rattle.theorem_fix.proofs.IsotoneNonzero.{nonzero_bound_rule-isotone, nonzero_size_rule-isotone}
use Rattle.theorem_fix.proofs.IsotoneNonzero.{nonzero_product_rule-isotone}
use Rattle.theorem_fix.proofs.IsotoneNonzero.{nonzero_quotient_rule-isotone}
use Rattle.theorem_fix.proofs.IsotoneNonzero.{nonzero_negation_rule-isotone}
use Rattle.theorem_fix.proofs.IsotoneNonzero.{nonzero_side_rule-isotone}
use Rattle.theorem_fix.proofs.IsotoneRoundings.{rounded_bound_rule-isotone, error_rule-isotone}
use Rattle.theorem_fix.proofs.IsotoneRoundings.{signed_error_rule-isotone}
use Rattle.theorem_fix.proofs.IsotoneRoundings.{multiple_error_rule-isotone}
use Rattle.theorem_fix.proofs.ShrinkingLaws.{no_multiple_rule-isotone, shrinking_rule-isotone}
use Rattle.theorem_fix.proofs.laws.rules_are_isotone.Goals as goal

pub returns : goal.returns
returns c = record {
  each = record {
    literal_multiple = literal_multiple_rule-isotone;
    multiple_of_negation = multiple_of_negation_rule-isotone;
    multiple_of_sum = multiple_of_sum_rule-isotone;
    multiple_of_product = multiple_of_product_rule-isotone;
    rounded_multiple = rounded_multiple_rule-isotone;
    untouched_multiple = untouched_multiple_rule-isotone;
    number_multiple = number_multiple_rule-isotone;
    nonzero_bound = nonzero_bound_rule-isotone;
    nonzero_size = nonzero_size_rule-isotone;
    nonzero_product = nonzero_product_rule-isotone;
    nonzero_quotient = nonzero_quotient_rule-isotone;
    nonzero_negation = nonzero_negation_rule-isotone;
    nonzero_side = nonzero_side_rule-isotone;
    rounded_bound = rounded_bound_rule-isotone;
    error = error_rule-isotone;
    signed_error = signed_error_rule-isotone;
    multiple_error = multiple_error_rule-isotone;
    no_multiple = no_multiple_rule-isotone;
  };
  shrinking = shrinking_rule-isotone;
}
