use Rattle.theorem_fix.proofs.SoundMultiples.{literal_multiple_rule-sound}
use Rattle.theorem_fix.proofs.SoundMultiples.{multiple_of_negation_rule-sound}
use Rattle.theorem_fix.proofs.SoundMultiples.{multiple_of_sum_rule-sound}
use Rattle.theorem_fix.proofs.SoundMultiples.{multiple_of_product_rule-sound}
use Rattle.theorem_fix.proofs.SoundMultiples.{rounded_multiple_rule-sound}
use Rattle.theorem_fix.proofs.SoundMultiples.{untouched_multiple_rule-sound}
use Rattle.theorem_fix.proofs.SoundMultiples.{number_multiple_rule-sound}
use Rattle.theorem_fix.proofs.SoundNonzero.{nonzero_bound_rule-sound, nonzero_size_rule-sound}
use Rattle.theorem_fix.proofs.SoundNonzero.{nonzero_product_rule-sound, nonzero_quotient_rule-sound}
use Rattle.theorem_fix.proofs.SoundNonzero.{nonzero_negation_rule-sound, nonzero_side_rule-sound}
use Rattle.theorem_fix.proofs.SoundRoundings.{rounded_bound_rule-sound, error_rule-sound}
use Rattle.theorem_fix.proofs.SoundRoundings.{signed_error_rule-sound, multiple_error_rule-sound}
use Rattle.theorem_fix.proofs.ShrinkingLaws.{no_multiple_rule-sound, shrinking_rule-sound}
use Rattle.theorem_fix.proofs.laws.rules_are_sound.Goals as goal

pub returns : goal.returns
returns c = record {
  each = record {
    literal_multiple = literal_multiple_rule-sound;
    multiple_of_negation = multiple_of_negation_rule-sound;
    multiple_of_sum = multiple_of_sum_rule-sound;
    multiple_of_product = multiple_of_product_rule-sound;
    rounded_multiple = rounded_multiple_rule-sound;
    untouched_multiple = untouched_multiple_rule-sound;
    number_multiple = number_multiple_rule-sound;
    nonzero_bound = nonzero_bound_rule-sound;
    nonzero_size = nonzero_size_rule-sound;
    nonzero_product = nonzero_product_rule-sound;
    nonzero_quotient = nonzero_quotient_rule-sound;
    nonzero_negation = nonzero_negation_rule-sound;
    nonzero_side = nonzero_side_rule-sound;
    rounded_bound = rounded_bound_rule-sound;
    error = error_rule-sound;
    signed_error = signed_error_rule-sound;
    multiple_error = multiple_error_rule-sound;
    no_multiple = no_multiple_rule-sound;
  };
  shrinking = shrinking_rule-sound;
}
