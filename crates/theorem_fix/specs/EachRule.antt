-- What holds of each rule of this crate.
use Rattle.std.specs.Prelude.{◌≡◌, ◌⊎◌, List, Some}
use Rattle.fx_model.specs.declared.Node.{Node}
use Rattle.facts.specs.declared.fact.Fact.{Fact}
use Rattle.facts.specs.declared.fact.Slot.{Slot}
use Rattle.facts.specs.declared.fact.Fact.TheVariants as fact
use Rattle.facts.specs.declared.fact.Slot.TheVariants as slot
use Rattle.facts.specs.Order.{IsStronger}
use Rattle.facts.specs.Promises.{Rule, EachStronger}
use Rattle.theorem_fix.specs.Multiples.{literal_multiple_rule, multiple_of_negation_rule}
use Rattle.theorem_fix.specs.Multiples.{multiple_of_sum_rule, multiple_of_product_rule}
use Rattle.theorem_fix.specs.Multiples.{rounded_multiple_rule, untouched_multiple_rule}
use Rattle.theorem_fix.specs.Multiples.{number_multiple_rule}
use Rattle.theorem_fix.specs.Nonzero.{nonzero_bound_rule, nonzero_size_rule, nonzero_product_rule}
use Rattle.theorem_fix.specs.Nonzero.{nonzero_quotient_rule, nonzero_negation_rule}
use Rattle.theorem_fix.specs.Nonzero.{nonzero_side_rule}
use Rattle.theorem_fix.specs.Roundings.{rounded_bound_rule, error_rule, signed_error_rule}
use Rattle.theorem_fix.specs.Roundings.{multiple_error_rule}
use Rattle.theorem_fix.specs.Shrunk.{no_multiple_rule}

-- P holds of each rule but 28: 21 to 27, 31 to 36, 41 to 44 and 90.
pub record EachRule (P : Rule → Type 0) : Type 0 where
  pub literal_multiple : P literal_multiple_rule
  pub multiple_of_negation : P multiple_of_negation_rule
  pub multiple_of_sum : P multiple_of_sum_rule
  pub multiple_of_product : P multiple_of_product_rule
  pub rounded_multiple : P rounded_multiple_rule
  pub untouched_multiple : P untouched_multiple_rule
  pub number_multiple : P number_multiple_rule
  pub nonzero_bound : P nonzero_bound_rule
  pub nonzero_size : P nonzero_size_rule
  pub nonzero_product : P nonzero_product_rule
  pub nonzero_quotient : P nonzero_quotient_rule
  pub nonzero_negation : P nonzero_negation_rule
  pub nonzero_side : P nonzero_side_rule
  pub rounded_bound : P rounded_bound_rule
  pub error : P error_rule
  pub signed_error : P signed_error_rule
  pub multiple_error : P multiple_error_rule
  pub no_multiple : P no_multiple_rule

-- Of rule 28, and 90: from stronger premises the first rule gives a fact that is as strong, or
-- stronger, or the second gives VOID.
abbrev pub IsIsotoneOrVoid : Rule → Rule → Type 0
IsIsotoneOrVoid r other = (nodes : List Node) (qs : List Fact) (target : Slot) (ps : List Fact)
    (c : Fact) → EachStronger ps qs → r nodes qs target ≡ Some c
    → ((d : Fact) × (r nodes ps target ≡ Some d) × IsStronger d c)
    ⊎ (other nodes ps slot.Void ≡ Some fact.Void)
