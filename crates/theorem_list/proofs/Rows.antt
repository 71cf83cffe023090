-- What holds of all rules of the list, from what holds of those of each crate.
use Rattle.std.specs.Prelude.{◌≡◌, ◌==◌, ℕ, Bool, true, false, List, [], ◌∷◌, None, if◌then◌else◌}
use Rattle.std.specs.Prelude.{refl}
use Rattle.std.specs.List.{AllByRecursion}
use Rattle.std.proofs.Common.{sym, subst}
use Rattle.std.proofs.lemmas.Bool.{eqb-true}
use Rattle.facts.specs.Promises.{Rule}
use Rattle.theorem_arith.specs.Bounds.{literal_rule, negation_rule, sum_rule, difference_rule}
use Rattle.theorem_arith.specs.Bounds.{difference_with_itself_rule, product_rule, square_rule}
use Rattle.theorem_arith.specs.Bounds.{quotient_rule, quotient_by_nonzero_rule}
use Rattle.theorem_arith.specs.Bounds.{quotient_by_itself_rule}
use Rattle.theorem_arith.specs.Sizes.{size_rule, value_rule, sign_rule, absolute_value_rule}
use Rattle.theorem_arith.specs.Sizes.{size_of_value_rule, size_of_negation_rule}
use Rattle.theorem_arith.specs.Sizes.{size_of_product_rule, size_of_quotient_rule, size_of_sum_rule}
use Rattle.theorem_arith.specs.EachRule as arithmetic
use Rattle.theorem_fix.specs.Multiples.{literal_multiple_rule, multiple_of_negation_rule}
use Rattle.theorem_fix.specs.Multiples.{multiple_of_sum_rule, multiple_of_product_rule}
use Rattle.theorem_fix.specs.Multiples.{rounded_multiple_rule, untouched_multiple_rule}
use Rattle.theorem_fix.specs.Multiples.{number_multiple_rule}
use Rattle.theorem_fix.specs.Nonzero.{nonzero_bound_rule, nonzero_size_rule, nonzero_product_rule}
use Rattle.theorem_fix.specs.Nonzero.{nonzero_quotient_rule, nonzero_negation_rule}
use Rattle.theorem_fix.specs.Nonzero.{nonzero_side_rule}
use Rattle.theorem_fix.specs.Roundings.{rounded_bound_rule, error_rule, signed_error_rule}
use Rattle.theorem_fix.specs.Roundings.{multiple_error_rule}
use Rattle.theorem_fix.specs.Shrunk.{shrinking_rule, no_multiple_rule}
use Rattle.theorem_fix.specs.EachRule as multiples
use Rattle.theorem_rel.specs.Values.{relative_to_itself_rule, relative_difference_rule}
use Rattle.theorem_rel.specs.Values.{difference_by_error_rule, value_by_error_rule}
use Rattle.theorem_rel.specs.Values.{quotient_by_error_rule}
use Rattle.theorem_rel.specs.Operations.{relative_product_rule, relative_quotient_rule}
use Rattle.theorem_rel.specs.Operations.{relative_chain_rule, relative_turned_rule}
use Rattle.theorem_rel.specs.Operations.{relative_negation_rule, relative_sum_rule}
use Rattle.theorem_rel.specs.EachRule as relatives
use Rattle.rewrite_rules.specs.Differences.{difference_of_sums_rule, difference_of_differences_rule}
use Rattle.rewrite_rules.specs.Differences.{difference_of_products_rule}
use Rattle.rewrite_rules.specs.Differences.{difference_of_negations_rule, difference_through_rule}
use Rattle.rewrite_rules.specs.Differences.{difference_against_rule, first_by_difference_rule}
use Rattle.rewrite_rules.specs.Differences.{second_by_difference_rule}
use Rattle.rewrite_rules.specs.Nothing.{zero_and_not_rule, both_zero_and_not_rule}
use Rattle.rewrite_rules.specs.EachRule as rewritings
use Rattle.theorem_list.specs.Concludes.{listed, by_number}

-- the rule with a number, or one that gives nothing
abbrev pub numbered : List (ℕ × Rule) → ℕ → Rule
numbered rules n = λ nodes premises target. by_number rules n nodes premises target

-- what holds of each row of a list of rules, and of one that gives nothing, holds of the rule with
-- each number
pub by_rows : (P : ℕ → Rule → Type 0) (rules : List (ℕ × Rule)) (n : ℕ)
    → P n (λ nodes premises target. None) → AllByRecursion (λ e. P e.0 e.1) rules
    → P n (numbered rules n)
by_rows P [] n z h = z
by_rows P (e ∷ others) n z h = by_test (n == e.0) refl (by_rows P others n z h.1)
  where
    by_test : (b : Bool) → (n == e.0) ≡ b → P n (numbered others n) → P n (λ nodes premises target.
        if b then e.1 nodes premises target else by_number others n nodes premises target)
    by_test true t k = subst (λ m. P m e.1) (sym (eqb-true n e.0 t)) h.0
    by_test false t k = k

-- one row, and the others
infixr 5 ◌⨾◌
◌⨾◌ : {A B : Type 0} → A → B → A × B
x ⨾ y = (x, y)

-- what holds of the rules of each crate, and of rule 28, holds of each row of the list
pub each_row : (Q : Rule → Type 0) (P : ℕ → Rule → Type 0) → ((n : ℕ) (r : Rule) → Q r → P n r)
    → P 28 shrinking_rule → arithmetic.EachRule Q → multiples.EachRule Q → relatives.EachRule Q
    → rewritings.EachRule Q → AllByRecursion (λ e. P e.0 e.1) listed
each_row Q P all shrinking arith fix rel rewrite =
    all 1 literal_rule arith.literal ⨾
    all 2 negation_rule arith.negation ⨾
    all 3 sum_rule arith.sum ⨾
    all 4 difference_rule arith.difference ⨾
    all 5 difference_with_itself_rule arith.difference_with_itself ⨾
    all 6 product_rule arith.product ⨾
    all 7 square_rule arith.square ⨾
    all 8 quotient_rule arith.quotient ⨾
    all 9 quotient_by_nonzero_rule arith.quotient_by_nonzero ⨾
    all 10 quotient_by_itself_rule arith.quotient_by_itself ⨾
    all 11 size_rule arith.size ⨾
    all 12 value_rule arith.value ⨾
    all 13 sign_rule arith.sign ⨾
    all 14 absolute_value_rule arith.absolute_value ⨾
    all 15 size_of_value_rule arith.size_of_value ⨾
    all 16 size_of_negation_rule arith.size_of_negation ⨾
    all 17 size_of_product_rule arith.size_of_product ⨾
    all 18 size_of_quotient_rule arith.size_within_part ⨾
    all 19 size_of_sum_rule arith.size_of_sum ⨾
    all 21 literal_multiple_rule fix.literal_multiple ⨾
    all 22 multiple_of_negation_rule fix.multiple_of_negation ⨾
    all 23 multiple_of_sum_rule fix.multiple_of_sum ⨾
    all 24 multiple_of_product_rule fix.multiple_of_product ⨾
    all 25 rounded_multiple_rule fix.rounded_multiple ⨾
    all 26 untouched_multiple_rule fix.untouched_multiple ⨾
    all 27 number_multiple_rule fix.number_multiple ⨾
    shrinking ⨾
    all 31 nonzero_bound_rule fix.nonzero_bound ⨾
    all 32 nonzero_size_rule fix.nonzero_size ⨾
    all 33 nonzero_product_rule fix.nonzero_product ⨾
    all 34 nonzero_quotient_rule fix.nonzero_quotient ⨾
    all 35 nonzero_negation_rule fix.nonzero_negation ⨾
    all 36 nonzero_side_rule fix.nonzero_side ⨾
    all 41 rounded_bound_rule fix.rounded_bound ⨾
    all 42 error_rule fix.error ⨾
    all 43 signed_error_rule fix.signed_error ⨾
    all 44 multiple_error_rule fix.multiple_error ⨾
    all 51 relative_to_itself_rule rel.relative_to_itself ⨾
    all 52 relative_difference_rule rel.relative_difference ⨾
    all 53 difference_by_error_rule rel.difference_by_error ⨾
    all 54 value_by_error_rule rel.value_by_error ⨾
    all 55 quotient_by_error_rule rel.quotient_by_error ⨾
    all 56 relative_product_rule rel.relative_product ⨾
    all 57 relative_quotient_rule rel.relative_quotient ⨾
    all 58 relative_chain_rule rel.relative_chain ⨾
    all 59 relative_turned_rule rel.relative_turned ⨾
    all 60 relative_negation_rule rel.relative_negation ⨾
    all 61 relative_sum_rule rel.relative_sum ⨾
    all 71 difference_of_sums_rule rewrite.difference_of_sums ⨾
    all 72 difference_of_differences_rule rewrite.difference_of_differences ⨾
    all 73 difference_of_products_rule rewrite.difference_of_products ⨾
    all 74 difference_of_negations_rule rewrite.difference_of_negations ⨾
    all 75 difference_through_rule rewrite.difference_through ⨾
    all 76 difference_against_rule rewrite.difference_against ⨾
    all 77 first_by_difference_rule rewrite.first_by_difference ⨾
    all 78 second_by_difference_rule rewrite.second_by_difference ⨾
    all 90 no_multiple_rule fix.no_multiple ⨾
    all 91 zero_and_not_rule rewrite.zero_and_not ⨾
    all 92 both_zero_and_not_rule rewrite.both_zero_and_not ⨾
    tt
