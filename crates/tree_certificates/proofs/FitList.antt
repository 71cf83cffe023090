-- What the list of rules gives can be written as steps.
use Rattle.std.specs.Prelude.{◌≡◌, ◌<◌, ◌≤◌, ◌==◌, ℕ, length, Bool, true, false, List, [], ◌∷◌}
use Rattle.std.specs.Prelude.{Option, Some, None, if◌then◌else◌, slice_get, refl}
use Rattle.std.specs.List.{AllByRecursion}
use Rattle.std.proofs.Common.{arith}
use Rattle.std.proofs.Math.Dec.{ltb}
use Rattle.std.proofs.lemmas.Bool.{ltb-true}
use Rattle.fx_model.specs.Expression.{IsOrdered}
use Rattle.fx_model.specs.declared.Node.{Node}
use Rattle.facts.specs.declared.fact.Fact.{Fact}
use Rattle.facts.specs.declared.fact.Slot.{Slot}
use Rattle.facts.specs.declared.fact.Fact.TheVariants as fact
use Rattle.facts.specs.declared.fact.Slot.TheVariants as slot
use Rattle.facts.specs.declared.hint.HintRow.{HintRow}
use Rattle.facts.specs.Promises.{Rule}
use Rattle.theorem_arith.specs.EachRule as arithmetic
use Rattle.theorem_fix.specs.EachRule as multiples
use Rattle.theorem_rel.specs.EachRule as relatives
use Rattle.rewrite_rules.specs.EachRule as rewritings
use Rattle.theorem_list.specs.Concludes.{listed, by_number, by_row, concludes}
use Rattle.theorem_list.proofs.Rows.{numbered, by_rows, each_row}
use Rattle.cert_checker.specs.declared.given.Given.TheVariants.{Hypothesis}
use Rattle.cert_checker.specs.Given.{given_number}
use Rattle.tree_certificates.specs.Writing.{IsVoidFitting, IsFromFew, IsNumberedLow}
use Rattle.tree_certificates.proofs.Fitting.{FitsSteps}
use Rattle.tree_certificates.proofs.FitArith.{literal_rule-fits, negation_rule-fits, sum_rule-fits}
use Rattle.tree_certificates.proofs.FitArith.{difference_rule-fits}
use Rattle.tree_certificates.proofs.FitArith.{difference_with_itself_rule-fits, product_rule-fits}
use Rattle.tree_certificates.proofs.FitArith.{square_rule-fits, quotient_rule-fits}
use Rattle.tree_certificates.proofs.FitArith.{quotient_by_nonzero_rule-fits}
use Rattle.tree_certificates.proofs.FitArith.{quotient_by_itself_rule-fits, size_rule-fits}
use Rattle.tree_certificates.proofs.FitArith.{value_rule-fits, sign_rule-fits}
use Rattle.tree_certificates.proofs.FitArith.{absolute_value_rule-fits, size_of_value_rule-fits}
use Rattle.tree_certificates.proofs.FitArith.{size_of_negation_rule-fits, size_of_product_rule-fits}
use Rattle.tree_certificates.proofs.FitArith.{size_of_quotient_rule-fits, size_of_sum_rule-fits}
use Rattle.tree_certificates.proofs.FitFix.{literal_multiple_rule-fits}
use Rattle.tree_certificates.proofs.FitFix.{multiple_of_negation_rule-fits}
use Rattle.tree_certificates.proofs.FitFix.{multiple_of_sum_rule-fits}
use Rattle.tree_certificates.proofs.FitFix.{multiple_of_product_rule-fits}
use Rattle.tree_certificates.proofs.FitFix.{rounded_multiple_rule-fits}
use Rattle.tree_certificates.proofs.FitFix.{untouched_multiple_rule-fits, number_multiple_rule-fits}
use Rattle.tree_certificates.proofs.FitFix.{nonzero_bound_rule-fits, nonzero_size_rule-fits}
use Rattle.tree_certificates.proofs.FitFix.{nonzero_product_rule-fits, nonzero_quotient_rule-fits}
use Rattle.tree_certificates.proofs.FitFix.{nonzero_negation_rule-fits, nonzero_side_rule-fits}
use Rattle.tree_certificates.proofs.FitFix.{rounded_bound_rule-fits, error_rule-fits}
use Rattle.tree_certificates.proofs.FitFix.{signed_error_rule-fits, multiple_error_rule-fits}
use Rattle.tree_certificates.proofs.FitFix.{shrinking_rule-fits, no_multiple_rule-fits}
use Rattle.tree_certificates.proofs.FitRel.{relative_to_itself_rule-fits}
use Rattle.tree_certificates.proofs.FitRel.{relative_difference_rule-fits}
use Rattle.tree_certificates.proofs.FitRel.{difference_by_error_rule-fits, value_by_error_rule-fits}
use Rattle.tree_certificates.proofs.FitRel.{quotient_by_error_rule-fits, relative_product_rule-fits}
use Rattle.tree_certificates.proofs.FitRel.{relative_quotient_rule-fits, relative_chain_rule-fits}
use Rattle.tree_certificates.proofs.FitRel.{relative_turned_rule-fits, relative_negation_rule-fits}
use Rattle.tree_certificates.proofs.FitRel.{relative_sum_rule-fits}
use Rattle.tree_certificates.proofs.FitRewrites.{difference_of_sums_rule-fits}
use Rattle.tree_certificates.proofs.FitRewrites.{difference_of_differences_rule-fits}
use Rattle.tree_certificates.proofs.FitRewrites.{difference_of_products_rule-fits}
use Rattle.tree_certificates.proofs.FitRewrites.{difference_of_negations_rule-fits}
use Rattle.tree_certificates.proofs.FitRewrites.{difference_through_rule-fits}
use Rattle.tree_certificates.proofs.FitRewrites.{difference_against_rule-fits}
use Rattle.tree_certificates.proofs.FitRewrites.{first_by_difference_rule-fits}
use Rattle.tree_certificates.proofs.FitRewrites.{second_by_difference_rule-fits}
use Rattle.tree_certificates.proofs.FitRewrites.{zero_and_not_rule-fits}
use Rattle.tree_certificates.proofs.FitRewrites.{both_zero_and_not_rule-fits, rewriting_rule-fits}

arithmetic_fit : arithmetic.EachRule FitsSteps
arithmetic_fit = record {
  literal = literal_rule-fits;
  negation = negation_rule-fits;
  sum = sum_rule-fits;
  difference = difference_rule-fits;
  difference_with_itself = difference_with_itself_rule-fits;
  product = product_rule-fits;
  square = square_rule-fits;
  quotient = quotient_rule-fits;
  quotient_by_nonzero = quotient_by_nonzero_rule-fits;
  quotient_by_itself = quotient_by_itself_rule-fits;
  size = size_rule-fits;
  value = value_rule-fits;
  sign = sign_rule-fits;
  absolute_value = absolute_value_rule-fits;
  size_of_value = size_of_value_rule-fits;
  size_of_negation = size_of_negation_rule-fits;
  size_of_product = size_of_product_rule-fits;
  size_within_part = size_of_quotient_rule-fits;
  size_of_sum = size_of_sum_rule-fits;
}

multiples_fit : multiples.EachRule FitsSteps
multiples_fit = record {
  literal_multiple = literal_multiple_rule-fits;
  multiple_of_negation = multiple_of_negation_rule-fits;
  multiple_of_sum = multiple_of_sum_rule-fits;
  multiple_of_product = multiple_of_product_rule-fits;
  rounded_multiple = rounded_multiple_rule-fits;
  untouched_multiple = untouched_multiple_rule-fits;
  number_multiple = number_multiple_rule-fits;
  nonzero_bound = nonzero_bound_rule-fits;
  nonzero_size = nonzero_size_rule-fits;
  nonzero_product = nonzero_product_rule-fits;
  nonzero_quotient = nonzero_quotient_rule-fits;
  nonzero_negation = nonzero_negation_rule-fits;
  nonzero_side = nonzero_side_rule-fits;
  rounded_bound = rounded_bound_rule-fits;
  error = error_rule-fits;
  signed_error = signed_error_rule-fits;
  multiple_error = multiple_error_rule-fits;
  no_multiple = no_multiple_rule-fits;
}

relatives_fit : relatives.EachRule FitsSteps
relatives_fit = record {
  relative_to_itself = relative_to_itself_rule-fits;
  relative_difference = relative_difference_rule-fits;
  difference_by_error = difference_by_error_rule-fits;
  value_by_error = value_by_error_rule-fits;
  quotient_by_error = quotient_by_error_rule-fits;
  relative_product = relative_product_rule-fits;
  relative_quotient = relative_quotient_rule-fits;
  relative_chain = relative_chain_rule-fits;
  relative_turned = relative_turned_rule-fits;
  relative_negation = relative_negation_rule-fits;
  relative_sum = relative_sum_rule-fits;
}

rewritings_fit : rewritings.EachRule FitsSteps
rewritings_fit = record {
  difference_of_sums = difference_of_sums_rule-fits;
  difference_of_differences = difference_of_differences_rule-fits;
  difference_of_products = difference_of_products_rule-fits;
  difference_of_negations = difference_of_negations_rule-fits;
  difference_through = difference_through_rule-fits;
  difference_against = difference_against_rule-fits;
  first_by_difference = first_by_difference_rule-fits;
  second_by_difference = second_by_difference_rule-fits;
  zero_and_not = zero_and_not_rule-fits;
  both_zero_and_not = both_zero_and_not_rule-fits;
}

-- what holds of each rule's number and the rule
numbers_fit : (n : ℕ) → FitsSteps (numbered listed n)
numbers_fit n = by_rows (λ _ r. FitsSteps r) listed n (λ nodes premises target f o e. cc)
    (each_row FitsSteps (λ _ r. FitsSteps r)
    (λ _ r h. h) shrinking_rule-fits arithmetic_fit multiples_fit relatives_fit rewritings_fit)

row_fits : (nodes : List Node) (o : Option HintRow) (premises : List Fact) (target : Slot)
    (f : Fact) → IsOrdered nodes → by_row nodes o premises target ≡ Some f
    → (length premises ≤ 65535)
    × (f ≡ fact.Void → by_row nodes o premises slot.Void ≡ Some fact.Void)
row_fits nodes None premises target f d e = cc
row_fits nodes (Some row) premises target f d e =
    rewriting_rule-fits row nodes premises target f d e

list_fits : (nodes : List Node) (hints : List HintRow)
    → IsOrdered nodes → (number arg : ℕ) (premises : List Fact) (target : Slot) (f : Fact)
    → concludes nodes hints number arg premises target ≡ Some f
    → (length premises ≤ 65535)
    × (f ≡ fact.Void → concludes nodes hints number arg premises slot.Void ≡ Some fact.Void)
list_fits nodes hints o number arg premises target f e = by_test (number == 80) (arg == 0) e
  where
    by_test : (b c : Bool) → (if b then by_row nodes (slice_get hints arg) premises target
        else (if c then by_number listed number nodes premises target else None)) ≡ Some f
        → (length premises ≤ 65535) × (f ≡ fact.Void
        → (if b then by_row nodes (slice_get hints arg) premises slot.Void else (if c
        then by_number listed number nodes premises slot.Void else None)) ≡ Some fact.Void)
    by_test true c e = row_fits nodes (slice_get hints arg) premises target f o e
    by_test false true e = numbers_fit number nodes premises target f o e
    by_test false false e = cc

pub list_void_fitting : (nodes : List Node) (hints : List HintRow) → IsOrdered nodes
    → IsVoidFitting (concludes nodes hints)
list_void_fitting nodes hints o number arg premises target e =
    (list_fits nodes hints o number arg premises target fact.Void e).1 refl

pub list_from_few : (nodes : List Node) (hints : List HintRow) → IsOrdered nodes
    → IsFromFew (concludes nodes hints)
list_from_few nodes hints o number arg premises target f e =
    (list_fits nodes hints o number arg premises target f e).0

-- ---- numbers
-- a number below those of what steps are given
abbrev IsLow : ℕ → Type 0
IsLow n = n < given_number Hypothesis

number_low : (rules : List (ℕ × Rule)) (n : ℕ) → AllByRecursion (λ e. IsLow e.0) rules
    → (nodes : List Node) (premises : List Fact) (target : Slot) (f : Fact)
    → by_number rules n nodes premises target ≡ Some f → IsLow n
number_low [] n h nodes premises target f e = cc
number_low (r ∷ rules) n h nodes premises target f e =
    by_test (n == r.0) refl e (λ w. number_low rules n h.1 nodes premises target f w)
  where
    by_test : (b : Bool) → (n == r.0) ≡ b
        → (if b then r.1 nodes premises target else by_number rules n nodes premises target)
        ≡ Some f → (by_number rules n nodes premises target ≡ Some f → IsLow n) → IsLow n
    by_test true q e later = let l : IsLow r.0 = h.0 in
        let d : n ≡ r.0 = grind (arith, q) in omega (arith, l, d)
    by_test false q e later = later e

-- whether all their numbers are low
abbrev are_low : List (ℕ × Rule) → Bool
are_low [] = true
are_low (r ∷ rules) = if ltb r.0 (given_number Hypothesis) then are_low rules else false

all_low : (rules : List (ℕ × Rule)) → are_low rules ≡ true → AllByRecursion (λ e. IsLow e.0) rules
all_low [] h = tt
all_low (r ∷ rules) h = by_test (ltb r.0 (given_number Hypothesis)) refl h (λ w. all_low rules w)
  where
    by_test : (b : Bool) → ltb r.0 (given_number Hypothesis) ≡ b
        → (if b then are_low rules else false) ≡ true
        → (are_low rules ≡ true → AllByRecursion (λ e. IsLow e.0) rules)
        → AllByRecursion (λ e. IsLow e.0) (r ∷ rules)
    by_test true e h later = (ltb-true r.0 (given_number Hypothesis) e, later h)
    by_test false e h later = cc

listed_low : AllByRecursion (λ e. IsLow e.0) listed
listed_low = all_low listed refl

pub list_numbered_low : (nodes : List Node) (hints : List HintRow)
    → IsNumberedLow (concludes nodes hints)
list_numbered_low nodes hints number arg premises target f e =
    by_test (number == 80) refl (arg == 0) e
  where
    by_test : (b : Bool) → (number == 80) ≡ b
        → (c : Bool) → (if b then by_row nodes (slice_get hints arg) premises target else (if c
        then by_number listed number nodes premises target else None)) ≡ Some f → IsLow number
    by_test true q c e = let d : number ≡ 80 = grind (arith, q) in omega (arith, d)
    by_test false q true e = number_low listed number listed_low nodes premises target f e
    by_test false q false e = cc
