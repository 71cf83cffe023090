-- What rules give can be written as steps.
use Rattle.std.specs.Prelude.{◌≡◌, ◌&&◌, ◌||◌, not, [], ◌∷◌, Option, Some, None, slice_get, refl}
use Rattle.std.specs.Prelude.{Bool, true, false}
use Rattle.std.proofs.Common.{◌∙◌, ap, arith}
use Rattle.std.proofs.lemmas.Bool.{and_parts, and_from}
use Rattle.fx_model.specs.Fraction.{zero_ℚ}
use Rattle.fx_model.specs.declared.ExprId.{ExprId}
use Rattle.fx_model.specs.declared.Node.{Node}
use Rattle.fx_model.specs.declared.Node.TheVariants as node
use Rattle.interval.specs.Intervals.{range_of}
use Rattle.interval.specs.Results.{has_zero}
use Rattle.rounding.specs.declared.sign.Sign.TheVariants.{Unknown}
use Rattle.expr_dag.specs.Shapes.{is_at, are_known}
use Rattle.facts.specs.declared.relative.RelativeError.{RelativeError}
use Rattle.facts.specs.declared.fact.Fact.TheVariants as fact
use Rattle.facts.specs.declared.fact.Slot.TheVariants as slot
use Rattle.facts.specs.Order.{is_same}
use Rattle.facts.specs.Ranges.{is_below}
use Rattle.facts.specs.Conclusions.{bnd_of, fix_of}
use Rattle.facts.specs.RelativeConclusions.{void_only}
use Rattle.facts.specs.Places.{lesser_place, sum_place}
use Rattle.theorem_arith.specs.Shapes.{is_one}
use Rattle.theorem_fix.specs.Shapes.{rounding_at, error_rounding_at}
use Rattle.theorem_fix.specs.Multiples.{literal_place, literal_multiple_rule}
use Rattle.theorem_fix.specs.Multiples.{multiple_of_negation_rule, multiple_of_sum_rule}
use Rattle.theorem_fix.specs.Multiples.{multiple_of_product_rule, last_place, rounded_multiple_rule}
use Rattle.theorem_fix.specs.Multiples.{untouched, untouched_multiple_rule, point_place}
use Rattle.theorem_fix.specs.Multiples.{number_multiple_rule}
use Rattle.theorem_fix.specs.Nonzero.{nonzero_bound_rule, nonzero_size_rule, nonzero_binary_rule}
use Rattle.theorem_fix.specs.Nonzero.{nonzero_product_rule, nonzero_quotient_rule}
use Rattle.theorem_fix.specs.Nonzero.{nonzero_negation_rule, are_sides, nonzero_or_void}
use Rattle.theorem_fix.specs.Nonzero.{nonzero_side_rule}
use Rattle.theorem_fix.specs.Roundings.{rounded_interval, rounded_bound_rule, errors_of, error_rule}
use Rattle.theorem_fix.specs.Roundings.{sign_of, signed_errors_of, signed_error_rule}
use Rattle.theorem_fix.specs.Roundings.{multiple_error_rule}
use Rattle.theorem_fix.specs.Shrunk.{shrunk_of, shrinking_rule, no_multiple_rule}
use Rattle.tree_certificates.proofs.Fitting.{FitsSteps, only_never, given_never, bnd_never}
use Rattle.tree_certificates.proofs.Fitting.{fix_never, only_given, given_both}

pub literal_multiple_rule-fits : FitsSteps literal_multiple_rule
literal_multiple_rule-fits nodes [] (slot.Fix e) f o q =
    (omega arith, λ v. absurd (fix_never e (literal_place (slice_get nodes e.0)) (q ∙ ap Some v)))
literal_multiple_rule-fits nodes _ _ f o q = cc

pub multiple_of_negation_rule-fits : FitsSteps multiple_of_negation_rule
multiple_of_negation_rule-fits nodes (fact.Fix x k ∷ []) (slot.Fix e) f o q = (
  omega arith,
  λ v. absurd (only_never (is_at nodes e (node.Neg x)) (fact.Fix e k) (λ w. cc) (q ∙ ap Some v)),
)
multiple_of_negation_rule-fits nodes _ _ f o q = cc

pub multiple_of_sum_rule-fits : FitsSteps multiple_of_sum_rule
multiple_of_sum_rule-fits nodes (fact.Fix x k ∷ fact.Fix y n ∷ []) (slot.Fix e) f o q = (
  omega arith,
  λ v. absurd (only_never (is_at nodes e (node.Add x y) || is_at nodes e (node.Sub x y))
      (fact.Fix e (lesser_place k n)) (λ w. cc) (q ∙ ap Some v)),
)
multiple_of_sum_rule-fits nodes _ _ f o q = cc

pub multiple_of_product_rule-fits : FitsSteps multiple_of_product_rule
multiple_of_product_rule-fits nodes (fact.Fix x k ∷ fact.Fix y n ∷ []) (slot.Fix e) f o q = (
  omega arith,
  λ v. absurd (given_never (is_at nodes e (node.Mul x y)) (fix_of e (sum_place k n))
      (fix_never e (sum_place k n)) (q ∙ ap Some v)),
)
multiple_of_product_rule-fits nodes _ _ f o q = cc

pub rounded_multiple_rule-fits : FitsSteps rounded_multiple_rule
rounded_multiple_rule-fits nodes (fact.Bnd x i ∷ []) (slot.Fix e) f o q =
    (omega arith, λ v. absurd (fix_never e (last_place (rounding_at nodes e x)) (q ∙ ap Some v)))
rounded_multiple_rule-fits nodes _ _ f o q = cc

pub untouched_multiple_rule-fits : FitsSteps untouched_multiple_rule
untouched_multiple_rule-fits nodes (fact.Fix x k ∷ []) (slot.Fix e) f o q =
    (omega arith, λ v. absurd (fix_never e (untouched k (rounding_at nodes e x)) (q ∙ ap Some v)))
untouched_multiple_rule-fits nodes _ _ f o q = cc

pub number_multiple_rule-fits : FitsSteps number_multiple_rule
number_multiple_rule-fits nodes (fact.Bnd x i ∷ []) (slot.Fix e) f o q = (
  omega arith,
  λ v. absurd (given_never (is_one nodes x e) (fix_of e (point_place i.lo i.hi))
      (fix_never e (point_place i.lo i.hi)) (q ∙ ap Some v)),
)
number_multiple_rule-fits nodes _ _ f o q = cc

pub nonzero_bound_rule-fits : FitsSteps nonzero_bound_rule
nonzero_bound_rule-fits nodes (fact.Bnd x i ∷ []) (slot.Nzr e) f o q = (
  omega arith,
  λ v. absurd (only_never (is_one nodes x e && not (has_zero (range_of i))) (fact.Nzr e)
      (λ w. cc) (q ∙ ap Some v)),
)
nonzero_bound_rule-fits nodes _ _ f o q = cc

pub nonzero_size_rule-fits : FitsSteps nonzero_size_rule
nonzero_size_rule-fits nodes (fact.Abs x s ∷ []) (slot.Nzr e) f o q = (
  omega arith,
  λ v. absurd (only_never (is_one nodes x e && is_below zero_ℚ (range_of s.interval).low)
      (fact.Nzr e) (λ w. cc) (q ∙ ap Some v)),
)
nonzero_size_rule-fits nodes _ _ f o q = cc

nonzero_binary_rule-fits : (make : ExprId → ExprId → Node) → FitsSteps (nonzero_binary_rule make)
nonzero_binary_rule-fits make nodes (fact.Nzr x ∷ fact.Nzr y ∷ []) (slot.Nzr e) f o q = (
  omega arith,
  λ v. absurd (only_never (is_at nodes e (make x y)) (fact.Nzr e) (λ w. cc) (q ∙ ap Some v)),
)
nonzero_binary_rule-fits make nodes _ _ f o q = cc

pub nonzero_product_rule-fits : FitsSteps nonzero_product_rule
nonzero_product_rule-fits = nonzero_binary_rule-fits node.Mul

pub nonzero_quotient_rule-fits : FitsSteps nonzero_quotient_rule
nonzero_quotient_rule-fits = nonzero_binary_rule-fits node.Div

pub nonzero_negation_rule-fits : FitsSteps nonzero_negation_rule
nonzero_negation_rule-fits nodes (fact.Nzr x ∷ []) (slot.Nzr e) f o q = (
  omega arith,
  λ v. absurd (only_never (is_at nodes e (node.Neg x)) (fact.Nzr e) (λ w. cc) (q ∙ ap Some v)),
)
nonzero_negation_rule-fits nodes _ _ f o q = cc

sides_seen : (x y z e : ExprId) → are_sides x y z e ≡ true → (is_same z x || is_same z y) ≡ true
sides_seen x y z e q = by_tests (is_same z x) (is_same e y) (is_same z y) (is_same e x) q
  where
    by_tests : (a b c d : Bool) → ((a && b) || (c && d)) ≡ true → (a || c) ≡ true
    by_tests true b c d q = refl
    by_tests false b true d q = refl
    by_tests false b false d q = cc

both_zero : (e z : ExprId) (d : Option RelativeError) → nonzero_or_void e d ≡ fact.Void
    → void_only (Some (nonzero_or_void z d)) ≡ Some fact.Void
both_zero e z (Some d) q = cc
both_zero e z None q = refl

pub nonzero_side_rule-fits : FitsSteps nonzero_side_rule
nonzero_side_rule-fits nodes (fact.Rel x y d ∷ fact.Nzr z ∷ []) (slot.Nzr e) f o q = (
  omega arith,
  λ v.
      let here = q ∙ ap Some v in
      let g = only_given (are_known nodes x y && are_sides x y z e) (nonzero_or_void e d) here in
      let k = and_parts (are_known nodes x y) (are_sides x y z e) g.0 in
      given_both (are_known nodes x y && (is_same z x || is_same z y))
      (void_only (Some (nonzero_or_void z d))) fact.Void (and_from (are_known nodes x y)
      (is_same z x || is_same z y) k.0 (sides_seen x y z e k.1)) (both_zero e z d g.1),
)
nonzero_side_rule-fits nodes (fact.Rel x y d ∷ fact.Nzr z ∷ []) slot.Void f o q =
    (omega arith, λ v. q ∙ ap Some v)
nonzero_side_rule-fits nodes _ _ f o q = cc

pub rounded_bound_rule-fits : FitsSteps rounded_bound_rule
rounded_bound_rule-fits nodes (fact.Bnd x i ∷ []) (slot.Bnd e) f o q = (
  omega arith,
  λ v. absurd (bnd_never e (rounded_interval (rounding_at nodes e x) i) (q ∙ ap Some v)),
)
rounded_bound_rule-fits nodes _ _ f o q = cc

pub error_rule-fits : FitsSteps error_rule
error_rule-fits nodes (fact.Bnd x i ∷ []) (slot.Bnd e) f o q = (
  omega arith,
  λ v. absurd (bnd_never e (errors_of (error_rounding_at nodes e x) Unknown None) (q ∙ ap Some v)),
)
error_rule-fits nodes _ _ f o q = cc

pub signed_error_rule-fits : FitsSteps signed_error_rule
signed_error_rule-fits nodes (fact.Bnd x i ∷ []) (slot.Bnd e) f o q = (
  omega arith,
  λ v. absurd (bnd_never e
      (signed_errors_of (error_rounding_at nodes e x) (sign_of (range_of i))) (q ∙ ap Some v)),
)
signed_error_rule-fits nodes _ _ f o q = cc

pub multiple_error_rule-fits : FitsSteps multiple_error_rule
multiple_error_rule-fits nodes (fact.Fix x k ∷ []) (slot.Bnd e) f o q = (
  omega arith,
  λ v. absurd (bnd_never e
      (errors_of (error_rounding_at nodes e x) Unknown (Some k.exponent)) (q ∙ ap Some v)),
)
multiple_error_rule-fits nodes _ _ f o q = cc

pub shrinking_rule-fits : FitsSteps shrinking_rule
shrinking_rule-fits nodes (fact.Bnd x i ∷ fact.Fix y k ∷ []) (slot.Bnd e) f o q = (
  omega arith,
  λ v. absurd (given_never (is_one nodes x y && is_same x e) (bnd_of e (shrunk_of i k))
      (bnd_never e (shrunk_of i k)) (q ∙ ap Some v)),
)
shrinking_rule-fits nodes _ _ f o q = cc

pub no_multiple_rule-fits : FitsSteps no_multiple_rule
no_multiple_rule-fits nodes (fact.Bnd x i ∷ fact.Fix y k ∷ []) slot.Void f o q =
    (omega arith, λ v. q ∙ ap Some v)
no_multiple_rule-fits nodes _ _ f o q = cc
