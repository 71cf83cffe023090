-- What a rule gives stands on its target, or is VOID.
use Rattle.std.specs.Prelude.{◌≡◌, ◌⊎◌, ◌&&◌, ◌||◌, not, [], ◌∷◌, Option, Some, None, slice_get}
use Rattle.std.specs.Prelude.{refl}
use Rattle.std.proofs.Common.{inl, inr}
use Rattle.fx_model.specs.Fraction.{zero_ℚ}
use Rattle.fx_model.specs.declared.ExprId.{ExprId}
use Rattle.fx_model.specs.declared.Node.{Node}
use Rattle.fx_model.specs.declared.Node.TheVariants as node
use Rattle.interval.specs.declared.interval.Interval.{Interval}
use Rattle.interval.specs.Intervals.{range_of}
use Rattle.interval.specs.Results.{has_zero}
use Rattle.rounding.specs.declared.sign.Sign.TheVariants.{Unknown}
use Rattle.expr_dag.specs.Shapes.{is_at, are_known}
use Rattle.facts.specs.declared.relative.RelativeError.{RelativeError}
use Rattle.facts.specs.declared.fact.Fact.TheVariants as fact
use Rattle.facts.specs.declared.fact.Slot.TheVariants as slot
use Rattle.facts.specs.Order.{slot_of, is_same}
use Rattle.facts.specs.Ranges.{is_below}
use Rattle.facts.specs.Promises.{IsOnTarget}
use Rattle.facts.proofs.Conclusions.{StandsOn, bnd_stands, fact_stands, fix_stands, given_stands}
use Rattle.facts.proofs.Conclusions.{only_stands}
use Rattle.facts.specs.Conclusions.{bnd_of, fix_of}
use Rattle.facts.specs.RelativeConclusions.{void_only}
use Rattle.facts.proofs.RelativeConclusions.{void_only_stands}
use Rattle.facts.specs.Places.{lesser_place, sum_place}
use Rattle.theorem_arith.specs.Shapes.{is_one}
use Rattle.theorem_fix.specs.Shapes.{rounding_at, error_rounding_at}
use Rattle.theorem_fix.specs.Multiples.{literal_place, literal_multiple_rule}
use Rattle.theorem_fix.specs.Multiples.{multiple_of_negation_rule, multiple_of_sum_rule}
use Rattle.theorem_fix.specs.Multiples.{multiple_of_product_rule, last_place, rounded_multiple_rule}
use Rattle.theorem_fix.specs.Multiples.{untouched, untouched_multiple_rule, point_place}
use Rattle.theorem_fix.specs.Multiples.{number_multiple_rule}
use Rattle.theorem_fix.specs.Nonzero.{nonzero_bound_rule, nonzero_size_rule, nonzero_binary_rule}
use Rattle.theorem_fix.specs.Nonzero.{nonzero_product_rule, nonzero_quotient_rule}
use Rattle.theorem_fix.specs.Nonzero.{nonzero_negation_rule, are_sides, nonzero_or_void}
use Rattle.theorem_fix.specs.Nonzero.{nonzero_side_rule}
use Rattle.theorem_fix.specs.Roundings.{rounded_interval, rounded_bound_rule, errors_of, error_rule}
use Rattle.theorem_fix.specs.Roundings.{sign_of, signed_errors_of, signed_error_rule}
use Rattle.theorem_fix.specs.Roundings.{multiple_error_rule}
use Rattle.theorem_fix.specs.Shrunk.{shrunk_of, shrinking_rule, void_without, no_multiple_rule}

-- ---- multiples
pub literal_multiple_rule-target : IsOnTarget literal_multiple_rule
literal_multiple_rule-target nodes [] (slot.Fix e) f q =
    fix_stands e (literal_place (slice_get nodes e.0)) f q
literal_multiple_rule-target nodes _ _ f q = cc

pub multiple_of_negation_rule-target : IsOnTarget multiple_of_negation_rule
multiple_of_negation_rule-target nodes (fact.Fix x k ∷ []) (slot.Fix e) f q =
    only_stands (slot.Fix e) (is_at nodes e (node.Neg x)) (fact.Fix e k) (inl refl) f q
multiple_of_negation_rule-target nodes _ _ f q = cc

pub multiple_of_sum_rule-target : IsOnTarget multiple_of_sum_rule
multiple_of_sum_rule-target nodes (fact.Fix x k ∷ fact.Fix y n ∷ []) (slot.Fix e) f q =
    only_stands (slot.Fix e) (is_at nodes e (node.Add x y) || is_at nodes e (node.Sub x y))
    (fact.Fix e (lesser_place k n)) (inl refl) f q
multiple_of_sum_rule-target nodes _ _ f q = cc

pub multiple_of_product_rule-target : IsOnTarget multiple_of_product_rule
multiple_of_product_rule-target nodes (fact.Fix x k ∷ fact.Fix y n ∷ []) (slot.Fix e) f q =
    given_stands (slot.Fix e) (is_at nodes e (node.Mul x y)) (fix_of e (sum_place k n))
    (fix_stands e (sum_place k n)) f q
multiple_of_product_rule-target nodes _ _ f q = cc

pub rounded_multiple_rule-target : IsOnTarget rounded_multiple_rule
rounded_multiple_rule-target nodes (fact.Bnd x i ∷ []) (slot.Fix e) f q =
    fix_stands e (last_place (rounding_at nodes e x)) f q
rounded_multiple_rule-target nodes _ _ f q = cc

pub untouched_multiple_rule-target : IsOnTarget untouched_multiple_rule
untouched_multiple_rule-target nodes (fact.Fix x k ∷ []) (slot.Fix e) f q =
    fix_stands e (untouched k (rounding_at nodes e x)) f q
untouched_multiple_rule-target nodes _ _ f q = cc

pub number_multiple_rule-target : IsOnTarget number_multiple_rule
number_multiple_rule-target nodes (fact.Bnd x i ∷ []) (slot.Fix e) f q =
    given_stands (slot.Fix e) (is_one nodes x e) (fix_of e (point_place i.lo i.hi))
    (fix_stands e (point_place i.lo i.hi)) f q
number_multiple_rule-target nodes _ _ f q = cc

-- ---- values other than 0
pub nonzero_bound_rule-target : IsOnTarget nonzero_bound_rule
nonzero_bound_rule-target nodes (fact.Bnd x i ∷ []) (slot.Nzr e) f q = only_stands (slot.Nzr e)
    (is_one nodes x e && not (has_zero (range_of i))) (fact.Nzr e) (inl refl) f q
nonzero_bound_rule-target nodes _ _ f q = cc

pub nonzero_size_rule-target : IsOnTarget nonzero_size_rule
nonzero_size_rule-target nodes (fact.Abs x s ∷ []) (slot.Nzr e) f q =
    only_stands (slot.Nzr e) (is_one nodes x e && is_below zero_ℚ (range_of s.interval).low)
    (fact.Nzr e) (inl refl) f q
nonzero_size_rule-target nodes _ _ f q = cc

nonzero_binary_rule-target : (make : ExprId → ExprId → Node) → IsOnTarget (nonzero_binary_rule make)
nonzero_binary_rule-target make nodes (fact.Nzr x ∷ fact.Nzr y ∷ []) (slot.Nzr e) f q =
    only_stands (slot.Nzr e) (is_at nodes e (make x y)) (fact.Nzr e) (inl refl) f q
nonzero_binary_rule-target make nodes _ _ f q = cc

pub nonzero_product_rule-target : IsOnTarget nonzero_product_rule
nonzero_product_rule-target = nonzero_binary_rule-target node.Mul

pub nonzero_quotient_rule-target : IsOnTarget nonzero_quotient_rule
nonzero_quotient_rule-target = nonzero_binary_rule-target node.Div

pub nonzero_negation_rule-target : IsOnTarget nonzero_negation_rule
nonzero_negation_rule-target nodes (fact.Nzr x ∷ []) (slot.Nzr e) f q =
    only_stands (slot.Nzr e) (is_at nodes e (node.Neg x)) (fact.Nzr e) (inl refl) f q
nonzero_negation_rule-target nodes _ _ f q = cc

nonzero_or_void_stands : (x : ExprId) (d : Option RelativeError)
    → (slot_of (nonzero_or_void x d) ≡ slot.Nzr x) ⊎ (nonzero_or_void x d ≡ fact.Void)
nonzero_or_void_stands x (Some d) = inl refl
nonzero_or_void_stands x None = inr refl

pub nonzero_side_rule-target : IsOnTarget nonzero_side_rule
nonzero_side_rule-target nodes (fact.Rel x y d ∷ fact.Nzr z ∷ []) (slot.Nzr e) f q =
    only_stands (slot.Nzr e) (are_known nodes x y && are_sides x y z e) (nonzero_or_void e d)
    (nonzero_or_void_stands e d) f q
nonzero_side_rule-target nodes (fact.Rel x y d ∷ fact.Nzr z ∷ []) slot.Void f q =
    given_stands slot.Void (are_known nodes x y && (is_same z x || is_same z y))
    (void_only (Some (nonzero_or_void z d))) (void_only_stands (Some (nonzero_or_void z d))) f q
nonzero_side_rule-target nodes _ _ f q = cc

-- ---- roundings
pub rounded_bound_rule-target : IsOnTarget rounded_bound_rule
rounded_bound_rule-target nodes (fact.Bnd x i ∷ []) (slot.Bnd e) f q =
    bnd_stands e (rounded_interval (rounding_at nodes e x) i) f q
rounded_bound_rule-target nodes _ _ f q = cc

pub error_rule-target : IsOnTarget error_rule
error_rule-target nodes (fact.Bnd x i ∷ []) (slot.Bnd e) f q =
    bnd_stands e (errors_of (error_rounding_at nodes e x) Unknown None) f q
error_rule-target nodes _ _ f q = cc

pub signed_error_rule-target : IsOnTarget signed_error_rule
signed_error_rule-target nodes (fact.Bnd x i ∷ []) (slot.Bnd e) f q =
    bnd_stands e (signed_errors_of (error_rounding_at nodes e x) (sign_of (range_of i))) f q
signed_error_rule-target nodes _ _ f q = cc

pub multiple_error_rule-target : IsOnTarget multiple_error_rule
multiple_error_rule-target nodes (fact.Fix x k ∷ []) (slot.Bnd e) f q =
    bnd_stands e (errors_of (error_rounding_at nodes e x) Unknown (Some k.exponent)) f q
multiple_error_rule-target nodes _ _ f q = cc

-- ---- multiples in an interval
pub shrinking_rule-target : IsOnTarget shrinking_rule
shrinking_rule-target nodes (fact.Bnd x i ∷ fact.Fix y k ∷ []) (slot.Bnd e) f q =
    given_stands (slot.Bnd e) (is_one nodes x y && is_same x e) (bnd_of e (shrunk_of i k))
    (bnd_stands e (shrunk_of i k)) f q
shrinking_rule-target nodes _ _ f q = cc

without_stands : (o : Option Interval) → StandsOn slot.Void (void_without o)
without_stands None f e = fact_stands slot.Void fact.Void (inr refl) f e
without_stands (Some i) f e = cc

pub no_multiple_rule-target : IsOnTarget no_multiple_rule
no_multiple_rule-target nodes (fact.Bnd x i ∷ fact.Fix y k ∷ []) slot.Void f q =
    given_stands slot.Void (is_one nodes x y) (void_without (shrunk_of i k))
    (without_stands (shrunk_of i k)) f q
no_multiple_rule-target nodes _ _ f q = cc
