-- The rules on values other than 0: from stronger premises they give a fact as strong, or stronger.
use Rattle.std.specs.Prelude.{◌≡◌, ◌&&◌, ◌||◌, not, Bool, true, false, [], ◌∷◌, Option, Some, None}
use Rattle.std.specs.Prelude.{refl}
use Rattle.std.proofs.Common.{sym, subst}
use Rattle.fx_model.specs.Fraction.{zero_ℚ}
use Rattle.fx_model.specs.declared.ExprId.{ExprId}
use Rattle.fx_model.specs.declared.Node.{Node}
use Rattle.fx_model.specs.declared.Node.TheVariants as node
use Rattle.interval.specs.declared.interval.Interval.{Interval}
use Rattle.interval.specs.Intervals.{range_of}
use Rattle.interval.specs.Results.{has_zero}
use Rattle.interval.proofs.Members.{zero_test, zero_found, grown}
use Rattle.expr_dag.specs.Shapes.{are_known}
use Rattle.facts.specs.declared.size.Size.{Size}
use Rattle.facts.specs.declared.relative.RelativeError.{RelativeError}
use Rattle.facts.specs.declared.fact.Fact.TheVariants as fact
use Rattle.facts.specs.declared.fact.Slot.TheVariants as slot
use Rattle.facts.proofs.CommonParts.{and_rises}
use Rattle.facts.specs.Order.{IsWithin, IsWithinError, IsStronger, is_same}
use Rattle.facts.proofs.Laws.{IsStronger-refl}
use Rattle.facts.specs.Ranges.{is_below, is_below_in, is_below_out}
use Rattle.facts.proofs.Ranges.{IsBelow-mono}
use Rattle.facts.specs.Promises.{IsIsotone}
use Rattle.facts.specs.Premises.{Gives}
use Rattle.facts.proofs.Premises.{one_bnd, one_abs, one_nzr, two_nzr}
use Rattle.facts.proofs.Conclusions.{improves_given, improves_if, improves_only}
use Rattle.facts.proofs.RelativePremises.{rel_then_nzr}
use Rattle.facts.specs.RelativeConclusions.{void_only}
use Rattle.facts.proofs.RelativeConclusions.{improves_fact, improves_void_only}
use Rattle.theorem_arith.specs.Shapes.{is_one}
use Rattle.theorem_fix.specs.Nonzero.{nonzero_bound_rule, nonzero_size_rule, nonzero_binary_rule}
use Rattle.theorem_fix.specs.Nonzero.{nonzero_product_rule, nonzero_quotient_rule}
use Rattle.theorem_fix.specs.Nonzero.{nonzero_negation_rule, are_sides, nonzero_or_void}
use Rattle.theorem_fix.specs.Nonzero.{nonzero_side_rule}

-- ---- what the rows ask
-- an interval within one without 0 is without 0
has_zero-rises : (i j : Interval) → IsWithin j i → has_zero (range_of j) ≡ true
    → has_zero (range_of i) ≡ true
has_zero-rises i j w h = zero_test i (grown j i zero_ℚ w (zero_found j h))

lacks_zero-rises : (i j : Interval) → IsWithin j i → not (has_zero (range_of i)) ≡ true
    → not (has_zero (range_of j)) ≡ true
lacks_zero-rises i j w n = by_test (has_zero (range_of j)) refl
  where
    by_test : (b : Bool) → has_zero (range_of j) ≡ b → not b ≡ true
    by_test false e = refl
    by_test true e = let h = has_zero-rises i j w e in cc

is_above_zero-rises : (s t : Size)
    → IsWithin t.interval s.interval → is_below zero_ℚ (range_of s.interval).low ≡ true
    → is_below zero_ℚ (range_of t.interval).low ≡ true
is_above_zero-rises s t w e =
    is_below_out zero_ℚ (range_of t.interval).low (IsBelow-mono zero_ℚ (range_of s.interval).low
    (range_of t.interval).low (is_below_in zero_ℚ (range_of s.interval).low e) w.0)

-- ---- rules
pub nonzero_bound_rule-isotone : IsIsotone nonzero_bound_rule
nonzero_bound_rule-isotone nodes (fact.Bnd x i ∷ []) (slot.Nzr e) ps c s q =
    let a = one_bnd ps x i s in
    subst (λ l. Gives (nonzero_bound_rule nodes l (slot.Nzr e)) c) (sym a.1)
    (improves_if (is_one nodes x e && not (has_zero (range_of i)))
    (is_one nodes x e && not (has_zero (range_of a.0))) (fact.Nzr e) (fact.Nzr e)
    (and_rises (is_one nodes x e) (not (has_zero (range_of i))) (not (has_zero (range_of a.0)))
    (lacks_zero-rises i a.0 a.2)) refl c q)
nonzero_bound_rule-isotone nodes _ _ ps c s q = cc

pub nonzero_size_rule-isotone : IsIsotone nonzero_size_rule
nonzero_size_rule-isotone nodes (fact.Abs x t ∷ []) (slot.Nzr e) ps c s q =
    let a = one_abs ps x t s in
    subst (λ l. Gives (nonzero_size_rule nodes l (slot.Nzr e)) c) (sym a.1)
    (improves_if (is_one nodes x e && is_below zero_ℚ (range_of t.interval).low)
    (is_one nodes x e && is_below zero_ℚ (range_of a.0.interval).low) (fact.Nzr e) (fact.Nzr e)
    (and_rises (is_one nodes x e) (is_below zero_ℚ (range_of t.interval).low)
    (is_below zero_ℚ (range_of a.0.interval).low) (is_above_zero-rises t a.0 a.2)) refl c q)
nonzero_size_rule-isotone nodes _ _ ps c s q = cc

nonzero_binary_rule-isotone : (make : ExprId → ExprId → Node) → IsIsotone (nonzero_binary_rule make)
nonzero_binary_rule-isotone make nodes (fact.Nzr x ∷ fact.Nzr y ∷ []) (slot.Nzr e) ps c s q =
    subst (λ l. Gives (nonzero_binary_rule make nodes l (slot.Nzr e)) c) (sym (two_nzr ps x y s))
    (c, q, IsStronger-refl c)
nonzero_binary_rule-isotone make nodes _ _ ps c s q = cc

pub nonzero_product_rule-isotone : IsIsotone nonzero_product_rule
nonzero_product_rule-isotone = nonzero_binary_rule-isotone node.Mul

pub nonzero_quotient_rule-isotone : IsIsotone nonzero_quotient_rule
nonzero_quotient_rule-isotone = nonzero_binary_rule-isotone node.Div

pub nonzero_negation_rule-isotone : IsIsotone nonzero_negation_rule
nonzero_negation_rule-isotone nodes (fact.Nzr x ∷ []) (slot.Nzr e) ps c s q =
    subst (λ l. Gives (nonzero_negation_rule nodes l (slot.Nzr e)) c) (sym (one_nzr ps x s))
    (c, q, IsStronger-refl c)
nonzero_negation_rule-isotone nodes _ _ ps c s q = cc

nonzero_or_void-rises : (x : ExprId) (d e : Option RelativeError) → IsWithinError e d
    → IsStronger (nonzero_or_void x e) (nonzero_or_void x d)
nonzero_or_void-rises x d None w = tt
nonzero_or_void-rises x None (Some e) w = absurd w
nonzero_or_void-rises x (Some d) (Some e) w = refl

pub nonzero_side_rule-isotone : IsIsotone nonzero_side_rule
nonzero_side_rule-isotone nodes (fact.Rel x y d ∷ fact.Nzr z ∷ []) (slot.Nzr e) ps c s q =
    let a = rel_then_nzr ps x y d z s in
    subst (λ l. Gives (nonzero_side_rule nodes l (slot.Nzr e)) c) (sym a.1)
    (improves_only (are_known nodes x y && are_sides x y z e) (nonzero_or_void e d)
    (nonzero_or_void e a.0) (nonzero_or_void-rises e d a.0 a.2) c q)
nonzero_side_rule-isotone nodes (fact.Rel x y d ∷ fact.Nzr z ∷ []) slot.Void ps c s q =
    let a = rel_then_nzr ps x y d z s in
    subst (λ l. Gives (nonzero_side_rule nodes l slot.Void) c) (sym a.1)
    (improves_given (are_known nodes x y && (is_same z x || is_same z y))
    (void_only (Some (nonzero_or_void z d))) (void_only (Some (nonzero_or_void z a.0)))
    (improves_void_only (Some (nonzero_or_void z d)) (Some (nonzero_or_void z a.0)) (improves_fact
    (nonzero_or_void z d) (nonzero_or_void z a.0) (nonzero_or_void-rises z d a.0 a.2))) c q)
nonzero_side_rule-isotone nodes _ _ ps c s q = cc
