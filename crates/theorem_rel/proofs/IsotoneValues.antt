-- The rules from bounds to relative errors and back: from stronger premises they give a fact as
-- strong, or stronger.
use Rattle.std.specs.Prelude.{◌≡◌, ◌&&◌, Bool, true, false, [], ◌∷◌, Option, Some, None}
use Rattle.std.specs.Prelude.{if◌then◌else◌, refl}
use Rattle.std.proofs.Common.{sym, subst}
use Rattle.fx_model.specs.Fraction.{zero_ℚ, zero-mul}
use Rattle.fx_model.specs.Enclosure.{Lies, product_holds}
use Rattle.fx_model.specs.declared.ExprId.{ExprId}
use Rattle.fx_model.specs.declared.Node.TheVariants as node
use Rattle.interval.specs.declared.interval.Interval.{Interval}
use Rattle.interval.specs.Intervals.{range_of}
use Rattle.interval.specs.Results.{sum_of, product_of, product_of-is, quotient_of, point_of}
use Rattle.interval.specs.Results.{has_zero}
use Rattle.interval.proofs.Monotone.{sum_of-within, product_of-within, quotient_of-within}
use Rattle.interval.proofs.Members.{zero_test, zero_found, grown, some_member, alone_within}
use Rattle.expr_dag.specs.Shapes.{is_at, are_known}
use Rattle.facts.specs.declared.relative.RelativeError.{RelativeError}
use Rattle.facts.specs.declared.fact.Fact.{Fact}
use Rattle.facts.specs.declared.fact.Fact.TheVariants as fact
use Rattle.facts.specs.declared.fact.Slot.TheVariants as slot
use Rattle.facts.specs.Order.{IsWithin, IsWithinError, IsStronger, is_same}
use Rattle.facts.specs.Parts.{error_of_part}
use Rattle.facts.proofs.Laws.{IsStronger-refl, IsWithin-refl}
use Rattle.facts.specs.Promises.{IsIsotone}
use Rattle.facts.specs.Premises.{Gives}
use Rattle.facts.proofs.Premises.{one_bnd, two_bnd}
use Rattle.facts.proofs.Conclusions.{improves_given, improves_only}
use Rattle.facts.specs.RelativeConclusions.{rel_of, void_only}
use Rattle.facts.proofs.RelativeConclusions.{improves_fact, improves_part, improves_void_only}
use Rattle.facts.proofs.RelativePremises.{rel_then_bnd, rel_then_nzr}
use Rattle.theorem_rel.specs.Values.{unit, relative_to_itself_rule, relative_difference_rule}
use Rattle.theorem_rel.specs.Values.{zero_or_void, difference_fact, difference_by_error_rule}
use Rattle.theorem_rel.specs.Values.{value_fact, value_by_error_rule, quotient_fact}
use Rattle.theorem_rel.specs.Values.{quotient_by_error_rule}

pub relative_to_itself_rule-isotone : IsIsotone relative_to_itself_rule
relative_to_itself_rule-isotone nodes (fact.Bnd x i ∷ []) (slot.Rel y z) ps c s q =
    let a = one_bnd ps x i s in
    subst (λ l. Gives (relative_to_itself_rule nodes l (slot.Rel y z)) c) (sym a.1)
    (c, q, IsStronger-refl c)
relative_to_itself_rule-isotone nodes _ _ ps c s q = cc

pub relative_difference_rule-isotone : IsIsotone relative_difference_rule
relative_difference_rule-isotone nodes (fact.Bnd p i ∷ fact.Bnd z j ∷ []) (slot.Rel x y) ps c s q =
    let a = two_bnd ps p i z j s in
    subst (λ l. Gives (relative_difference_rule nodes l (slot.Rel x y)) c) (sym a.2)
    (improves_given (is_at nodes p (node.Sub x y) && is_same z y) (rel_of x y
    (error_of_part (quotient_of i j))) (rel_of x y (error_of_part (quotient_of a.0 a.1)))
    (improves_part x y (quotient_of i j) (quotient_of a.0 a.1)
    (λ k h. quotient_of-within a.0 a.1 i j k a.3 a.4 h)) c q)
relative_difference_rule-isotone nodes _ _ ps c s q = cc

-- ---- back to bounds
-- where 0 lies in the smaller interval, [0, 0] is as strong as what both are
zero_is_strong : (e : ExprId) (j : Interval) (g : Fact) → (Lies (range_of j) zero_ℚ
    → IsStronger (fact.Bnd e (point_of zero_ℚ)) g) → IsStronger (zero_or_void e j) g
zero_is_strong e j g h = by_test (has_zero (range_of j)) refl
  where
    by_test : (b : Bool) → has_zero (range_of j) ≡ b
        → IsStronger (if b then fact.Bnd e (point_of zero_ℚ) else fact.Void) g
    by_test true t = h (zero_found j t)
    by_test false t = tt

zero_or_void-rises : (e : ExprId) (j k : Interval) → IsWithin k j
    → IsStronger (zero_or_void e k) (zero_or_void e j)
zero_or_void-rises e j k w = zero_is_strong e k (zero_or_void e j) (λ l.
    subst (λ (b : Bool). IsStronger (fact.Bnd e (point_of zero_ℚ))
    (if b then fact.Bnd e (point_of zero_ℚ) else fact.Void))
    (sym (zero_test j (grown k j zero_ℚ w l))) (IsStronger-refl (fact.Bnd e (point_of zero_ℚ))))

-- 0 is a product of 0 in J and anything in K
zero_in_product : (j k : Interval) → Lies (range_of j) zero_ℚ
    → IsWithin (point_of zero_ℚ) (product_of j k)
zero_in_product j k l = let m = some_member k in
    alone_within zero_ℚ (product_of j k)
    (subst (Lies (range_of (product_of j k))) (zero-mul m.0) (product_holds (range_of j)
    (range_of k) (range_of (product_of j k)) zero_ℚ m.0 (product_of-is j k) l m.1))

difference_fact-rises : (e : ExprId) (d g : Option RelativeError) (j k : Interval)
    → IsWithinError g d → IsWithin k j → IsStronger (difference_fact e g k) (difference_fact e d j)
difference_fact-rises e (Some d) (Some g) j k v w =
    (refl, product_of-within k g.interval j d.interval w v)
difference_fact-rises e (Some d) None j k v w =
    zero_is_strong e k (fact.Bnd e (product_of j d.interval))
    (λ l. (refl, zero_in_product j d.interval (grown k j zero_ℚ w l)))
difference_fact-rises e None None j k v w = zero_or_void-rises e j k w
difference_fact-rises e None (Some g) j k v w = absurd v

pub difference_by_error_rule-isotone : IsIsotone difference_by_error_rule
difference_by_error_rule-isotone nodes (fact.Rel x y d ∷ fact.Bnd z j ∷ []) (slot.Bnd e) ps c s q =
    let a = rel_then_bnd ps x y d z j s in
    subst (λ l. Gives (difference_by_error_rule nodes l (slot.Bnd e)) c) (sym a.2)
    (improves_only (is_at nodes e (node.Sub x y) && is_same z y) (difference_fact e d j)
    (difference_fact e a.0 a.1) (difference_fact-rises e d a.0 j a.1 a.3 a.4) c q)
difference_by_error_rule-isotone nodes (fact.Rel x y d ∷ fact.Bnd z j ∷ []) slot.Void ps c s q =
    let a = rel_then_bnd ps x y d z j s in
    subst (λ l. Gives (difference_by_error_rule nodes l slot.Void) c) (sym a.2)
    (improves_given (are_known nodes x y && is_same z y) (void_only (Some (difference_fact x d j)))
    (void_only (Some (difference_fact x a.0 a.1)))
    (improves_void_only (Some (difference_fact x d j)) (Some (difference_fact x a.0 a.1))
    (improves_fact (difference_fact x d j) (difference_fact x a.0 a.1)
    (difference_fact-rises x d a.0 j a.1 a.3 a.4))) c q)
difference_by_error_rule-isotone nodes _ _ ps c s q = cc

value_fact-rises : (e : ExprId) (d g : Option RelativeError) (j k : Interval) → IsWithinError g d
    → IsWithin k j → IsStronger (value_fact e g k) (value_fact e d j)
value_fact-rises e (Some d) (Some g) j k v w = (
  refl,
  product_of-within k (sum_of unit g.interval) j (sum_of unit d.interval) w
      (sum_of-within unit g.interval unit d.interval (IsWithin-refl unit) v),
)
value_fact-rises e (Some d) None j k v w =
    zero_is_strong e k (fact.Bnd e (product_of j (sum_of unit d.interval)))
    (λ l. (refl, zero_in_product j (sum_of unit d.interval) (grown k j zero_ℚ w l)))
value_fact-rises e None None j k v w = zero_or_void-rises e j k w
value_fact-rises e None (Some g) j k v w = absurd v

pub value_by_error_rule-isotone : IsIsotone value_by_error_rule
value_by_error_rule-isotone nodes (fact.Rel x y d ∷ fact.Bnd z j ∷ []) (slot.Bnd e) ps c s q =
    let a = rel_then_bnd ps x y d z j s in
    subst (λ l. Gives (value_by_error_rule nodes l (slot.Bnd e)) c) (sym a.2)
    (improves_only (are_known nodes x y && (is_same z y && is_same x e)) (value_fact e d j)
    (value_fact e a.0 a.1) (value_fact-rises e d a.0 j a.1 a.3 a.4) c q)
value_by_error_rule-isotone nodes (fact.Rel x y d ∷ fact.Bnd z j ∷ []) slot.Void ps c s q =
    let a = rel_then_bnd ps x y d z j s in
    subst (λ l. Gives (value_by_error_rule nodes l slot.Void) c) (sym a.2)
    (improves_given (are_known nodes x y && is_same z y) (void_only (Some (value_fact x d j)))
    (void_only (Some (value_fact x a.0 a.1)))
    (improves_void_only (Some (value_fact x d j)) (Some (value_fact x a.0 a.1)) (improves_fact
    (value_fact x d j) (value_fact x a.0 a.1) (value_fact-rises x d a.0 j a.1 a.3 a.4))) c q)
value_by_error_rule-isotone nodes _ _ ps c s q = cc

quotient_fact-rises : (e : ExprId) (d g : Option RelativeError) → IsWithinError g d
    → IsStronger (quotient_fact e g) (quotient_fact e d)
quotient_fact-rises e (Some d) (Some g) v =
    (refl, sum_of-within unit g.interval unit d.interval (IsWithin-refl unit) v)
quotient_fact-rises e d None v = tt
quotient_fact-rises e None (Some g) v = absurd v

pub quotient_by_error_rule-isotone : IsIsotone quotient_by_error_rule
quotient_by_error_rule-isotone nodes (fact.Rel x y d ∷ fact.Nzr z ∷ []) (slot.Bnd e) ps c s q =
    let a = rel_then_nzr ps x y d z s in
    subst (λ l. Gives (quotient_by_error_rule nodes l (slot.Bnd e)) c) (sym a.1)
    (improves_only (is_at nodes e (node.Div x y) && is_same z y) (quotient_fact e d)
    (quotient_fact e a.0) (quotient_fact-rises e d a.0 a.2) c q)
quotient_by_error_rule-isotone nodes (fact.Rel x y d ∷ fact.Nzr z ∷ []) slot.Void ps c s q =
    let a = rel_then_nzr ps x y d z s in
    subst (λ l. Gives (quotient_by_error_rule nodes l slot.Void) c) (sym a.1)
    (improves_given (are_known nodes x y && is_same z y) (void_only (Some (quotient_fact x d)))
    (void_only (Some (quotient_fact x a.0)))
    (improves_void_only (Some (quotient_fact x d)) (Some (quotient_fact x a.0)) (improves_fact
    (quotient_fact x d) (quotient_fact x a.0) (quotient_fact-rises x d a.0 a.2))) c q)
quotient_by_error_rule-isotone nodes _ _ ps c s q = cc
