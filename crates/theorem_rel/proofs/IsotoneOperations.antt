-- The rules on relative errors of operations: from stronger premises they give a fact as strong, or
-- stronger.
use Rattle.std.specs.Prelude.{◌≡◌, ◌&&◌, Bool, true, false, [], ◌∷◌, Option, Some, None, slice_get}
use Rattle.std.specs.Prelude.{refl}
use Rattle.std.proofs.Common.{sym, ap, subst, ◌∙◌}
use Rattle.fx_model.specs.Fraction.{Fraction, ◌+ℚ◌, ◌-ℚ◌, ◌*ℚ◌, zero_ℚ, one_ℚ, zero-add, add-neg}
use Rattle.fx_model.specs.Fraction.{neg_zero}
use Rattle.fx_model.proofs.Fraction.{add-zero, mul-one, mul-zero}
use Rattle.fx_model.specs.Enclosure.{Lies}
use Rattle.fx_model.specs.declared.ExprId.{ExprId}
use Rattle.fx_model.specs.declared.Node.TheVariants as node
use Rattle.interval.specs.declared.interval.Interval.{Interval}
use Rattle.interval.specs.Intervals.{range_of}
use Rattle.interval.specs.Results.{sum_of, difference_of, product_of, quotient_of, has_zero}
use Rattle.interval.proofs.Monotone.{sum_of-within, difference_of-within, product_of-within}
use Rattle.interval.proofs.Monotone.{quotient_of-within}
use Rattle.interval.proofs.Members.{zero_test, zero_found, grown, some_member, within_by_members}
use Rattle.interval.proofs.Members.{one_test, one_found}
use Rattle.interval.specs.Members.{has_one}
use Rattle.expr_dag.specs.Shapes.{is_at, are_known}
use Rattle.facts.specs.declared.relative.RelativeError.{RelativeError}
use Rattle.facts.specs.declared.fact.Fact.{Fact}
use Rattle.facts.specs.declared.fact.Fact.TheVariants as fact
use Rattle.facts.specs.declared.fact.Slot.TheVariants as slot
use Rattle.facts.specs.Order.{IsWithin, IsWithinError, IsStronger, is_same}
use Rattle.facts.specs.Parts.{error_from, error_from_out, error_of_part}
use Rattle.facts.proofs.CommonParts.{at_option}
use Rattle.facts.proofs.Laws.{IsStronger-refl, IsWithin-refl}
use Rattle.facts.specs.Promises.{IsIsotone}
use Rattle.facts.specs.Premises.{Gives}
use Rattle.facts.proofs.Conclusions.{Improves, improves_given, improves_only}
use Rattle.facts.specs.RelativeConclusions.{rel_of, void_only}
use Rattle.facts.proofs.RelativeConclusions.{improves_error, improves_part, improves_void}
use Rattle.facts.proofs.RelativeConclusions.{improves_fact, improves_to_none, improves_to}
use Rattle.facts.proofs.RelativeConclusions.{improves_void_only}
use Rattle.facts.proofs.RelativePremises.{one_rel, two_rel, two_rel_then_nzr, two_rel_then_bnd}
use Rattle.theorem_rel.specs.Values.{unit}
use Rattle.theorem_rel.specs.Operations.{joint, joint_fact, relative_product_rule}
use Rattle.theorem_rel.specs.Operations.{relative_chain_rule, less_one, over_one, ratio_fact}
use Rattle.theorem_rel.specs.Operations.{relative_quotient_rule, turned_fact, relative_turned_rule}
use Rattle.theorem_rel.specs.Operations.{relative_negation_rule, weighted, rel_or_void, sum_fact}
use Rattle.theorem_rel.specs.Operations.{is_share, relative_sum_rule}
use Rattle.theorem_rel.proofs.Members.{weighted_lies}

-- ---- products and chains
joint-within : (i k j l : Interval) → IsWithin i j → IsWithin k l → IsWithin (joint i k) (joint j l)
joint-within i k j l v w = sum_of-within (sum_of i k) (product_of i k) (sum_of j l) (product_of j l)
    (sum_of-within i k j l v w) (product_of-within i k j l v w)

-- that both are 0 improves itself
none_again : (x y : ExprId) → Improves (Some (fact.Rel x y None)) (Some (fact.Rel x y None))
none_again x y =
    improves_fact (fact.Rel x y None) (fact.Rel x y None) (IsStronger-refl (fact.Rel x y None))

joint_fact-improves : (x y : ExprId) (i k j l : Option RelativeError) → IsWithinError j i
    → IsWithinError l k → Improves (joint_fact x y i k) (joint_fact x y j l)
joint_fact-improves x y (Some i) (Some k) (Some j) (Some l) v w =
    improves_error x y (joint i.interval k.interval) (joint j.interval l.interval)
    (joint-within j.interval l.interval i.interval k.interval v w)
joint_fact-improves x y (Some i) (Some k) (Some j) None v w =
    improves_to_none x y (error_from (joint i.interval k.interval))
joint_fact-improves x y (Some i) (Some k) None l v w =
    improves_to_none x y (error_from (joint i.interval k.interval))
joint_fact-improves x y (Some i) None (Some j) None v w = none_again x y
joint_fact-improves x y (Some i) None None None v w = none_again x y
joint_fact-improves x y (Some i) None j (Some l) v w = absurd w
joint_fact-improves x y None k None l v w = none_again x y
joint_fact-improves x y None k (Some j) l v w = absurd v

pub relative_product_rule-isotone : IsIsotone relative_product_rule
relative_product_rule-isotone nodes (fact.Rel a c i ∷ fact.Rel b d k ∷ []) (slot.Rel x y) ps r s q =
    let p = two_rel ps a c i b d k s in
    subst (λ l. Gives (relative_product_rule nodes l (slot.Rel x y)) r) (sym p.2)
    (improves_given (is_at nodes x (node.Mul a b) && is_at nodes y (node.Mul c d))
    (joint_fact x y i k) (joint_fact x y p.0 p.1) (joint_fact-improves x y i k p.0 p.1 p.3 p.4) r q)
relative_product_rule-isotone nodes _ _ ps r s q = cc

pub relative_chain_rule-isotone : IsIsotone relative_chain_rule
relative_chain_rule-isotone nodes (fact.Rel a b i ∷ fact.Rel m c k ∷ []) (slot.Rel x y) ps r s q =
    let p = two_rel ps a b i m c k s in
    subst (λ l. Gives (relative_chain_rule nodes l (slot.Rel x y)) r) (sym p.2)
    (improves_given ((are_known nodes a b && are_known nodes m c)
    && (is_same m b && (is_same a x && is_same c y))) (joint_fact x y i k) (joint_fact x y p.0 p.1)
    (joint_fact-improves x y i k p.0 p.1 p.3 p.4) r q)
relative_chain_rule-isotone nodes _ _ ps r s q = cc

-- ---- quotients
over_one-within : (i j : Interval) (k l : RelativeError) (w : Interval)
    → IsWithin j i → IsWithin l.interval k.interval → over_one i k ≡ Some w
    → (v : Interval) × (over_one j l ≡ Some v) × IsWithin v w
over_one-within i j k l w p r e = at_option (quotient_of i (sum_of unit k.interval))
    (λ o. quotient_of i (sum_of unit k.interval) ≡ o → less_one o ≡ Some w
    → (v : Interval) × (over_one j l ≡ Some v) × IsWithin v w)
    (λ _ _ n. cc)
    (λ q g _ n.
    let d = quotient_of-within j (sum_of unit l.interval) i (sum_of unit k.interval) q p
    (sum_of-within unit l.interval unit k.interval (IsWithin-refl unit) r) g in
    let z : difference_of q unit ≡ w = cc in (
      difference_of d.0 unit,
      ap less_one d.1,
      subst (IsWithin (difference_of d.0 unit)) z
          (difference_of-within d.0 unit q unit d.2 (IsWithin-refl unit)),
    )) refl e

ratio_fact-improves : (x y : ExprId) (i k j l : Option RelativeError) → IsWithinError j i
    → IsWithinError l k → Improves (ratio_fact x y i k) (ratio_fact x y j l)
ratio_fact-improves x y i k j None v w = improves_void (ratio_fact x y i k)
ratio_fact-improves x y i None j (Some l) v w = absurd w
ratio_fact-improves x y None (Some k) None (Some l) v w = none_again x y
ratio_fact-improves x y None (Some k) (Some j) (Some l) v w = absurd v
ratio_fact-improves x y (Some i) (Some k) None (Some l) v w =
    improves_to_none x y (error_of_part (over_one (sum_of unit i.interval) k))
ratio_fact-improves x y (Some i) (Some k) (Some j) (Some l) v w =
    improves_part x y (over_one (sum_of unit i.interval) k) (over_one (sum_of unit j.interval) l)
    (λ u e. over_one-within (sum_of unit i.interval) (sum_of unit j.interval) k l u
    (sum_of-within unit j.interval unit i.interval (IsWithin-refl unit) v) w e)

pub relative_quotient_rule-isotone : IsIsotone relative_quotient_rule
relative_quotient_rule-isotone nodes (fact.Rel a c i ∷ fact.Rel b d k ∷ fact.Nzr z ∷ [])
    (slot.Rel x y) ps r s q =
    let p = two_rel_then_nzr ps a c i b d k z s in
    subst (λ l. Gives (relative_quotient_rule nodes l (slot.Rel x y)) r) (sym p.2)
    (improves_given ((is_at nodes x (node.Div a b) && is_at nodes y (node.Div c d)) && is_same z d)
    (ratio_fact x y i k) (ratio_fact x y p.0 p.1) (ratio_fact-improves x y i k p.0 p.1 p.3 p.4) r q)
relative_quotient_rule-isotone nodes
    (fact.Rel a c i ∷ fact.Rel b d k ∷ fact.Nzr z ∷ []) slot.Void ps r s q =
    let p = two_rel_then_nzr ps a c i b d k z s in
    subst (λ l. Gives (relative_quotient_rule nodes l slot.Void) r) (sym p.2)
    (improves_given ((are_known nodes a c && are_known nodes b d) && is_same z d)
    (void_only (ratio_fact a c i k)) (void_only (ratio_fact a c p.0 p.1))
    (improves_void_only (ratio_fact a c i k) (ratio_fact a c p.0 p.1)
    (ratio_fact-improves a c i k p.0 p.1 p.3 p.4)) r q)
relative_quotient_rule-isotone nodes _ _ ps r s q = cc

turned_fact-improves : (x y : ExprId) (i j : Option RelativeError) → IsWithinError j i
    → Improves (turned_fact x y i) (turned_fact x y j)
turned_fact-improves x y None None v = none_again x y
turned_fact-improves x y None (Some j) v = absurd v
turned_fact-improves x y (Some i) None v = improves_to_none x y (error_of_part (over_one unit i))
turned_fact-improves x y (Some i) (Some j) v = improves_part x y (over_one unit i) (over_one unit j)
    (λ u e. over_one-within unit unit i j u (IsWithin-refl unit) v e)

pub relative_turned_rule-isotone : IsIsotone relative_turned_rule
relative_turned_rule-isotone nodes (fact.Rel x y i ∷ []) (slot.Rel z w) ps r s q =
    let p = one_rel ps x y i s in
    subst (λ l. Gives (relative_turned_rule nodes l (slot.Rel z w)) r) (sym p.1)
    (improves_given (are_known nodes x y && (is_same y z && is_same x w)) (turned_fact z w i)
    (turned_fact z w p.0) (turned_fact-improves z w i p.0 p.2) r q)
relative_turned_rule-isotone nodes _ _ ps r s q = cc

-- ---- negations
pub relative_negation_rule-isotone : IsIsotone relative_negation_rule
relative_negation_rule-isotone nodes (fact.Rel a b i ∷ []) (slot.Rel x y) ps r s q =
    let p = one_rel ps a b i s in
    subst (λ l. Gives (relative_negation_rule nodes l (slot.Rel x y)) r) (sym p.1)
    (improves_only (is_at nodes x (node.Neg a) && is_at nodes y (node.Neg b)) (fact.Rel x y i)
    (fact.Rel x y p.0) (refl, refl, p.2) r q)
relative_negation_rule-isotone nodes _ _ ps r s q = cc

-- ---- sums
weighted-within : (i k l j m n : Interval) → IsWithin i j → IsWithin k m → IsWithin l n
    → IsWithin (weighted i k l) (weighted j m n)
weighted-within i k l j m n u v w = sum_of-within (product_of i l)
    (product_of k (difference_of unit l)) (product_of j n) (product_of m (difference_of unit n))
    (product_of-within i l j n u w) (product_of-within k (difference_of unit l) m
    (difference_of unit n) v (difference_of-within unit l unit n (IsWithin-refl unit) w))

-- with no share of the first the error is that of the second
second_alone : (s t : Fraction) → (s *ℚ zero_ℚ) +ℚ (t *ℚ (one_ℚ -ℚ zero_ℚ)) ≡ t
second_alone s t =
    ap (λ u. u +ℚ (t *ℚ (one_ℚ -ℚ zero_ℚ))) (mul-zero s) ∙ zero-add (t *ℚ (one_ℚ -ℚ zero_ℚ))
    ∙ ap (λ u. t *ℚ (one_ℚ +ℚ u)) neg_zero ∙ ap (λ u. t *ℚ u) (add-zero one_ℚ) ∙ mul-one t

first_alone : (s t : Fraction) → (s *ℚ one_ℚ) +ℚ (t *ℚ (one_ℚ -ℚ one_ℚ)) ≡ s
first_alone s t = ap (λ u. u +ℚ (t *ℚ (one_ℚ -ℚ one_ℚ))) (mul-one s)
    ∙ ap (λ u. s +ℚ u) (ap (λ u. t *ℚ u) (add-neg one_ℚ) ∙ mul-zero t) ∙ add-zero s

second_within : (i k l m : Interval) → Lies (range_of l) zero_ℚ → IsWithin m k
    → IsWithin m (weighted i k l)
second_within i k l m z w = let s = some_member i in within_by_members m (weighted i k l) (λ t h.
    subst (Lies (range_of (weighted i k l))) (second_alone s.0 t)
    (weighted_lies i k l s.0 t zero_ℚ s.1 (grown m k t w h) z))

first_within : (i k l m : Interval) → Lies (range_of l) one_ℚ → IsWithin m i
    → IsWithin m (weighted i k l)
first_within i k l m z w = let t = some_member k in within_by_members m (weighted i k l) (λ s h.
    subst (Lies (range_of (weighted i k l))) (first_alone s t.0)
    (weighted_lies i k l s t.0 one_ℚ (grown m i s w h) t.1 z))

-- a REL fact or VOID is as strong as what it is where the test holds
rel_or_void-strong : (b : Bool) (x y : ExprId) (e : RelativeError) (g : Fact)
    → (b ≡ true → IsStronger (fact.Rel x y (Some e)) g) → IsStronger (rel_or_void b x y e) g
rel_or_void-strong true x y e g h = h refl
rel_or_void-strong false x y e g h = tt

-- where a test holds for the smaller interval, it does for the greater
rel_or_void-rises : (b d : Bool) (x y : ExprId) (e g : RelativeError) → (b ≡ true → d ≡ true)
    → IsWithin e.interval g.interval → IsStronger (rel_or_void b x y e) (rel_or_void d x y g)
rel_or_void-rises b d x y e g h w = rel_or_void-strong b x y e (rel_or_void d x y g)
    (λ t. subst (λ (c : Bool). IsStronger (fact.Rel x y (Some e)) (rel_or_void c x y g))
    (sym (h t)) (refl, refl, w))

improves_weighted : (x y : ExprId) (i k l : Interval) (b : Bool) (m : RelativeError)
    → (b ≡ true → IsWithin m.interval (weighted i k l))
    → Improves (rel_of x y (error_from (weighted i k l))) (Some (rel_or_void b x y m))
improves_weighted x y i k l b m h =
    improves_to x y (error_from (weighted i k l)) (rel_or_void b x y m) (λ e q.
    rel_or_void-strong b x y m (fact.Rel x y (Some e)) (λ t.
    (refl, refl, subst (IsWithin m.interval) (sym (error_from_out (weighted i k l) e q)) (h t))))

sum_fact-improves : (x y : ExprId) (i k j m : Option RelativeError) (l n : Interval)
    → IsWithinError j i → IsWithinError m k → IsWithin n l
    → Improves (sum_fact x y i k l) (sum_fact x y j m n)
sum_fact-improves x y i k None None l n u v w = improves_void (sum_fact x y i k l)
sum_fact-improves x y (Some i) (Some k) (Some j) (Some m) l n u v w =
    improves_error x y (weighted i.interval k.interval l) (weighted j.interval m.interval n)
    (weighted-within j.interval m.interval n i.interval k.interval l u v w)
sum_fact-improves x y (Some i) (Some k) None (Some m) l n u v w =
    improves_weighted x y i.interval k.interval l (has_zero (range_of n)) m
    (λ t. second_within i.interval k.interval l m.interval (grown n l zero_ℚ w (zero_found n t)) v)
sum_fact-improves x y (Some i) (Some k) (Some j) None l n u v w =
    improves_weighted x y i.interval k.interval l (has_one (range_of n)) j
    (λ t. first_within i.interval k.interval l j.interval (grown n l one_ℚ w (one_found n t)) u)
sum_fact-improves x y None (Some k) None (Some m) l n u v w = improves_fact
    (rel_or_void (has_zero (range_of l)) x y k) (rel_or_void (has_zero (range_of n)) x y m)
    (rel_or_void-rises (has_zero (range_of n))
    (has_zero (range_of l)) x y m k (λ t. zero_test l (grown n l zero_ℚ w (zero_found n t))) v)
sum_fact-improves x y (Some i) None (Some j) None l n u v w = improves_fact
    (rel_or_void (has_one (range_of l)) x y i) (rel_or_void (has_one (range_of n)) x y j)
    (rel_or_void-rises (has_one (range_of n))
    (has_one (range_of l)) x y j i (λ t. one_test l (grown n l one_ℚ w (one_found n t))) u)
sum_fact-improves x y None k (Some j) m l n u v w = absurd u
sum_fact-improves x y i None j (Some m) l n u v w = absurd v

pub relative_sum_rule-isotone : IsIsotone relative_sum_rule
relative_sum_rule-isotone nodes (fact.Rel a c i ∷ fact.Rel b d k ∷ fact.Bnd z l ∷ [])
    (slot.Rel x y) ps r s q =
    let p = two_rel_then_bnd ps a c i b d k z l s in
    subst (λ l. Gives (relative_sum_rule nodes l (slot.Rel x y)) r) (sym p.3)
    (improves_given ((is_at nodes x (node.Add a b) && is_at nodes y (node.Add c d))
    && is_at nodes z (node.Div c y)) (sum_fact x y i k l) (sum_fact x y p.0 p.1 p.2)
    (sum_fact-improves x y i k p.0 p.1 l p.2 p.4 p.5 p.6) r q)
relative_sum_rule-isotone nodes
    (fact.Rel a c i ∷ fact.Rel b d k ∷ fact.Bnd z l ∷ []) slot.Void ps r s q =
    let p = two_rel_then_bnd ps a c i b d k z l s in
    subst (λ l. Gives (relative_sum_rule nodes l slot.Void) r) (sym p.3)
    (improves_given ((are_known nodes a c && are_known nodes b d)
    && is_share nodes (slice_get nodes z.0) c d) (void_only (sum_fact a c i k l))
    (void_only (sum_fact a c p.0 p.1 p.2))
    (improves_void_only (sum_fact a c i k l) (sum_fact a c p.0 p.1 p.2)
    (sum_fact-improves a c i k p.0 p.1 l p.2 p.4 p.5 p.6)) r q)
relative_sum_rule-isotone nodes _ _ ps r s q = cc
