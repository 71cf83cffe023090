-- What rules give can be written as steps.
use Rattle.std.specs.Prelude.{◌≡◌, ◌&&◌, Bool, true, false, [], ◌∷◌, Option, Some, None}
use Rattle.std.specs.Prelude.{if◌then◌else◌, slice_get, refl, List}
use Rattle.std.proofs.Common.{◌∙◌, ap, arith}
use Rattle.std.proofs.lemmas.Bool.{and_parts, and_from}
use Rattle.fx_model.specs.Fraction.{zero_ℚ}
use Rattle.fx_model.specs.declared.ExprId.{ExprId}
use Rattle.fx_model.specs.declared.Node.TheVariants as node
use Rattle.fx_model.specs.declared.Node.{Node}
use Rattle.interval.specs.declared.interval.Interval.{Interval}
use Rattle.interval.specs.Intervals.{range_of}
use Rattle.interval.specs.Results.{sum_of, quotient_of, point_of, has_zero}
use Rattle.interval.specs.Members.{has_one}
use Rattle.expr_dag.specs.Shapes.{is_at, is_known, are_known}
use Rattle.expr_dag.proofs.Shapes.{is_at_out}
use Rattle.facts.specs.declared.relative.RelativeError.{RelativeError}
use Rattle.facts.specs.declared.fact.Fact.{Fact}
use Rattle.facts.specs.declared.fact.Fact.TheVariants as fact
use Rattle.facts.specs.declared.fact.Slot.TheVariants as slot
use Rattle.facts.specs.Order.{is_same}
use Rattle.facts.specs.Parts.{error_from, error_of_part}
use Rattle.facts.specs.RelativeConclusions.{rel_of, void_only}
use Rattle.facts.proofs.Conclusions.{given}
use Rattle.facts.proofs.CommonParts.{same_itself}
use Rattle.theorem_rel.specs.Values.{unit, relative_to_itself_rule, relative_difference_rule}
use Rattle.theorem_rel.specs.Values.{zero_or_void, difference_fact, difference_by_error_rule}
use Rattle.theorem_rel.specs.Values.{value_fact, value_by_error_rule, quotient_fact}
use Rattle.theorem_rel.specs.Values.{quotient_by_error_rule}
use Rattle.theorem_rel.specs.Operations.{joint, joint_fact, relative_product_rule}
use Rattle.theorem_rel.specs.Operations.{relative_chain_rule, over_one, ratio_fact}
use Rattle.theorem_rel.specs.Operations.{relative_quotient_rule, turned_fact, relative_turned_rule}
use Rattle.theorem_rel.specs.Operations.{relative_negation_rule, weighted, rel_or_void, sum_fact}
use Rattle.theorem_rel.specs.Operations.{is_share, relative_sum_rule}
use Rattle.tree_certificates.proofs.Fitting.{FitsSteps, only_never, given_never, only_given}
use Rattle.tree_certificates.proofs.Fitting.{given_both, both_known, children_known}

rel_never : (x y : ExprId) (o : Option RelativeError) → rel_of x y o ≡ Some fact.Void → ⊥
rel_never x y None q = cc
rel_never x y (Some e) q = cc

joint_never : (x y : ExprId) (i k : Option RelativeError) → joint_fact x y i k ≡ Some fact.Void → ⊥
joint_never x y (Some i) (Some k) q = rel_never x y (error_from (joint i.interval k.interval)) q
joint_never x y (Some i) None q = cc
joint_never x y None k q = cc

turned_never : (x y : ExprId) (i : Option RelativeError) → turned_fact x y i ≡ Some fact.Void → ⊥
turned_never x y None q = cc
turned_never x y (Some i) q = rel_never x y (error_of_part (over_one unit i)) q

pub relative_to_itself_rule-fits : FitsSteps relative_to_itself_rule
relative_to_itself_rule-fits nodes (fact.Bnd x i ∷ []) (slot.Rel y z) f o q = (
  omega arith,
  λ v. absurd (given_never (is_known nodes x && (is_same x y && is_same x z))
      (rel_of y z (error_from (point_of zero_ℚ)))
      (rel_never y z (error_from (point_of zero_ℚ))) (q ∙ ap Some v)),
)
relative_to_itself_rule-fits nodes _ _ f o q = cc

pub relative_difference_rule-fits : FitsSteps relative_difference_rule
relative_difference_rule-fits nodes (fact.Bnd p i ∷ fact.Bnd z j ∷ []) (slot.Rel x y) f o q = (
  omega arith,
  λ v. absurd (given_never (is_at nodes p (node.Sub x y) && is_same z y)
      (rel_of x y (error_of_part (quotient_of i j)))
      (rel_never x y (error_of_part (quotient_of i j))) (q ∙ ap Some v)),
)
relative_difference_rule-fits nodes _ _ f o q = cc

zero_void : (e x : ExprId) (j : Interval) → zero_or_void e j ≡ fact.Void
    → zero_or_void x j ≡ fact.Void
zero_void e x j q = by_test (has_zero (range_of j)) q
  where
    by_test : (b : Bool) → (if b then fact.Bnd e (point_of zero_ℚ) else fact.Void) ≡ fact.Void
        → (if b then fact.Bnd x (point_of zero_ℚ) else fact.Void) ≡ fact.Void
    by_test true q = cc
    by_test false q = refl

void_alone : (f : Fact) → f ≡ fact.Void → void_only (Some f) ≡ Some fact.Void
void_alone f q = rw q refl

difference_void : (e x : ExprId) (d : Option RelativeError) (j : Interval)
    → difference_fact e d j ≡ fact.Void → difference_fact x d j ≡ fact.Void
difference_void e x None j q = zero_void e x j q
difference_void e x (Some d) j q = cc

pub difference_by_error_rule-fits : FitsSteps difference_by_error_rule
difference_by_error_rule-fits nodes (fact.Rel x y d ∷ fact.Bnd z j ∷ []) (slot.Bnd e) f o q = (
  omega arith,
  λ v.
      let here = q ∙ ap Some v in
      let g = only_given (is_at nodes e (node.Sub x y) && is_same z y)
      (difference_fact e d j) here in
      let k = and_parts (is_at nodes e (node.Sub x y)) (is_same z y) g.0 in
      let b = children_known nodes e (node.Sub x y) o k.0 in
      given_both (are_known nodes x y && is_same z y) (void_only (Some (difference_fact x d j)))
      fact.Void (and_from (are_known nodes x y) (is_same z y) (both_known nodes x y b.0 b.1) k.1)
      (void_alone (difference_fact x d j) (difference_void e x d j g.1)),
)
difference_by_error_rule-fits nodes (fact.Rel x y d ∷ fact.Bnd z j ∷ []) slot.Void f o q =
    (omega arith, λ v. q ∙ ap Some v)
difference_by_error_rule-fits nodes _ _ f o q = cc

value_void : (e x : ExprId) (d : Option RelativeError) (j : Interval) → value_fact e d j ≡ fact.Void
    → value_fact x d j ≡ fact.Void
value_void e x None j q = zero_void e x j q
value_void e x (Some d) j q = cc

pub value_by_error_rule-fits : FitsSteps value_by_error_rule
value_by_error_rule-fits nodes (fact.Rel x y d ∷ fact.Bnd z j ∷ []) (slot.Bnd e) f o q = (
  omega arith,
  λ v.
      let here = q ∙ ap Some v in
      let g = only_given (are_known nodes x y && (is_same z y && is_same x e))
      (value_fact e d j) here in
      let k = and_parts (are_known nodes x y) (is_same z y && is_same x e) g.0 in
      let s = and_parts (is_same z y) (is_same x e) k.1 in
      given_both (are_known nodes x y && is_same z y)
      (void_only (Some (value_fact x d j))) fact.Void (and_from (are_known nodes x y)
      (is_same z y) k.0 s.0) (void_alone (value_fact x d j) (value_void e x d j g.1)),
)
value_by_error_rule-fits nodes (fact.Rel x y d ∷ fact.Bnd z j ∷ []) slot.Void f o q =
    (omega arith, λ v. q ∙ ap Some v)
value_by_error_rule-fits nodes _ _ f o q = cc

quotient_void : (e x : ExprId) (d : Option RelativeError) → quotient_fact e d ≡ fact.Void
    → quotient_fact x d ≡ fact.Void
quotient_void e x None q = refl
quotient_void e x (Some d) q = cc

pub quotient_by_error_rule-fits : FitsSteps quotient_by_error_rule
quotient_by_error_rule-fits nodes (fact.Rel x y d ∷ fact.Nzr z ∷ []) (slot.Bnd e) f o q = (
  omega arith,
  λ v.
      let here = q ∙ ap Some v in
      let g = only_given (is_at nodes e (node.Div x y) && is_same z y) (quotient_fact e d) here in
      let k = and_parts (is_at nodes e (node.Div x y)) (is_same z y) g.0 in
      let b = children_known nodes e (node.Div x y) o k.0 in
      given_both (are_known nodes x y && is_same z y) (void_only (Some (quotient_fact x d)))
      fact.Void (and_from (are_known nodes x y) (is_same z y) (both_known nodes x y b.0 b.1) k.1)
      (void_alone (quotient_fact x d) (quotient_void e x d g.1)),
)
quotient_by_error_rule-fits nodes (fact.Rel x y d ∷ fact.Nzr z ∷ []) slot.Void f o q =
    (omega arith, λ v. q ∙ ap Some v)
quotient_by_error_rule-fits nodes _ _ f o q = cc

pub relative_product_rule-fits : FitsSteps relative_product_rule
relative_product_rule-fits nodes (fact.Rel a c i ∷ fact.Rel b d k ∷ []) (slot.Rel x y) f o q = (
  omega arith,
  λ v. absurd (given_never (is_at nodes x (node.Mul a b) && is_at nodes y (node.Mul c d))
      (joint_fact x y i k) (joint_never x y i k) (q ∙ ap Some v)),
)
relative_product_rule-fits nodes _ _ f o q = cc

pub relative_chain_rule-fits : FitsSteps relative_chain_rule
relative_chain_rule-fits nodes (fact.Rel a b i ∷ fact.Rel m c k ∷ []) (slot.Rel x y) f o q = (
  omega arith,
  λ v. absurd (given_never ((are_known nodes a b && are_known nodes m c) && (is_same m b
      && (is_same a x && is_same c y))) (joint_fact x y i k) (joint_never x y i k) (q ∙ ap Some v)),
)
relative_chain_rule-fits nodes _ _ f o q = cc

ratio_void : (x y a c : ExprId) (i k : Option RelativeError) → ratio_fact x y i k ≡ Some fact.Void
    → void_only (ratio_fact a c i k) ≡ Some fact.Void
ratio_void x y a c i None q = refl
ratio_void x y a c None (Some k) q = cc
ratio_void x y a c (Some i) (Some k) q =
    absurd (rel_never x y (error_of_part (over_one (sum_of unit i.interval) k)) q)

pub relative_quotient_rule-fits : FitsSteps relative_quotient_rule
relative_quotient_rule-fits nodes (fact.Rel a c i ∷ fact.Rel b d k ∷ fact.Nzr z ∷ [])
    (slot.Rel x y) f o q = (
      omega arith,
      λ v.
          let here = q ∙ ap Some v in
          let g =
          given ((is_at nodes x (node.Div a b) && is_at nodes y (node.Div c d)) && is_same z d)
          (ratio_fact x y i k) fact.Void here in
          let s = and_parts (is_at nodes x (node.Div a b) && is_at nodes y (node.Div c d))
          (is_same z d) g.0 in
          let t = and_parts (is_at nodes x (node.Div a b)) (is_at nodes y (node.Div c d)) s.0 in
          let m = children_known nodes x (node.Div a b) o t.0 in
          let n = children_known nodes y (node.Div c d) o t.1 in
          given_both ((are_known nodes a c && are_known nodes b d) && is_same z d)
          (void_only (ratio_fact a c i k)) fact.Void
          (and_from (are_known nodes a c && are_known nodes b d) (is_same z d)
          (and_from (are_known nodes a c) (are_known nodes b d) (both_known nodes a c m.0 n.0)
          (both_known nodes b d m.1 n.1)) s.1)
          (ratio_void x y a c i k g.1),
    )
relative_quotient_rule-fits nodes (fact.Rel a c i ∷ fact.Rel b d k ∷ fact.Nzr z ∷ []) slot.Void f o
    q = (omega arith, λ v. q ∙ ap Some v)
relative_quotient_rule-fits nodes _ _ f o q = cc

pub relative_turned_rule-fits : FitsSteps relative_turned_rule
relative_turned_rule-fits nodes (fact.Rel x y i ∷ []) (slot.Rel z w) f o q = (
  omega arith,
  λ v. absurd (given_never (are_known nodes x y && (is_same y z && is_same x w)) (turned_fact z w i)
      (turned_never z w i) (q ∙ ap Some v)),
)
relative_turned_rule-fits nodes _ _ f o q = cc

pub relative_negation_rule-fits : FitsSteps relative_negation_rule
relative_negation_rule-fits nodes (fact.Rel a b i ∷ []) (slot.Rel x y) f o q = (
  omega arith,
  λ v. absurd (only_never (is_at nodes x (node.Neg a) && is_at nodes y (node.Neg b))
      (fact.Rel x y i) (λ w. cc) (q ∙ ap Some v)),
)
relative_negation_rule-fits nodes _ _ f o q = cc

rel_or_void_void : (b : Bool) (x y a c : ExprId) (e : RelativeError)
    → Some (rel_or_void b x y e) ≡ Some fact.Void
    → void_only (Some (rel_or_void b a c e)) ≡ Some fact.Void
rel_or_void_void true x y a c e q = cc
rel_or_void_void false x y a c e q = refl

sum_void : (x y a c : ExprId) (i k : Option RelativeError) (l : Interval)
    → sum_fact x y i k l ≡ Some fact.Void → void_only (sum_fact a c i k l) ≡ Some fact.Void
sum_void x y a c None None l q = refl
sum_void x y a c None (Some k) l q = rel_or_void_void (has_zero (range_of l)) x y a c k q
sum_void x y a c (Some i) None l q = rel_or_void_void (has_one (range_of l)) x y a c i q
sum_void x y a c (Some i) (Some k) l q =
    absurd (rel_never x y (error_from (weighted i.interval k.interval l)) q)

share_is : (nodes : List Node) (o : Option Node) (c d y : ExprId) → o ≡ Some (node.Div c y)
    → is_at nodes y (node.Add c d) ≡ true → is_share nodes o c d ≡ true
share_is nodes o c d y e q =
    rw e (and_from (is_same c c) (is_at nodes y (node.Add c d)) (same_itself c) q)

pub relative_sum_rule-fits : FitsSteps relative_sum_rule
relative_sum_rule-fits nodes (fact.Rel a c i ∷ fact.Rel b d k ∷ fact.Bnd q l ∷ [])
    (slot.Rel x y) f o e = (
      omega arith,
      λ v.
          let here = e ∙ ap Some v in
          let g = given ((is_at nodes x (node.Add a b) && is_at nodes y (node.Add c d))
          && is_at nodes q (node.Div c y)) (sum_fact x y i k l) fact.Void here in
          let s = and_parts (is_at nodes x (node.Add a b) && is_at nodes y (node.Add c d))
          (is_at nodes q (node.Div c y)) g.0 in
          let t = and_parts (is_at nodes x (node.Add a b)) (is_at nodes y (node.Add c d)) s.0 in
          let m = children_known nodes x (node.Add a b) o t.0 in
          let n = children_known nodes y (node.Add c d) o t.1 in
          given_both ((are_known nodes a c && are_known nodes b d)
          && is_share nodes (slice_get nodes q.0) c d) (void_only (sum_fact a c i k l)) fact.Void
          (and_from (are_known nodes a c && are_known nodes b d)
          (is_share nodes (slice_get nodes q.0) c d) (and_from (are_known nodes a c)
          (are_known nodes b d) (both_known nodes a c m.0 n.0) (both_known nodes b d m.1 n.1))
          (share_is nodes (slice_get nodes q.0) c d y (is_at_out nodes q (node.Div c y) s.1) t.1))
          (sum_void x y a c i k l g.1),
    )
relative_sum_rule-fits nodes (fact.Rel a c i ∷ fact.Rel b d k ∷ fact.Bnd q l ∷ []) slot.Void f o e =
    (omega arith, λ v. e ∙ ap Some v)
relative_sum_rule-fits nodes _ _ f o e = cc
