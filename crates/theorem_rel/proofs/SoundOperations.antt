-- The rules on relative errors of operations are sound: where the premises hold, the conclusion
-- does.
use Rattle.std.specs.Prelude.{◌≡◌, ◌≢◌, ◌&&◌, Bool, true, List, [], ◌∷◌, Option, Some, None}
use Rattle.std.specs.Prelude.{slice_get, refl}
use Rattle.std.proofs.Common.{sym, ap, subst, ◌∙◌, ⊎_elim}
use Rattle.std.proofs.lemmas.Bool.{and_parts}
use Rattle.fx_model.specs.Fraction.{Fraction, ◌+ℚ◌, ◌-ℚ◌, ◌*ℚ◌, ◌/ℚ◌, inverse_ℚ, neg_ℚ, zero_ℚ}
use Rattle.fx_model.specs.Fraction.{one_ℚ, zero-add, zero-mul, neg-mul, mul-inverse, neg_zero}
use Rattle.fx_model.proofs.Fraction.{add-zero, mul-zero}
use Rattle.fx_model.specs.Enclosure.{Lies, Sums, Differences, in_enclosure, product_holds}
use Rattle.fx_model.specs.Expression.{Assignment, IsOrdered, value, quotient}
use Rattle.fx_model.specs.declared.ExprId.{ExprId}
use Rattle.fx_model.specs.declared.Node.{Node}
use Rattle.fx_model.specs.declared.Node.TheVariants as node
use Rattle.grid_words.specs.Products.{quotient_holds}
use Rattle.interval.specs.declared.interval.Interval.{Interval}
use Rattle.interval.specs.Intervals.{range_of}
use Rattle.interval.specs.Results.{sum_of, sum_of-is, difference_of, difference_of-is, product_of}
use Rattle.interval.specs.Results.{product_of-is, quotient_of, quotient_of-is, has_zero}
use Rattle.interval.proofs.Members.{alone_lies, zero_test, one_test}
use Rattle.interval.specs.Members.{has_one}
use Rattle.expr_dag.specs.Shapes.{is_at, are_known}
use Rattle.expr_dag.proofs.Shapes.{node_at-value}
use Rattle.expr_dag.proofs.Operands.{at_value, lifted_in, lifted_one, quotient_in, quotient_out}
use Rattle.facts.specs.declared.relative.RelativeError.{RelativeError}
use Rattle.facts.specs.declared.fact.Fact.{Fact}
use Rattle.facts.specs.declared.fact.Fact.TheVariants as fact
use Rattle.facts.specs.declared.fact.Slot.TheVariants as slot
use Rattle.facts.specs.Holds.{Holds, AreZero, IsRelated, IsRelatedBy}
use Rattle.facts.specs.Order.{is_same}
use Rattle.facts.specs.Parts.{error_from, error_of_part}
use Rattle.facts.proofs.CommonParts.{at_option, if-some, expr_same}
use Rattle.facts.specs.Promises.{IsSound}
use Rattle.facts.proofs.Conclusions.{given}
use Rattle.facts.specs.RelativeConclusions.{void_only}
use Rattle.facts.proofs.RelativeConclusions.{no_void_rel}
use Rattle.facts.proofs.RelatedZeros.{first_nonzero, second_zero}
use Rattle.facts.proofs.Known.{HasValue, one_value, bnd_out, nzr_out, rel_out, rel_in}
use Rattle.theorem_rel.specs.Values.{unit}
use Rattle.theorem_rel.specs.Operations.{joint, joint_fact, relative_product_rule}
use Rattle.theorem_rel.specs.Operations.{relative_chain_rule, less_one, over_one, ratio_fact}
use Rattle.theorem_rel.specs.Operations.{relative_quotient_rule, turned_fact, relative_turned_rule}
use Rattle.theorem_rel.specs.Operations.{relative_negation_rule, weighted, rel_or_void, sum_fact}
use Rattle.theorem_rel.specs.Operations.{is_share, relative_sum_rule}
use Rattle.theorem_rel.proofs.Numbers.{product_errors, chain_errors, turned_error, ratio_errors}
use Rattle.theorem_rel.proofs.Numbers.{sum_errors}
use Rattle.theorem_rel.proofs.Related.{related_out, related_in}
use Rattle.theorem_rel.proofs.Members.{unit_plus, weighted_lies}
use Rattle.theorem_rel.proofs.GivenLaws.{rel_given, part_given}

-- ---- products and chains
joint_lies : (i k : Interval) (s t : Fraction) → Lies (range_of i) s → Lies (range_of k) t
    → Lies (range_of (joint i k)) ((s +ℚ t) +ℚ (s *ℚ t))
joint_lies i k s t l m = in_enclosure (Sums (range_of (sum_of i k)) (range_of (product_of i k)))
    (range_of (joint i k)) ((s +ℚ t) +ℚ (s *ℚ t)) (sum_of-is (sum_of i k) (product_of i k)) (
      s +ℚ t,
      s *ℚ t,
      in_enclosure (Sums (range_of i) (range_of k)) (range_of (sum_of i k)) (s +ℚ t)
          (sum_of-is i k) (s, t, l, m, refl),
      product_holds (range_of i) (range_of k)
          (range_of (product_of i k)) s t (product_of-is i k) l m,
      refl,
    )

-- what is needed of the values v and w of a conclusion, for related values p, r and q, u
record AreJoint (p r q u v w : Fraction) (i k : Option RelativeError) : Type 0 where
  errors : (s t : Fraction) → p ≡ r *ℚ (one_ℚ +ℚ s) → q ≡ u *ℚ (one_ℚ +ℚ t)
      → v ≡ w *ℚ (one_ℚ +ℚ ((s +ℚ t) +ℚ (s *ℚ t)))
  first : IsRelatedBy k q u → AreZero p r → AreZero v w
  second : IsRelatedBy i p r → AreZero q u → AreZero v w

zero_given : (nodes : List Node) (a : Assignment) (x y : ExprId) (f : Fact) (v w : Fraction)
    → HasValue nodes a x v → HasValue nodes a y w → AreZero v w
    → Some (fact.Rel x y None) ≡ Some f → Holds nodes a f
zero_given nodes a x y f v w m n z e = let t : fact.Rel x y None ≡ f = cc in subst (Holds nodes a) t
    (rel_in nodes a x y None v w (record { first = m; second = n; related = z }))

joint_given : (nodes : List Node) (a : Assignment) (x y : ExprId)
    (i k : Option RelativeError) (f : Fact) (p r q u v w : Fraction) → HasValue nodes a x v
    → HasValue nodes a y w → AreJoint p r q u v w i k → IsRelatedBy i p r → IsRelatedBy k q u
    → joint_fact x y i k ≡ Some f → Holds nodes a f
joint_given nodes a x y (Some i) (Some k) f p r q u v w m n j g h e =
    let s = related_out i.interval p r g in
    let t = related_out k.interval q u h in
    rel_given nodes a x y (joint i.interval k.interval) f v w ((s.0 +ℚ t.0) +ℚ (s.0 *ℚ t.0)) e m n
    (record {
      inside = joint_lies i.interval k.interval s.0 t.0 s.1.inside t.1.inside;
      is = j.errors s.0 t.0 s.1.is t.1.is;
    })
joint_given nodes a x y None k f p r q u v w m n j g h e =
    zero_given nodes a x y f v w m n (j.first h g) e
joint_given nodes a x y (Some i) None f p r q u v w m n j g h e =
    zero_given nodes a x y f v w m n (j.second g h) e

pub relative_product_rule-sound : IsSound relative_product_rule
relative_product_rule-sound nodes (fact.Rel l c i ∷ fact.Rel b d k ∷ [])
    (slot.Rel x y) f o q = λ a h.
    let t = given (is_at nodes x (node.Mul l b) && is_at nodes y (node.Mul c d))
    (joint_fact x y i k) f q in
    let n = and_parts (is_at nodes x (node.Mul l b)) (is_at nodes y (node.Mul c d)) t.0 in
    let r = rel_out nodes a l c i h.0 in
    let s = rel_out nodes a b d k h.1.0 in
    joint_given nodes a x y i k f r.0 r.1 s.0 s.1 (r.0 *ℚ s.0) (r.1 *ℚ s.1)
    (at_value nodes a x (node.Mul l b) o n.0
    ∙ lifted_in ◌*ℚ◌ (value nodes a l) (value nodes a b) r.0 s.0 r.2.first s.2.first)
    (at_value nodes a y (node.Mul c d) o n.1
    ∙ lifted_in ◌*ℚ◌ (value nodes a c) (value nodes a d) r.1 s.1 r.2.second s.2.second)
    (record {
      errors = λ e g m w. ap (λ z. z *ℚ s.0) m ∙ ap (λ z. (r.1 *ℚ (one_ℚ +ℚ e)) *ℚ z) w
          ∙ product_errors r.1 s.1 e g;
      first = λ _ z. (ap (λ v. v *ℚ s.0) z.0 ∙ zero-mul s.0, ap (λ v. v *ℚ s.1) z.1 ∙ zero-mul s.1);
      second =
          λ _ z. (ap (λ v. r.0 *ℚ v) z.0 ∙ mul-zero r.0, ap (λ v. r.1 *ℚ v) z.1 ∙ mul-zero r.1);
    }) r.2.related s.2.related t.1
relative_product_rule-sound nodes _ _ f o q = cc

-- a value that is 0 makes a related one 0
first_zero : (i : Option RelativeError) (v w : Fraction) → IsRelatedBy i v w
    → w ≡ zero_ℚ → v ≡ zero_ℚ
first_zero None v w r e = r.0
first_zero (Some i) v w r e = ⊎_elim (λ z. z.0) (λ s. absurd (s.0 e)) r

last_zero : (i : Option RelativeError) (v w : Fraction) → IsRelatedBy i v w
    → v ≡ zero_ℚ → w ≡ zero_ℚ
last_zero None v w r e = r.1
last_zero (Some i) v w r e = second_zero i v w r e

pub relative_chain_rule-sound : IsSound relative_chain_rule
relative_chain_rule-sound nodes (fact.Rel l b i ∷ fact.Rel m c k ∷ []) (slot.Rel x y) f o q = λ a h.
    let t = given ((are_known nodes l b && are_known nodes m c)
    && (is_same m b && (is_same l x && is_same c y))) (joint_fact x y i k) f q in
    let g = and_parts (is_same m b) (is_same l x && is_same c y)
    (and_parts (are_known nodes l b && are_known nodes m c) _ t.0).1 in
    let n = and_parts (is_same l x) (is_same c y) g.1 in
    let r = rel_out nodes a l b i h.0 in
    let s = rel_out nodes a m c k h.1.0 in
    let z : s.0 ≡ r.1 = one_value nodes a b s.0 r.1 (subst (λ u. HasValue nodes a u s.0)
    (expr_same m b g.0) s.2.first) r.2.second in
    joint_given nodes a x y i k f r.0 r.1 s.0 s.1 r.0 s.1
    (subst (λ u. HasValue nodes a u r.0) (expr_same l x n.0) r.2.first)
    (subst (λ u. HasValue nodes a u s.1) (expr_same c y n.1) s.2.second)
    (record {
      errors = λ e w u v. u ∙ ap (λ j. j *ℚ (one_ℚ +ℚ e)) (sym z ∙ v) ∙ chain_errors s.1 e w;
      first = λ u v. (v.0, last_zero k s.0 s.1 u (z ∙ v.1));
      second = λ u v. (first_zero i r.0 r.1 u (sym z ∙ v.0), v.1);
    }) r.2.related s.2.related t.1
relative_chain_rule-sound nodes _ _ f o q = cc

-- ---- quotients
-- u / v - 1, for u in I and v of 1 + K
over_lies : (i : Interval) (k : RelativeError) (w : Interval) (u t : Fraction)
    → over_one i k ≡ Some w → Lies (range_of i) u → Lies (range_of k.interval) t
    → ((one_ℚ +ℚ t) ≢ zero_ℚ) × Lies (range_of w) ((u /ℚ (one_ℚ +ℚ t)) -ℚ one_ℚ)
over_lies i k w u t e l m = at_option (quotient_of i (sum_of unit k.interval))
    (λ o. quotient_of i (sum_of unit k.interval) ≡ o → less_one o ≡ Some w
    → ((one_ℚ +ℚ t) ≢ zero_ℚ) × Lies (range_of w) ((u /ℚ (one_ℚ +ℚ t)) -ℚ one_ℚ))
    (λ _ _ n. cc)
    (λ q g _ n.
    let d = quotient_of-is i (sum_of unit k.interval) q g in
    let p : Lies (range_of (sum_of unit k.interval)) (one_ℚ +ℚ t) = unit_plus k.interval t m in
    let z : difference_of q unit ≡ w = cc in (
      (λ c. d.nonzero (subst (Lies (range_of (sum_of unit k.interval))) c p)),
      subst (λ j. Lies (range_of j) ((u /ℚ (one_ℚ +ℚ t)) -ℚ one_ℚ)) z
          (in_enclosure (Differences (range_of q) (range_of unit)) (range_of (difference_of q unit))
          ((u /ℚ (one_ℚ +ℚ t)) -ℚ one_ℚ) (difference_of-is q unit) (
            u /ℚ (one_ℚ +ℚ t),
            one_ℚ,
            quotient_holds (range_of i) (range_of (sum_of unit k.interval))
                (range_of q) u (one_ℚ +ℚ t) d l p,
            alone_lies one_ℚ,
            refl,
          )),
    )) refl e

-- for related p, r and q, u, where u isn't 0
ratio_given : (nodes : List Node) (a : Assignment) (x y : ExprId) (i k : Option RelativeError)
    (f : Fact) (p r q u : Fraction) → u ≢ zero_ℚ → (q ≢ zero_ℚ → HasValue nodes a x (p /ℚ q))
    → HasValue nodes a y (r /ℚ u) → IsRelatedBy i p r → IsRelatedBy k q u
    → ratio_fact x y i k ≡ Some f → Holds nodes a f
ratio_given nodes a x y i None f p r q u z m n g h e = absurd (z h.1)
ratio_given nodes a x y None (Some k) f p r q u z m n g h e =
    zero_given nodes a x y f (p /ℚ q) (r /ℚ u) (m (first_nonzero k q u h z)) n
    (ap (λ v. v /ℚ q) g.0 ∙ zero-mul (inverse_ℚ q), ap (λ v. v /ℚ u) g.1 ∙ zero-mul (inverse_ℚ u)) e
ratio_given nodes a x y (Some i) (Some k) f p r q u z m n g h e =
    let s = related_out i.interval p r g in
    let t = related_out k.interval q u h in
    part_given nodes a x y (over_one (sum_of unit i.interval) k) f (p /ℚ q) (r /ℚ u)
    (((one_ℚ +ℚ s.0) /ℚ (one_ℚ +ℚ t.0)) -ℚ one_ℚ) e (m (first_nonzero k q u h z)) n
    (λ w j. let l = over_lies (sum_of unit i.interval) k w (one_ℚ +ℚ s.0) t.0 j
    (unit_plus i.interval s.0 s.1.inside) t.1.inside in
    record {
      inside = l.1;
      is = ap (λ v. v /ℚ q) s.1.is ∙ ap (λ v. (r *ℚ (one_ℚ +ℚ s.0)) /ℚ v) t.1.is
          ∙ ratio_errors r u (one_ℚ +ℚ s.0) (one_ℚ +ℚ t.0) z l.0;
    })

no_ratio : (nodes : List Node) (a : Assignment) (x y : ExprId)
    (i k : Option RelativeError) (f : Fact) (q u : Fraction) → u ≢ zero_ℚ → IsRelatedBy k q u
    → void_only (ratio_fact x y i k) ≡ Some f → Holds nodes a f
no_ratio nodes a x y i None f q u z h e = absurd (z h.1)
no_ratio nodes a x y None (Some k) f q u z h e = cc
no_ratio nodes a x y (Some i) (Some k) f q u z h e =
    absurd (no_void_rel x y (error_of_part (over_one (sum_of unit i.interval) k)) f e)

pub relative_quotient_rule-sound : IsSound relative_quotient_rule
relative_quotient_rule-sound nodes (fact.Rel l c i ∷ fact.Rel b d k ∷ fact.Nzr z ∷ [])
    (slot.Rel x y) f o q = λ a h.
    let t = given ((is_at nodes x (node.Div l b) && is_at nodes y (node.Div c d)) && is_same z d)
    (ratio_fact x y i k) f q in
    let g = and_parts (is_at nodes x (node.Div l b) && is_at nodes y (node.Div c d))
    (is_same z d) t.0 in
    let n = and_parts (is_at nodes x (node.Div l b)) (is_at nodes y (node.Div c d)) g.0 in
    let r = rel_out nodes a l c i h.0 in
    let s = rel_out nodes a b d k h.1.0 in
    let w = nzr_out nodes a z h.1.1.0 in
    let e : w.0 ≡ s.1 = one_value nodes a d w.0 s.1 (subst (λ u. HasValue nodes a u w.0)
    (expr_same z d g.1) w.1) s.2.second in
    let m : s.1 ≢ zero_ℚ = subst (λ u. u ≢ zero_ℚ) e w.2 in
    ratio_given nodes a x y i k f r.0 r.1 s.0 s.1 m
    (λ j. at_value nodes a x (node.Div l b) o n.0
    ∙ quotient_in (value nodes a l) (value nodes a b) r.0 s.0 r.2.first s.2.first j)
    (at_value nodes a y (node.Div c d) o n.1 ∙ quotient_in (value nodes a c)
    (value nodes a d) r.1 s.1 r.2.second s.2.second m) r.2.related s.2.related t.1
relative_quotient_rule-sound nodes
    (fact.Rel l c i ∷ fact.Rel b d k ∷ fact.Nzr z ∷ []) slot.Void f o q = λ a h.
    let t = given ((are_known nodes l c && are_known nodes b d) && is_same z d)
    (void_only (ratio_fact l c i k)) f q in
    let g = and_parts (are_known nodes l c && are_known nodes b d) (is_same z d) t.0 in
    let s = rel_out nodes a b d k h.1.0 in
    let w = nzr_out nodes a z h.1.1.0 in
    let e : w.0 ≡ s.1 = one_value nodes a d w.0 s.1 (subst (λ u. HasValue nodes a u w.0)
    (expr_same z d g.1) w.1) s.2.second in
    no_ratio nodes a l c i k f s.0 s.1 (subst (λ u. u ≢ zero_ℚ) e w.2) s.2.related t.1
relative_quotient_rule-sound nodes _ _ f o q = cc

-- ---- the other way round
turned_given : (nodes : List Node) (a : Assignment) (x y : ExprId) (i : Option RelativeError)
    (f : Fact) (v w : Fraction) → HasValue nodes a x v → HasValue nodes a y w → IsRelatedBy i w v
    → turned_fact x y i ≡ Some f → Holds nodes a f
turned_given nodes a x y None f v w m n r e = zero_given nodes a x y f v w m n (r.1, r.0) e
turned_given nodes a x y (Some i) f v w m n r e =
    let t = related_out i.interval w v r in
    part_given nodes a x y (over_one unit i) f v w ((one_ℚ /ℚ (one_ℚ +ℚ t.0)) -ℚ one_ℚ) e m n
    (λ k j. let l = over_lies unit i k one_ℚ t.0 j (alone_lies one_ℚ) t.1.inside in
    record {
      inside = l.1;
      is = sym (ap (λ u. u *ℚ (one_ℚ +ℚ ((one_ℚ /ℚ (one_ℚ +ℚ t.0)) -ℚ one_ℚ))) t.1.is
          ∙ turned_error v (one_ℚ +ℚ t.0) l.0);
    })

pub relative_turned_rule-sound : IsSound relative_turned_rule
relative_turned_rule-sound nodes (fact.Rel x y i ∷ []) (slot.Rel z w) f o q = λ a h.
    let t = given (are_known nodes x y && (is_same y z && is_same x w)) (turned_fact z w i) f q in
    let n = and_parts (is_same y z) (is_same x w) (and_parts (are_known nodes x y) _ t.0).1 in
    let r = rel_out nodes a x y i h.0 in
    turned_given nodes a z w i f r.1 r.0 (subst (λ u. HasValue nodes a u r.1) (expr_same y z n.0)
    r.2.second) (subst (λ u. HasValue nodes a u r.0) (expr_same x w n.1) r.2.first) r.2.related t.1
relative_turned_rule-sound nodes _ _ f o q = cc

-- ---- negations
related_negations : (i : Option RelativeError) (v w : Fraction) → IsRelatedBy i v w
    → IsRelatedBy i (neg_ℚ v) (neg_ℚ w)
related_negations None v w r = (ap neg_ℚ r.0 ∙ neg_zero, ap neg_ℚ r.1 ∙ neg_zero)
related_negations (Some i) v w r = let t = related_out i.interval v w r in
    related_in i.interval (neg_ℚ v) (neg_ℚ w) t.0
    (record { inside = t.1.inside; is = ap neg_ℚ t.1.is ∙ sym (neg-mul w (one_ℚ +ℚ t.0)) })

pub relative_negation_rule-sound : IsSound relative_negation_rule
relative_negation_rule-sound nodes (fact.Rel l b i ∷ []) (slot.Rel x y) f o q = λ a h.
    let t = if-some (is_at nodes x (node.Neg l) && is_at nodes y (node.Neg b))
    (fact.Rel x y i) f q in
    let n = and_parts (is_at nodes x (node.Neg l)) (is_at nodes y (node.Neg b)) t.0 in
    let r = rel_out nodes a l b i h.0 in
    subst (Holds nodes a) t.1 (rel_in nodes a x y i (neg_ℚ r.0) (neg_ℚ r.1) (record {
      first =
          at_value nodes a x (node.Neg l) o n.0 ∙ lifted_one neg_ℚ (value nodes a l) r.0 r.2.first;
      second =
          at_value nodes a y (node.Neg b) o n.1 ∙ lifted_one neg_ℚ (value nodes a b) r.1 r.2.second;
      related = related_negations i r.0 r.1 r.2.related;
    }))
relative_negation_rule-sound nodes _ _ f o q = cc

-- ---- sums
-- the share of c in c + d
record IsShare (l : Interval) (c d : Fraction) : Type 0 where
  nonzero : (c +ℚ d) ≢ zero_ℚ
  lies : Lies (range_of l) (c /ℚ (c +ℚ d))

no_first : (l : Interval) (c d : Fraction) → IsShare l c d → c ≡ zero_ℚ
    → has_zero (range_of l) ≡ true
no_first l c d s e = zero_test l
    (subst (Lies (range_of l)) (ap (λ z. z /ℚ (c +ℚ d)) e ∙ zero-mul (inverse_ℚ (c +ℚ d))) s.lies)

no_second : (l : Interval) (c d : Fraction) → IsShare l c d → d ≡ zero_ℚ
    → has_one (range_of l) ≡ true
no_second l c d s e =
    let z : c +ℚ d ≡ c = ap (λ u. c +ℚ u) e ∙ add-zero c in
    one_test l (subst (Lies (range_of l))
    (ap (λ u. c /ℚ u) z ∙ mul-inverse c (subst (λ u. u ≢ zero_ℚ) z s.nonzero)) s.lies)

sum_given : (nodes : List Node) (a : Assignment) (x y : ExprId) (i k : Option RelativeError)
    (l : Interval) (f : Fact) (p r q u : Fraction) → HasValue nodes a x (p +ℚ q)
    → HasValue nodes a y (r +ℚ u) → IsShare l r u → IsRelatedBy i p r → IsRelatedBy k q u
    → sum_fact x y i k l ≡ Some f → Holds nodes a f
sum_given nodes a x y None None l f p r q u m n z g h e =
    absurd (z.nonzero (ap (λ v. v +ℚ u) g.1 ∙ zero-add u ∙ h.1))
sum_given nodes a x y None (Some k) l f p r q u m n z g h e =
    let t : fact.Rel x y (Some k) ≡ f = let d : Some (rel_or_void true x y k) ≡ Some f =
    subst (λ (b : Bool). Some (rel_or_void b x y k) ≡ Some f) (no_first l r u z g.1) e in cc in
    subst (Holds nodes a) t (rel_in nodes a x y (Some k) (p +ℚ q) (r +ℚ u) (record {
      first = m;
      second = n;
      related =
          subst (λ v. IsRelated k.interval v (r +ℚ u)) (sym (ap (λ v. v +ℚ q) g.0 ∙ zero-add q))
          (subst (IsRelated k.interval q) (sym (ap (λ v. v +ℚ u) g.1 ∙ zero-add u)) h);
    }))
sum_given nodes a x y (Some i) None l f p r q u m n z g h e =
    let t : fact.Rel x y (Some i) ≡ f = let d : Some (rel_or_void true x y i) ≡ Some f =
    subst (λ (b : Bool). Some (rel_or_void b x y i) ≡ Some f) (no_second l r u z h.1) e in cc in
    subst (Holds nodes a) t (rel_in nodes a x y (Some i) (p +ℚ q) (r +ℚ u) (record {
      first = m;
      second = n;
      related =
          subst (λ v. IsRelated i.interval v (r +ℚ u)) (sym (ap (λ v. p +ℚ v) h.0 ∙ add-zero p))
          (subst (IsRelated i.interval p) (sym (ap (λ v. r +ℚ v) h.1 ∙ add-zero r)) g);
    }))
sum_given nodes a x y (Some i) (Some k) l f p r q u m n z g h e =
    let s = related_out i.interval p r g in
    let t = related_out k.interval q u h in
    let w : Fraction = r /ℚ (r +ℚ u) in
    rel_given nodes a x y (weighted i.interval k.interval l) f (p +ℚ q) (r +ℚ u)
    ((s.0 *ℚ w) +ℚ (t.0 *ℚ (one_ℚ -ℚ w))) e m n (record {
      inside = weighted_lies i.interval k.interval l s.0 t.0 w s.1.inside t.1.inside z.lies;
      is = ap (λ v. v +ℚ q) s.1.is ∙ ap (λ v. (r *ℚ (one_ℚ +ℚ s.0)) +ℚ v) t.1.is
          ∙ sum_errors r u s.0 t.0 z.nonzero;
    })

no_sum : (nodes : List Node) (a : Assignment) (x y : ExprId) (i k : Option RelativeError)
    (l : Interval) (f : Fact) (p r q u : Fraction) → IsShare l r u → IsRelatedBy i p r
    → IsRelatedBy k q u → void_only (sum_fact x y i k l) ≡ Some f → Holds nodes a f
no_sum nodes a x y None None l f p r q u z g h e =
    absurd (z.nonzero (ap (λ v. v +ℚ u) g.1 ∙ zero-add u ∙ h.1))
no_sum nodes a x y None (Some k) l f p r q u z g h e =
    let d : void_only (Some (rel_or_void true x y k)) ≡ Some f = subst
    (λ (b : Bool). void_only (Some (rel_or_void b x y k)) ≡ Some f) (no_first l r u z g.1) e in cc
no_sum nodes a x y (Some i) None l f p r q u z g h e =
    let d : void_only (Some (rel_or_void true x y i)) ≡ Some f = subst
    (λ (b : Bool). void_only (Some (rel_or_void b x y i)) ≡ Some f) (no_second l r u z h.1) e in cc
no_sum nodes a x y (Some i) (Some k) l f p r q u z g h e =
    absurd (no_void_rel x y (error_from (weighted i.interval k.interval l)) f e)

-- a quotient of c by c + d that has a value in L
share_out : (nodes : List Node) (a : Assignment) (q c y : ExprId) (l : Interval) (r u : Fraction)
    → value nodes a q ≡ quotient (value nodes a c) (value nodes a y) → HasValue nodes a c r
    → HasValue nodes a y (r +ℚ u) → Holds nodes a (fact.Bnd q l) → IsShare l r u
share_out nodes a q c y l r u e m n h =
    let v = bnd_out nodes a q l h in
    let d = quotient_out (value nodes a c) (value nodes a y) r (r +ℚ u) v.0 m n (sym e ∙ v.1) in
    record { nonzero = d.0; lies = subst (Lies (range_of l)) d.1 v.2 }

pub relative_sum_rule-sound : IsSound relative_sum_rule
relative_sum_rule-sound nodes (fact.Rel b c i ∷ fact.Rel g d k ∷ fact.Bnd q l ∷ [])
    (slot.Rel x y) f o e = λ a h.
    let t = given ((is_at nodes x (node.Add b g) && is_at nodes y (node.Add c d))
    && is_at nodes q (node.Div c y)) (sum_fact x y i k l) f e in
    let m = and_parts (is_at nodes x (node.Add b g) && is_at nodes y (node.Add c d))
    (is_at nodes q (node.Div c y)) t.0 in
    let n = and_parts (is_at nodes x (node.Add b g)) (is_at nodes y (node.Add c d)) m.0 in
    let r = rel_out nodes a b c i h.0 in
    let s = rel_out nodes a g d k h.1.0 in
    let w : HasValue nodes a y (r.1 +ℚ s.1) = at_value nodes a y (node.Add c d) o n.1
    ∙ lifted_in ◌+ℚ◌ (value nodes a c) (value nodes a d) r.1 s.1 r.2.second s.2.second in
    sum_given nodes a x y i k l f r.0 r.1 s.0 s.1
    (at_value nodes a x (node.Add b g) o n.0
    ∙ lifted_in ◌+ℚ◌ (value nodes a b) (value nodes a g) r.0 s.0 r.2.first s.2.first) w
    (share_out nodes a q c y l r.1 s.1
    (at_value nodes a q (node.Div c y) o m.1) r.2.second w h.1.1.0) r.2.related s.2.related t.1
relative_sum_rule-sound nodes
    (fact.Rel b c i ∷ fact.Rel g d k ∷ fact.Bnd q l ∷ []) slot.Void f o e = λ a h.
    let t = given ((are_known nodes b c && are_known nodes g d)
    && is_share nodes (slice_get nodes q.0) c d) (void_only (sum_fact b c i k l)) f e in
    let m = and_parts (are_known nodes b c && are_known nodes g d)
    (is_share nodes (slice_get nodes q.0) c d) t.0 in
    let r = rel_out nodes a b c i h.0 in
    let s = rel_out nodes a g d k h.1.0 in
    no_sum nodes a b c i k l f r.0 r.1 s.0 s.1 (share_at nodes a q c d l r.1 s.1
    (slice_get nodes q.0) o refl m.1 r.2.second s.2.second h.1.1.0) r.2.related s.2.related t.1
  where
    share_at : (nodes : List Node) (a : Assignment) (q c d : ExprId) (l : Interval) (r u : Fraction)
        (n : Option Node) → IsOrdered nodes → slice_get nodes q.0 ≡ n → is_share nodes n c d ≡ true
        → HasValue nodes a c r → HasValue nodes a d u → Holds nodes a (fact.Bnd q l) → IsShare l r u
    share_at nodes a q c d l r u (Some (node.Div w m)) o e t p z h =
        let b = and_parts (is_same w c) (is_at nodes m (node.Add c d)) t in
        share_out nodes a q c m l r u (node_at-value nodes a q (node.Div w m) o e
        ∙ ap (λ v. quotient (value nodes a v) (value nodes a m)) (expr_same w c b.0)) p
        (at_value nodes a m (node.Add c d) o b.1
        ∙ lifted_in ◌+ℚ◌ (value nodes a c) (value nodes a d) r u p z) h
    share_at nodes a q c d l r u _ o e t p z h = cc
relative_sum_rule-sound nodes _ _ f o e = cc
