-- The rules from bounds to relative errors and back are sound: where the premises hold, the
-- conclusion does.
use Rattle.std.specs.Prelude.{◌≡◌, ◌≢◌, ◌&&◌, Bool, List, [], ◌∷◌, Option, Some, None}
use Rattle.std.specs.Prelude.{if◌then◌else◌}
use Rattle.std.proofs.Common.{sym, ap, subst, ◌∙◌}
use Rattle.std.proofs.lemmas.Bool.{and_parts}
use Rattle.fx_model.specs.Fraction.{Fraction, ◌+ℚ◌, ◌-ℚ◌, ◌*ℚ◌, ◌/ℚ◌, zero_ℚ, one_ℚ, mul_comm}
use Rattle.fx_model.specs.Fraction.{add-neg}
use Rattle.fx_model.proofs.Fraction.{add-zero, mul-one}
use Rattle.fx_model.specs.Enclosure.{Lies, product_holds}
use Rattle.fx_model.specs.Expression.{Assignment, value}
use Rattle.fx_model.specs.declared.ExprId.{ExprId}
use Rattle.fx_model.specs.declared.Node.{Node}
use Rattle.fx_model.specs.declared.Node.TheVariants as node
use Rattle.grid_words.specs.Products.{quotient_holds}
use Rattle.grid_words.proofs.FractionLaws.{mul-div}
use Rattle.interval.specs.declared.interval.Interval.{Interval}
use Rattle.interval.specs.Intervals.{range_of}
use Rattle.interval.specs.Results.{sum_of, product_of, product_of-is, quotient_of, quotient_of-is}
use Rattle.interval.specs.Results.{point_of}
use Rattle.interval.proofs.Members.{alone_lies, zero_test}
use Rattle.expr_dag.specs.Shapes.{is_at, is_known, are_known}
use Rattle.expr_dag.proofs.Operands.{at_value, lifted_out, lifted_in, quotient_in}
use Rattle.facts.specs.declared.relative.RelativeError.{RelativeError}
use Rattle.facts.specs.declared.fact.Fact.{Fact}
use Rattle.facts.specs.declared.fact.Fact.TheVariants as fact
use Rattle.facts.specs.declared.fact.Slot.TheVariants as slot
use Rattle.facts.specs.Holds.{Holds, AreZero, IsRelatedBy}
use Rattle.facts.specs.Order.{is_same}
use Rattle.facts.specs.Parts.{error_from, error_of_part}
use Rattle.facts.proofs.CommonParts.{if-some, expr_same}
use Rattle.facts.specs.Promises.{IsSound}
use Rattle.facts.proofs.Conclusions.{given}
use Rattle.facts.specs.RelativeConclusions.{rel_of, void_only}
use Rattle.facts.proofs.Known.{HasValue, one_value, bnd_out, bnd_in, nzr_out, rel_out}
use Rattle.theorem_rel.specs.Values.{unit, relative_to_itself_rule, relative_difference_rule}
use Rattle.theorem_rel.specs.Values.{zero_or_void, difference_fact, difference_by_error_rule}
use Rattle.theorem_rel.specs.Values.{value_fact, value_by_error_rule, quotient_fact}
use Rattle.theorem_rel.specs.Values.{quotient_by_error_rule}
use Rattle.theorem_rel.proofs.Numbers.{error_alone, difference_error}
use Rattle.theorem_rel.proofs.Related.{related_out}
use Rattle.theorem_rel.proofs.Members.{unit_plus}
use Rattle.theorem_rel.proofs.GivenLaws.{rel_given, part_given}

-- ---- a value with itself
pub relative_to_itself_rule-sound : IsSound relative_to_itself_rule
relative_to_itself_rule-sound nodes (fact.Bnd x i ∷ []) (slot.Rel y z) f o q = λ a h.
    let t = given (is_known nodes x && (is_same x y && is_same x z))
    (rel_of y z (error_from (point_of zero_ℚ))) f q in
    let b = and_parts (is_same x y) (is_same x z) (and_parts (is_known nodes x) _ t.0).1 in
    let v = bnd_out nodes a x i h.0 in
    rel_given nodes a y z (point_of zero_ℚ) f v.0 v.0 zero_ℚ t.1
    (subst (λ k. HasValue nodes a k v.0) (expr_same x y b.0) v.1)
    (subst (λ k. HasValue nodes a k v.0) (expr_same x z b.1) v.1)
    (record {
      inside = alone_lies zero_ℚ;
      is = sym (ap (λ u. v.0 *ℚ u) (add-zero one_ℚ) ∙ mul-one v.0);
    })
relative_to_itself_rule-sound nodes _ _ f o q = cc

-- ---- a difference
pub relative_difference_rule-sound : IsSound relative_difference_rule
relative_difference_rule-sound nodes (fact.Bnd p i ∷ fact.Bnd z j ∷ [])
    (slot.Rel x y) f o q = λ a h.
    let t = given (is_at nodes p (node.Sub x y) && is_same z y)
    (rel_of x y (error_of_part (quotient_of i j))) f q in
    let b = and_parts (is_at nodes p (node.Sub x y)) (is_same z y) t.0 in
    let d = bnd_out nodes a p i h.0 in
    let k = lifted_out ◌-ℚ◌ (value nodes a x)
    (value nodes a y) d.0 (sym (at_value nodes a p (node.Sub x y) o b.0) ∙ d.1) in
    let e = bnd_out nodes a z j h.1.0 in
    let s : e.0 ≡ k.1 =
    one_value nodes a y e.0 k.1 (subst (λ u. HasValue nodes a u e.0) (expr_same z y b.1) e.1) k.3 in
    part_given nodes a x y (quotient_of i j) f k.0 k.1 ((k.0 -ℚ k.1) /ℚ k.1) t.1 k.2 k.3 (λ w g.
    let r = quotient_of-is i j w g in
    let l : Lies (range_of j) k.1 = subst (Lies (range_of j)) s e.2 in
    record {
      inside = quotient_holds (range_of i) (range_of j) (range_of w)
          (k.0 -ℚ k.1) k.1 r (subst (Lies (range_of i)) k.4 d.2) l;
      is = sym (difference_error k.0 k.1 (λ u. r.nonzero (subst (Lies (range_of j)) u l)));
    })
relative_difference_rule-sound nodes _ _ f o q = cc

-- ---- back to bounds
-- what is known where y has the value w in J, and e the value that both errors give
by_zero : (nodes : List Node) (a : Assignment) (e : ExprId) (j : Interval) (v w : Fraction)
    → HasValue nodes a e v → v ≡ zero_ℚ → w ≡ zero_ℚ → Lies (range_of j) w
    → Holds nodes a (zero_or_void e j)
by_zero nodes a e j v w p z u l =
    subst (λ (b : Bool). Holds nodes a (if b then fact.Bnd e (point_of zero_ℚ) else fact.Void))
    (sym (zero_test j (subst (Lies (range_of j)) u l)))
    (bnd_in nodes a e (point_of zero_ℚ) v p
    (subst (Lies (range_of (point_of zero_ℚ))) (sym z) (alone_lies zero_ℚ)))

difference_holds : (nodes : List Node) (a : Assignment) (e : ExprId) (d : Option RelativeError)
    (j : Interval) (v w : Fraction) → HasValue nodes a e (v -ℚ w) → IsRelatedBy d v w
    → Lies (range_of j) w → Holds nodes a (difference_fact e d j)
difference_holds nodes a e None j v w p r l = by_zero nodes a e j (v -ℚ w) w p (ap (λ u. u -ℚ w) r.0
    ∙ ap (λ u. zero_ℚ -ℚ u) r.1 ∙ add-neg zero_ℚ) r.1 l
difference_holds nodes a e (Some d) j v w p r l =
    let t = related_out d.interval v w r in
    bnd_in nodes a e (product_of j d.interval) (v -ℚ w) p
    (subst (Lies (range_of (product_of j d.interval)))
    (sym (ap (λ u. u -ℚ w) t.1.is ∙ error_alone w t.0))
    (product_holds (range_of j) (range_of d.interval)
    (range_of (product_of j d.interval)) w t.0 (product_of-is j d.interval) l t.1.inside))

-- VOID is given only where both are 0 and 0 isn't in J
zero_not_void : (nodes : List Node) (a : Assignment)
    (x : ExprId) (j : Interval) (v w : Fraction) (f : Fact) → AreZero v w → Lies (range_of j) w
    → void_only (Some (zero_or_void x j)) ≡ Some f → Holds nodes a f
zero_not_void nodes a x j v w f z l q =
    let k : void_only (Some (fact.Bnd x (point_of zero_ℚ))) ≡ Some f =
    subst (λ (b : Bool). void_only (Some (if b then fact.Bnd x (point_of zero_ℚ) else fact.Void))
    ≡ Some f) (zero_test j (subst (Lies (range_of j)) z.1 l)) q in cc

pub difference_by_error_rule-sound : IsSound difference_by_error_rule
difference_by_error_rule-sound nodes (fact.Rel x y d ∷ fact.Bnd z j ∷ [])
    (slot.Bnd e) f o q = λ a h.
    let t = if-some (is_at nodes e (node.Sub x y) && is_same z y) (difference_fact e d j) f q in
    let b = and_parts (is_at nodes e (node.Sub x y)) (is_same z y) t.0 in
    let r = rel_out nodes a x y d h.0 in
    let w = bnd_out nodes a z j h.1.0 in
    let s : w.0 ≡ r.1 = one_value nodes a y w.0 r.1 (subst (λ u. HasValue nodes a u w.0)
    (expr_same z y b.1) w.1) r.2.second in
    subst (Holds nodes a) t.1 (difference_holds nodes a e d j r.0 r.1
    (at_value nodes a e (node.Sub x y) o b.0 ∙ lifted_in ◌-ℚ◌ (value nodes a x)
    (value nodes a y) r.0 r.1 r.2.first r.2.second) r.2.related (subst (Lies (range_of j)) s w.2))
difference_by_error_rule-sound nodes (fact.Rel x y d ∷ fact.Bnd z j ∷ []) slot.Void f o q = λ a h.
    let t = given (are_known nodes x y && is_same z y)
    (void_only (Some (difference_fact x d j))) f q in
    let b = and_parts (are_known nodes x y) (is_same z y) t.0 in
    let r = rel_out nodes a x y d h.0 in
    let w = bnd_out nodes a z j h.1.0 in
    let s : w.0 ≡ r.1 = one_value nodes a y w.0 r.1 (subst (λ u. HasValue nodes a u w.0)
    (expr_same z y b.1) w.1) r.2.second in
    no_difference nodes a x j d r.0 r.1 f r.2.related (subst (Lies (range_of j)) s w.2) t.1
  where
    no_difference : (nodes : List Node) (a : Assignment) (x : ExprId)
        (j : Interval) (d : Option RelativeError) (v w : Fraction) (f : Fact) → IsRelatedBy d v w
        → Lies (range_of j) w → void_only (Some (difference_fact x d j)) ≡ Some f → Holds nodes a f
    no_difference nodes a x j (Some d) v w f r l q = cc
    no_difference nodes a x j None v w f r l q = zero_not_void nodes a x j v w f r l q
difference_by_error_rule-sound nodes _ _ f o q = cc

-- ---- the first value
value_holds : (nodes : List Node) (a : Assignment) (e : ExprId) (d : Option RelativeError)
    (j : Interval) (v w : Fraction) → HasValue nodes a e v → IsRelatedBy d v w → Lies (range_of j) w
    → Holds nodes a (value_fact e d j)
value_holds nodes a e None j v w p r l = by_zero nodes a e j v w p r.0 r.1 l
value_holds nodes a e (Some d) j v w p r l =
    let t = related_out d.interval v w r in
    let k : Interval = sum_of unit d.interval in
    bnd_in nodes a e (product_of j k) v p
    (subst (Lies (range_of (product_of j k))) (sym t.1.is)
    (product_holds (range_of j) (range_of k) (range_of (product_of j k)) w (one_ℚ +ℚ t.0)
    (product_of-is j k) l (unit_plus d.interval t.0 t.1.inside)))

pub value_by_error_rule-sound : IsSound value_by_error_rule
value_by_error_rule-sound nodes (fact.Rel x y d ∷ fact.Bnd z j ∷ []) (slot.Bnd e) f o q = λ a h.
    let t = if-some (are_known nodes x y && (is_same z y && is_same x e)) (value_fact e d j) f q in
    let b = and_parts (is_same z y) (is_same x e) (and_parts (are_known nodes x y) _ t.0).1 in
    let r = rel_out nodes a x y d h.0 in
    let w = bnd_out nodes a z j h.1.0 in
    let s : w.0 ≡ r.1 = one_value nodes a y w.0 r.1 (subst (λ u. HasValue nodes a u w.0)
    (expr_same z y b.0) w.1) r.2.second in
    subst (Holds nodes a) t.1
    (value_holds nodes a e d j r.0 r.1 (subst (λ u. HasValue nodes a u r.0)
    (expr_same x e b.1) r.2.first) r.2.related (subst (Lies (range_of j)) s w.2))
value_by_error_rule-sound nodes (fact.Rel x y d ∷ fact.Bnd z j ∷ []) slot.Void f o q = λ a h.
    let t = given (are_known nodes x y && is_same z y) (void_only (Some (value_fact x d j))) f q in
    let b = and_parts (are_known nodes x y) (is_same z y) t.0 in
    let r = rel_out nodes a x y d h.0 in
    let w = bnd_out nodes a z j h.1.0 in
    let s : w.0 ≡ r.1 = one_value nodes a y w.0 r.1 (subst (λ u. HasValue nodes a u w.0)
    (expr_same z y b.1) w.1) r.2.second in
    no_value nodes a x j d r.0 r.1 f r.2.related (subst (Lies (range_of j)) s w.2) t.1
  where
    no_value : (nodes : List Node) (a : Assignment) (x : ExprId)
        (j : Interval) (d : Option RelativeError) (v w : Fraction) (f : Fact) → IsRelatedBy d v w
        → Lies (range_of j) w → void_only (Some (value_fact x d j)) ≡ Some f → Holds nodes a f
    no_value nodes a x j (Some d) v w f r l q = cc
    no_value nodes a x j None v w f r l q = zero_not_void nodes a x j v w f r l q
value_by_error_rule-sound nodes _ _ f o q = cc

-- ---- the quotient
quotient_holds_by : (nodes : List Node) (a : Assignment) (e : ExprId) (d : Option RelativeError)
    (v w : Fraction) → w ≢ zero_ℚ → HasValue nodes a e (v /ℚ w) → IsRelatedBy d v w
    → Holds nodes a (quotient_fact e d)
quotient_holds_by nodes a e None v w n p r = n r.1
quotient_holds_by nodes a e (Some d) v w n p r =
    let t = related_out d.interval v w r in
    bnd_in nodes a e (sum_of unit d.interval) (v /ℚ w) p
    (subst (Lies (range_of (sum_of unit d.interval)))
    (sym (ap (λ u. u /ℚ w) (t.1.is ∙ mul_comm w (one_ℚ +ℚ t.0)) ∙ mul-div (one_ℚ +ℚ t.0) w n))
    (unit_plus d.interval t.0 t.1.inside))

pub quotient_by_error_rule-sound : IsSound quotient_by_error_rule
quotient_by_error_rule-sound nodes (fact.Rel x y d ∷ fact.Nzr z ∷ []) (slot.Bnd e) f o q = λ a h.
    let t = if-some (is_at nodes e (node.Div x y) && is_same z y) (quotient_fact e d) f q in
    let b = and_parts (is_at nodes e (node.Div x y)) (is_same z y) t.0 in
    let r = rel_out nodes a x y d h.0 in
    let w = nzr_out nodes a z h.1.0 in
    let s : w.0 ≡ r.1 = one_value nodes a y w.0 r.1 (subst (λ u. HasValue nodes a u w.0)
    (expr_same z y b.1) w.1) r.2.second in
    let n : r.1 ≢ zero_ℚ = subst (λ u. u ≢ zero_ℚ) s w.2 in
    subst (Holds nodes a) t.1 (quotient_holds_by nodes a e d r.0 r.1 n
    (at_value nodes a e (node.Div x y) o b.0
    ∙ quotient_in (value nodes a x) (value nodes a y) r.0 r.1 r.2.first r.2.second n) r.2.related)
quotient_by_error_rule-sound nodes (fact.Rel x y d ∷ fact.Nzr z ∷ []) slot.Void f o q = λ a h.
    let t = given (are_known nodes x y && is_same z y) (void_only (Some (quotient_fact x d))) f q in
    let b = and_parts (are_known nodes x y) (is_same z y) t.0 in
    let r = rel_out nodes a x y d h.0 in
    let w = nzr_out nodes a z h.1.0 in
    let s : w.0 ≡ r.1 = one_value nodes a y w.0 r.1 (subst (λ u. HasValue nodes a u w.0)
    (expr_same z y b.1) w.1) r.2.second in
    no_quotient nodes a x d r.0 r.1 f (subst (λ u. u ≢ zero_ℚ) s w.2) r.2.related t.1
  where
    no_quotient : (nodes : List Node) (a : Assignment) (x : ExprId)
        (d : Option RelativeError) (v w : Fraction) (f : Fact) → w ≢ zero_ℚ → IsRelatedBy d v w
        → void_only (Some (quotient_fact x d)) ≡ Some f → Holds nodes a f
    no_quotient nodes a x (Some d) v w f n r q = cc
    no_quotient nodes a x None v w f n r q = absurd (n r.1)
quotient_by_error_rule-sound nodes _ _ f o q = cc
