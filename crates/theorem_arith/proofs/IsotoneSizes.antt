-- The rules on absolute values: from stronger premises they give a fact as strong, or stronger.
use Rattle.std.specs.Prelude.{◌≡◌, Bool, true, false, ◌&&◌, [], ◌∷◌, Option, Some, None, slice_get}
use Rattle.std.specs.Prelude.{if◌then◌else◌, refl}
use Rattle.std.proofs.Common.{sym, ap, subst}
use Rattle.std.proofs.lemmas.Bool.{and_parts, and_from}
use Rattle.fx_model.specs.Fraction.{zero_ℚ, neg_ℚ, abs_ℚ, le_trans, neg_down}
use Rattle.fx_model.specs.Grid.{Bound, neg_bound, le_bound}
use Rattle.fx_model.specs.Enclosure.{BoundLe, Negations, Sizes, in_enclosure, member_of, ordered_by}
use Rattle.fx_model.specs.Enclosure.{higher_from}
use Rattle.fx_model.specs.declared.ExprId.{ExprId}
use Rattle.fx_model.specs.declared.Node.TheVariants as node
use Rattle.grid_words.proofs.AbsoluteValues.{abs-not_negative}
use Rattle.dyadic.specs.Compared.{BoundLe_in, BoundLe_out}
use Rattle.dyadic.specs.Ends.{bound_of}
use Rattle.dyadic.proofs.Extremes.{BoundLe-trans}
use Rattle.interval.specs.declared.interval.Interval.{Interval}
use Rattle.interval.specs.Ends.{AreEnds}
use Rattle.interval.specs.Intervals.{range_of}
use Rattle.interval.specs.Results.{negation_of, negation_of-is, size_of, size_of-is}
use Rattle.interval.proofs.Monotone.{neg_bound-falls, interval_from-within, negation_of-within}
use Rattle.interval.proofs.Monotone.{size_of-within}
use Rattle.expr_dag.specs.Shapes.{is_at}
use Rattle.facts.specs.declared.size.Size.{Size}
use Rattle.facts.specs.declared.fact.Fact.TheVariants as fact
use Rattle.facts.specs.declared.fact.Slot.TheVariants as slot
use Rattle.facts.specs.Order.{IsWithin, IsStronger, is_same}
use Rattle.facts.specs.Parts.{size_within}
use Rattle.facts.proofs.SizesWithin.{size_member, size_within-within, size_within-none}
use Rattle.facts.proofs.SizesWithin.{size_within-grows, size_within-smaller}
use Rattle.facts.specs.Promises.{IsIsotone}
use Rattle.facts.specs.Premises.{Gives}
use Rattle.facts.proofs.Premises.{one_bnd, one_abs, bnd_then_abs}
use Rattle.facts.proofs.Conclusions.{Improves, improves_abs, improves_bnd, improves_given}
use Rattle.facts.proofs.Conclusions.{improves_if, improves_only}
use Rattle.facts.specs.Conclusions.{abs_of, bnd_of}
use Rattle.theorem_arith.specs.Shapes.{is_one}
use Rattle.theorem_arith.specs.Sizes.{size_rule, around, value_rule, is_less, is_above, is_below}
use Rattle.theorem_arith.specs.Sizes.{signed_fact, sign_rule, absolute_value_rule, abs_or_void}
use Rattle.theorem_arith.specs.Sizes.{void_if_none, is_absolute_value, size_of_value_rule}

-- ---- from values to absolute values and back
size_of-smaller : (i j : Interval) (s : Size) → IsWithin j i → size_within (size_of i) ≡ Some s
    → (t : Size) × (size_within (size_of j) ≡ Some t) × IsWithin t.interval s.interval
size_of-smaller i j s w e = let m = member_of (range_of j).low (range_of j).high j.ordered in
    size_within-smaller (size_of j) (size_of i) s (abs_ℚ m.0) (size_of-within j i w)
    (in_enclosure (Sizes (range_of j)) (range_of (size_of j)) (abs_ℚ m.0) (size_of-is j)
    (m.0, (m.1, m.2), refl)) (abs-not_negative m.0) e

pub size_rule-isotone : IsIsotone size_rule
size_rule-isotone nodes (fact.Bnd x i ∷ []) (slot.Abs e) ps c s q =
    let a = one_bnd ps x i s in
    subst (λ l. Gives (size_rule nodes l (slot.Abs e)) c) (sym a.1)
    (improves_given (is_one nodes x e) (abs_of e (size_within (size_of i)))
    (abs_of e (size_within (size_of a.0)))
    (improves_abs e (size_within (size_of i)) (size_within (size_of a.0))
    (λ t h. size_of-smaller i a.0 t a.2 h)) c q)
size_rule-isotone nodes _ _ ps c s q = cc

around_ends : (s : Size) → AreEnds (negation_of s.interval).lo s.interval.hi
around_ends s = let m = size_member s in
    let n = in_enclosure (Negations (range_of s.interval)) (range_of (negation_of s.interval))
    (neg_ℚ m.0) (negation_of-is s.interval) (m.0, m.1, refl) in
    ordered_by (bound_of (negation_of s.interval).lo)
    (bound_of s.interval.hi) m.0 (higher_from (bound_of (negation_of s.interval).lo) m.0 (neg_ℚ m.0)
    (le_trans (neg_ℚ m.0) zero_ℚ m.0 (neg_down m.0 m.2) m.2) n.0) m.1.1

around-within : (s t : Size) (k : Interval) → IsWithin t.interval s.interval → around s ≡ Some k
    → (j : Interval) × (around t ≡ Some j) × IsWithin j k
around-within s t k w e =
    interval_from-within (negation_of t.interval).lo t.interval.hi (negation_of s.interval).lo
    s.interval.hi k (negation_of-within t.interval s.interval w).0 w.1 (around_ends t) e

pub value_rule-isotone : IsIsotone value_rule
value_rule-isotone nodes (fact.Abs x i ∷ []) (slot.Bnd e) ps c s q =
    let a = one_abs ps x i s in
    subst (λ l. Gives (value_rule nodes l (slot.Bnd e)) c) (sym a.1)
    (improves_given (is_one nodes x e) (bnd_of e (around i)) (bnd_of e (around a.0))
    (improves_bnd e (around i) (around a.0) (λ k h. around-within i a.0 k a.2 h)) c q)
value_rule-isotone nodes _ _ ps c s q = cc

-- ---- signs: VOID is stronger than each
flipped : (u : Bool) → (if u then false else true) ≡ true → u ≡ true → ⊥
flipped true e h = cc
flipped false e h = cc

is_less-kept : (b c d e : Bound) → BoundLe d b → BoundLe c e
    → is_less b c ≡ true → is_less d e ≡ true
is_less-kept b c d e p q t = by_test (le_bound e d) refl
  where
    by_test : (u : Bool) → le_bound e d ≡ u → (if u then false else true) ≡ true
    by_test false h = refl
    by_test true h =
        let g : le_bound c b ≡ true =
        BoundLe_out c b (BoundLe-trans c e b q (BoundLe-trans e d b (BoundLe_in e d h) p)) in
        absurd (flipped (le_bound c b) t g)

is_above-kept : (i j : Interval) (s t : Size) → IsWithin j i → IsWithin t.interval s.interval
    → is_above i s ≡ true → is_above j t ≡ true
is_above-kept i j s t v w e = is_less-kept (neg_bound (bound_of s.interval.lo))
    (bound_of i.lo) (neg_bound (bound_of t.interval.lo)) (bound_of j.lo)
    (neg_bound-falls (bound_of s.interval.lo) (bound_of t.interval.lo) w.0) v.0 e

is_below-kept : (i j : Interval) (s t : Size) → IsWithin j i → IsWithin t.interval s.interval
    → is_below i s ≡ true → is_below j t ≡ true
is_below-kept i j s t v w e = is_less-kept (bound_of i.hi) (bound_of s.interval.lo) (bound_of j.hi)
    (bound_of t.interval.lo) v.1 w.0 e

improves_signed : (x : ExprId) (s t : Size) (a b c d : Bool)
    → IsWithin t.interval s.interval → (a ≡ true → c ≡ true) → (b ≡ true → d ≡ true)
    → Improves (signed_fact x s a b) (signed_fact x t c d)
improves_signed x s t true true true true w p r f e = (fact.Void, refl, tt)
improves_signed x s t true false true true w p r f e = (fact.Void, refl, tt)
improves_signed x s t false true true true w p r f e = (fact.Void, refl, tt)
improves_signed x s t true false true false w p r f e = (
  fact.Bnd x t.interval,
  refl,
  subst (IsStronger (fact.Bnd x t.interval))
      (let g : fact.Bnd x s.interval ≡ f = cc in g) (refl, w),
)
improves_signed x s t false true false true w p r f e = (
  fact.Bnd x (negation_of t.interval),
  refl,
  subst (IsStronger (fact.Bnd x (negation_of t.interval)))
      (let g : fact.Bnd x (negation_of s.interval) ≡ f = cc in g)
      (refl, negation_of-within t.interval s.interval w),
)
improves_signed x s t false false c d w p r f e = cc
improves_signed x s t true b false d w p r f e = let g : false ≡ true = p refl in cc
improves_signed x s t a true c false w p r f e = let g : false ≡ true = r refl in cc

pub sign_rule-isotone : IsIsotone sign_rule
sign_rule-isotone nodes (fact.Bnd x i ∷ fact.Abs y k ∷ []) (slot.Bnd e) ps c s q =
    let a = bnd_then_abs ps x i y k s in
    subst (λ l. Gives (sign_rule nodes l (slot.Bnd e)) c) (sym a.2)
    (improves_given (is_one nodes x y && is_same x e) (signed_fact e k (is_above i k)
    (is_below i k)) (signed_fact e a.1 (is_above a.0 a.1) (is_below a.0 a.1))
    (improves_signed e k a.1 (is_above i k) (is_below i k) (is_above a.0 a.1) (is_below a.0 a.1) a.4
    (is_above-kept i a.0 k a.1 a.3 a.4) (is_below-kept i a.0 k a.1 a.3 a.4)) c q)
sign_rule-isotone nodes (fact.Bnd x i ∷ fact.Abs y k ∷ []) slot.Void ps c s q =
    let a = bnd_then_abs ps x i y k s in
    subst (λ l. Gives (sign_rule nodes l slot.Void) c) (sym a.2)
    (improves_if (is_one nodes x y && (is_above i k && is_below i k))
    (is_one nodes x y && (is_above a.0 a.1 && is_below a.0 a.1)) fact.Void fact.Void
    (λ t. let u = and_parts (is_one nodes x y) (is_above i k && is_below i k) t in
    let v = and_parts (is_above i k) (is_below i k) u.1 in
    and_from (is_one nodes x y)
    (is_above a.0 a.1 && is_below a.0 a.1) u.0 (and_from (is_above a.0 a.1) (is_below a.0 a.1)
    (is_above-kept i a.0 k a.1 a.3 a.4 v.0) (is_below-kept i a.0 k a.1 a.3 a.4 v.1))) tt c q)
sign_rule-isotone nodes _ _ ps c s q = cc

pub absolute_value_rule-isotone : IsIsotone absolute_value_rule
absolute_value_rule-isotone nodes (fact.Abs x i ∷ []) (slot.Bnd e) ps c s q =
    let a = one_abs ps x i s in
    subst (λ l. Gives (absolute_value_rule nodes l (slot.Bnd e)) c) (sym a.1)
    (improves_only (is_at nodes e (node.Abs x)) (fact.Bnd e i.interval)
    (fact.Bnd e a.0.interval) (refl, a.2) c q)
absolute_value_rule-isotone nodes _ _ ps c s q = cc

abs_or_void-stronger : (x : ExprId) (i j : Interval) → IsWithin j i
    → IsStronger (abs_or_void x (size_within j)) (abs_or_void x (size_within i))
abs_or_void-stronger x i j w = by_case (size_within j) refl
  where
    by_case : (o : Option Size) → size_within j ≡ o
        → IsStronger (abs_or_void x o) (abs_or_void x (size_within i))
    by_case None e = tt
    by_case (Some t) e = let s = size_within-grows j i t w e in
        subst (λ o. IsStronger (fact.Abs x t) (abs_or_void x o)) (sym s.1)
        (refl, size_within-within j i t s.0 w e s.1)

improves_void : (u v : Option Size) → (u ≡ None → v ≡ None)
    → Improves (void_if_none u) (void_if_none v)
improves_void None v h c e = (fact.Void, ap void_if_none (h refl), tt)
improves_void (Some s) v h c e = cc

pub size_of_value_rule-isotone : IsIsotone size_of_value_rule
size_of_value_rule-isotone nodes (fact.Bnd y i ∷ []) (slot.Abs e) ps c s q =
    let a = one_bnd ps y i s in
    subst (λ l. Gives (size_of_value_rule nodes l (slot.Abs e)) c) (sym a.1)
    (improves_only (is_at nodes y (node.Abs e)) (abs_or_void e (size_within i))
    (abs_or_void e (size_within a.0)) (abs_or_void-stronger e i a.0 a.2) c q)
size_of_value_rule-isotone nodes (fact.Bnd y i ∷ []) slot.Void ps c s q =
    let a = one_bnd ps y i s in
    subst (λ l. Gives (size_of_value_rule nodes l slot.Void) c) (sym a.1)
    (improves_given (is_absolute_value (slice_get nodes y.0))
    (void_if_none (size_within i)) (void_if_none (size_within a.0))
    (improves_void (size_within i) (size_within a.0) (size_within-none a.0 i a.2)) c q)
size_of_value_rule-isotone nodes _ _ ps c s q = cc
