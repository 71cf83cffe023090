-- The rules on absolute values are sound: where the premises hold, the conclusion does.
use Rattle.std.specs.Prelude.{◌≡◌, ◌⊎◌, ◌&&◌, Bool, true, false, List, [], ◌∷◌, Option, Some, None}
use Rattle.std.specs.Prelude.{slice_get, if◌then◌else◌, refl}
use Rattle.std.specs.Option.{IsSomeAnd}
use Rattle.std.proofs.Common.{sym, ap, subst, ◌∙◌, inl, inr, ⊎_elim}
use Rattle.std.proofs.lemmas.Bool.{and_parts}
use Rattle.fx_model.specs.Fraction.{Fraction, neg_ℚ, abs_ℚ, neg-neg}
use Rattle.fx_model.specs.Grid.{Bound, neg_bound, le_bound}
use Rattle.fx_model.specs.Enclosure.{IsFrom, IsUpTo, Lies, BoundLe, Sizes, Negations, in_enclosure}
use Rattle.fx_model.specs.Enclosure.{up_to_neg, higher_from, lower_up_to}
use Rattle.fx_model.specs.Expression.{Assignment, IsOrdered, value, lift₁}
use Rattle.fx_model.specs.declared.ExprId.{ExprId}
use Rattle.fx_model.specs.declared.Node.{Node}
use Rattle.fx_model.specs.declared.Node.TheVariants as node
use Rattle.grid_words.proofs.AbsoluteValues.{sides, abs-not_negative, le_abs, neg_abs_le}
use Rattle.dyadic.specs.Ends.{bound_of}
use Rattle.dyadic.specs.Compared.{BoundLe_out}
use Rattle.interval.specs.declared.interval.Interval.{Interval}
use Rattle.interval.specs.Intervals.{range_of}
use Rattle.interval.proofs.Members.{between}
use Rattle.interval.specs.Meets.{interval_from_out}
use Rattle.interval.specs.Results.{negation_of, negation_of-is, size_of, size_of-is}
use Rattle.expr_dag.specs.Shapes.{is_at}
use Rattle.expr_dag.proofs.Shapes.{is_at_out, node_at-value}
use Rattle.expr_dag.proofs.Lifted.{at_node, lifted₁}
use Rattle.facts.specs.declared.size.Size.{Size}
use Rattle.facts.specs.declared.fact.Fact.{Fact}
use Rattle.facts.specs.declared.fact.Fact.TheVariants as fact
use Rattle.facts.specs.declared.fact.Slot.TheVariants as slot
use Rattle.facts.specs.Parts.{size_within}
use Rattle.facts.proofs.Within.{size_within_holds}
use Rattle.facts.specs.Holds.{Holds}
use Rattle.facts.specs.Order.{is_same}
use Rattle.facts.proofs.CommonParts.{if-some, expr_same}
use Rattle.facts.proofs.Held.{some-and, both_some}
use Rattle.facts.specs.Promises.{IsSound}
use Rattle.facts.specs.Conclusions.{abs_of, bnd_of}
use Rattle.facts.proofs.Conclusions.{given}
use Rattle.theorem_arith.specs.Shapes.{is_one}
use Rattle.theorem_arith.proofs.Shapes.{one_same}
use Rattle.theorem_arith.specs.Sizes.{size_rule, around, value_rule, is_less, is_above, is_below}
use Rattle.theorem_arith.specs.Sizes.{signed_fact, sign_rule, absolute_value_rule, abs_or_void}
use Rattle.theorem_arith.specs.Sizes.{void_if_none, is_absolute_value, size_of_value_rule}

-- an ABS fact of what of an interval is at least 0 holds where the absolute value lies in the
-- interval
pub abs_given : (nodes : List Node) (a : Assignment) (e : ExprId) (i : Interval) (f : Fact)
    → abs_of e (size_within i) ≡ Some f
    → IsSomeAnd (value nodes a e) (λ v. Lies (range_of i) (abs_ℚ v)) → Holds nodes a f
abs_given nodes a e i f q h = at_value (value nodes a e) refl h
  where
    found : (v : Fraction) (s : Size) → value nodes a e ≡ Some v → size_within i ≡ Some s
        → Lies (range_of s.interval) (abs_ℚ v) → Holds nodes a f
    found v s w k l =
        let t : Some (fact.Abs e s) ≡ Some f = sym (ap (abs_of e) k) ∙ q in
        let u : fact.Abs e s ≡ f = cc in
        subst (Holds nodes a) u
        (subst (λ o. IsSomeAnd o (λ v. Lies (range_of s.interval) (abs_ℚ v))) (sym w) l)

    at_value : (o : Option Fraction) → value nodes a e ≡ o
        → IsSomeAnd o (λ v. Lies (range_of i) (abs_ℚ v)) → Holds nodes a f
    at_value None w h = absurd h
    at_value (Some v) w h =
        let s = size_within_holds i (abs_ℚ v) h (abs-not_negative v) in found v s.0 w s.1 s.2

-- ---- from values to absolute values and back
pub size_rule-sound : IsSound size_rule
size_rule-sound nodes (fact.Bnd x i ∷ []) (slot.Abs e) f o q = λ a h.
    let t = given (is_one nodes x e) (abs_of e (size_within (size_of i))) f q in
    abs_given nodes a e (size_of i) f t.1 (subst (λ z. IsSomeAnd (value nodes a z)
    (λ v. Lies (range_of (size_of i)) (abs_ℚ v))) (one_same nodes x e t.0)
    (some-and (value nodes a x) (Lies (range_of i)) (λ v. Lies (range_of (size_of i)) (abs_ℚ v))
    (λ v l. in_enclosure (Sizes (range_of i)) (range_of (size_of i)) (abs_ℚ v)
    (size_of-is i) (v, l, refl)) h.0))
size_rule-sound nodes _ _ f o q = cc

negated : (i : Interval) (x : Fraction) → Lies (range_of i) x
    → Lies (range_of (negation_of i)) (neg_ℚ x)
negated i x l = in_enclosure (Negations (range_of i)) (range_of (negation_of i)) (neg_ℚ x)
    (negation_of-is i) (x, l, refl)

-- what has an absolute value in [p, q] lies in [-q, q]
in_around : (s : Size) (i : Interval) (x : Fraction) → around s ≡ Some i
    → Lies (range_of s.interval) (abs_ℚ x) → Lies (range_of i) x
in_around s i x e l =
    let ends = interval_from_out (negation_of s.interval).lo s.interval.hi i e in (
      subst (λ k. IsFrom (bound_of k) x) (sym ends.0)
          (higher_from (bound_of (negation_of s.interval).lo) x (neg_ℚ (abs_ℚ x)) (neg_abs_le x)
          (negated s.interval (abs_ℚ x) l).0),
      subst (λ k. IsUpTo (bound_of k) x) (sym ends.1)
          (lower_up_to (bound_of s.interval.hi) x (abs_ℚ x) (le_abs x) l.1),
    )

bnd_around : (nodes : List Node) (a : Assignment)
    (e : ExprId) (s : Size) (o : Option Interval) (f : Fact) → around s ≡ o → bnd_of e o ≡ Some f
    → IsSomeAnd (value nodes a e) (λ v. Lies (range_of s.interval) (abs_ℚ v)) → Holds nodes a f
bnd_around nodes a e s None f k q h = cc
bnd_around nodes a e s (Some i) f k q h = let t : fact.Bnd e i ≡ f = cc in
    subst (Holds nodes a) t (some-and (value nodes a e) (λ v. Lies (range_of s.interval) (abs_ℚ v))
    (Lies (range_of i)) (λ v l. in_around s i v k l) h)

pub value_rule-sound : IsSound value_rule
value_rule-sound nodes (fact.Abs x s ∷ []) (slot.Bnd e) f o q = λ a h.
    let t = given (is_one nodes x e) (bnd_of e (around s)) f q in
    bnd_around nodes a e s (around s) f refl t.1 (subst (λ z. IsSomeAnd (value nodes a z)
    (λ v. Lies (range_of s.interval) (abs_ℚ v))) (one_same nodes x e t.0) h.0)
value_rule-sound nodes _ _ f o q = cc

-- ---- the sign of a value
not_le : (b c : Bound) → is_less b c ≡ true → BoundLe c b → ⊥
not_le b c e l = let h : le_bound c b ≡ true = BoundLe_out c b l in
    let g : (if le_bound c b then false else true) ≡ false =
    ap (λ (t : Bool). if t then false else true) h in
    let k : true ≡ false = sym e ∙ g in cc

-- where the lower end of I is above -p, a value in I with an absolute value from p on is 0 or above
no_less : (i : Interval) (s : Size) (x : Fraction) → is_above i s ≡ true → Lies (range_of i) x
    → Lies (range_of s.interval) (abs_ℚ x) → x ≡ neg_ℚ (abs_ℚ x) → ⊥
no_less i s x e l m z = not_le (neg_bound (bound_of s.interval.lo)) (bound_of i.lo) e
    (between (bound_of i.lo)
    (neg_bound (bound_of s.interval.lo)) x l.0 (subst (IsUpTo (neg_bound (bound_of s.interval.lo)))
    (sym z) (up_to_neg (bound_of s.interval.lo) (abs_ℚ x) m.0)))

no_more : (i : Interval) (s : Size) (x : Fraction) → is_below i s ≡ true → Lies (range_of i) x
    → Lies (range_of s.interval) (abs_ℚ x) → x ≡ abs_ℚ x → ⊥
no_more i s x e l m z = not_le (bound_of i.hi) (bound_of s.interval.lo) e
    (between (bound_of s.interval.lo)
    (bound_of i.hi) x (subst (IsFrom (bound_of s.interval.lo)) (sym z) m.0) l.1)

either : (x : Fraction) → (x ≡ abs_ℚ x) ⊎ (x ≡ neg_ℚ (abs_ℚ x))
either x = ⊎_elim (λ u. inl (sym u.is)) (λ d. inr (sym (neg-neg x) ∙ ap neg_ℚ (sym d.is))) (sides x)

both_signs : (i : Interval) (s : Size) (x : Fraction) → is_above i s ≡ true → is_below i s ≡ true
    → Lies (range_of i) x → Lies (range_of s.interval) (abs_ℚ x) → ⊥
both_signs i s x e k l m =
    ⊎_elim (λ z. no_more i s x k l m z) (λ z. no_less i s x e l m z) (either x)

signed_holds : (nodes : List Node) (a : Assignment) (x : ExprId) (i : Interval)
    (s : Size) (above below : Bool) (f : Fact) → is_above i s ≡ above → is_below i s ≡ below
    → signed_fact x s above below ≡ Some f → IsSomeAnd (value nodes a x) (Lies (range_of i))
    → IsSomeAnd (value nodes a x) (λ v. Lies (range_of s.interval) (abs_ℚ v)) → Holds nodes a f
signed_holds nodes a x i s true true f e k q l m = absurd (none (value nodes a x) l m)
  where
    none : (o : Option Fraction) → IsSomeAnd o (Lies (range_of i))
        → IsSomeAnd o (λ v. Lies (range_of s.interval) (abs_ℚ v)) → ⊥
    none None l m = l
    none (Some v) l m = both_signs i s v e k l m
signed_holds nodes a x i s true false f e k q l m = let t : fact.Bnd x s.interval ≡ f = cc in
    subst (Holds nodes a) t (both_some (value nodes a x) (Lies (range_of i))
    (λ v. Lies (range_of s.interval) (abs_ℚ v)) (Lies (range_of s.interval))
    (λ v p r. ⊎_elim (λ z. subst (Lies (range_of s.interval)) (sym z) r)
    (λ z. absurd (no_less i s v e p r z)) (either v)) l m)
signed_holds nodes a x i s false true f e k q l m =
    let t : fact.Bnd x (negation_of s.interval) ≡ f = cc in
    subst (Holds nodes a) t (both_some (value nodes a x) (Lies (range_of i))
    (λ v. Lies (range_of s.interval) (abs_ℚ v)) (Lies (range_of (negation_of s.interval)))
    (λ v p r. ⊎_elim (λ z. absurd (no_more i s v k p r z)) (λ z. subst (Lies
    (range_of (negation_of s.interval))) (sym z) (negated s.interval (abs_ℚ v) r)) (either v)) l m)
signed_holds nodes a x i s false false f e k q l m = cc

pub sign_rule-sound : IsSound sign_rule
sign_rule-sound nodes (fact.Bnd x i ∷ fact.Abs y s ∷ []) (slot.Bnd e) f o q = λ a h.
    let t = given (is_one nodes x y && is_same x e)
    (signed_fact e s (is_above i s) (is_below i s)) f q in
    let b = and_parts (is_one nodes x y) (is_same x e) t.0 in
    let xe : x ≡ e = expr_same x e b.1 in
    let ye : y ≡ e = sym (one_same nodes x y b.0) ∙ xe in
    signed_holds nodes a e i s (is_above i s) (is_below i s) f refl refl t.1
    (subst (λ z. IsSomeAnd (value nodes a z) (Lies (range_of i))) xe h.0)
    (subst (λ z. IsSomeAnd (value nodes a z) (λ v. Lies (range_of s.interval) (abs_ℚ v))) ye h.1.0)
sign_rule-sound nodes (fact.Bnd x i ∷ fact.Abs y s ∷ []) slot.Void f o q = λ a h.
    let t = if-some (is_one nodes x y && (is_above i s && is_below i s)) fact.Void f q in
    let b = and_parts (is_one nodes x y) (is_above i s && is_below i s) t.0 in
    let c = and_parts (is_above i s) (is_below i s) b.1 in
    let v : signed_fact x s (is_above i s) (is_below i s) ≡ Some f =
    ap (λ u. signed_fact x s u (is_below i s)) c.0 ∙ ap (signed_fact x s true) c.1 ∙ ap Some t.1 in
    signed_holds nodes a x i s (is_above i s) (is_below i s) f refl refl v h.0
    (subst (λ z. IsSomeAnd (value nodes a z) (λ v. Lies (range_of s.interval) (abs_ℚ v)))
    (sym (one_same nodes x y b.0)) h.1.0)
sign_rule-sound nodes _ _ f o q = cc

pub absolute_value_rule-sound : IsSound absolute_value_rule
absolute_value_rule-sound nodes (fact.Abs x s ∷ []) (slot.Bnd e) f o q = λ a h.
    let t = if-some (is_at nodes e (node.Abs x)) (fact.Bnd e s.interval) f q in
    subst (Holds nodes a) t.1 (at_node nodes a o e (node.Abs x) (Lies (range_of s.interval)) t.0
    (lifted₁ abs_ℚ (value nodes a x) (λ v. Lies (range_of s.interval) (abs_ℚ v))
    (Lies (range_of s.interval)) (λ v l. l) h.0))
absolute_value_rule-sound nodes _ _ f o q = cc

-- ---- from the value of an absolute value
abs_inside : (u : Option Fraction) (P : Fraction → Type 0) → IsSomeAnd (lift₁ abs_ℚ u) P
    → IsSomeAnd u (λ v. P (abs_ℚ v))
abs_inside None P h = h
abs_inside (Some x) P h = h

void_holds : (nodes : List Node) (a : Assignment) (e : ExprId) (i : Interval)
    → IsSomeAnd (value nodes a e) (λ v. Lies (range_of i) (abs_ℚ v))
    → Holds nodes a (abs_or_void e (size_within i))
void_holds nodes a e i h = at_value (value nodes a e) refl h
  where
    at_value : (o : Option Fraction)
        → value nodes a e ≡ o → IsSomeAnd o (λ v. Lies (range_of i) (abs_ℚ v))
        → Holds nodes a (abs_or_void e (size_within i))
    at_value None w h = absurd h
    at_value (Some v) w h = let s = size_within_holds i (abs_ℚ v) h (abs-not_negative v) in
        subst (λ k. Holds nodes a (abs_or_void e k)) (sym s.1)
        (subst (λ o. IsSomeAnd o (λ v. Lies (range_of s.0.interval) (abs_ℚ v))) (sym w) s.2)

from_absolute : (nodes : List Node) (a : Assignment) (y e : ExprId) (i : Interval) → IsOrdered nodes
    → slice_get nodes y.0 ≡ Some (node.Abs e) → IsSomeAnd (value nodes a y) (Lies (range_of i))
    → Holds nodes a (abs_or_void e (size_within i))
from_absolute nodes a y e i o n h =
    void_holds nodes a e i (abs_inside (value nodes a e) (Lies (range_of i))
    (subst (λ v. IsSomeAnd v (Lies (range_of i))) (node_at-value nodes a y (node.Abs e) o n) h))

no_size : (nodes : List Node)
    (a : Assignment) (y : ExprId) (i : Interval) (f : Fact) (n : Option Node) → IsOrdered nodes
    → slice_get nodes y.0 ≡ n → is_absolute_value n ≡ true → void_if_none (size_within i) ≡ Some f
    → IsSomeAnd (value nodes a y) (Lies (range_of i)) → Holds nodes a f
no_size nodes a y i f (Some (node.Abs x)) o n t q h =
    by_size (size_within i) q (from_absolute nodes a y x i o n h)
  where
    by_size : (s : Option Size) → void_if_none s ≡ Some f
        → Holds nodes a (abs_or_void x s) → Holds nodes a f
    by_size None q k = absurd k
    by_size (Some s) q k = cc
no_size nodes a y i f _ o n t q h = cc

pub size_of_value_rule-sound : IsSound size_of_value_rule
size_of_value_rule-sound nodes (fact.Bnd y i ∷ []) (slot.Abs e) f o q = λ a h.
    let t = if-some (is_at nodes y (node.Abs e)) (abs_or_void e (size_within i)) f q in
    subst (Holds nodes a) t.1
    (from_absolute nodes a y e i o (is_at_out nodes y (node.Abs e) t.0) h.0)
size_of_value_rule-sound nodes (fact.Bnd y i ∷ []) slot.Void f o q = λ a h.
    let t = given (is_absolute_value (slice_get nodes y.0)) (void_if_none (size_within i)) f q in
    no_size nodes a y i f (slice_get nodes y.0) o refl t.0 t.1 h.0
size_of_value_rule-sound nodes _ _ f o q = cc
