-- The rules on the multiples in an interval: sound, and what they give from stronger premises.
use Rattle.std.specs.Prelude.{◌≡◌, ◌⊎◌, ◌&&◌, ◌≤ℤ◌, true, List, [], ◌∷◌, Option, Some, None, refl}
use Rattle.std.specs.Option.{IsSomeAnd}
use Rattle.std.proofs.Common.{sym, ap, subst, ◌∙◌, inl, inr}
use Rattle.std.proofs.lemmas.Bool.{and_parts}
use Rattle.fx_model.specs.Fraction.{Fraction}
use Rattle.fx_model.specs.Powers.{IsMultiple}
use Rattle.fx_model.specs.Enclosure.{Lies, Within, member_of, ordered_by, within_in}
use Rattle.fx_model.specs.Expression.{value}
use Rattle.fx_model.specs.declared.ExprId.{ExprId}
use Rattle.fx_model.specs.declared.Node.{Node}
use Rattle.interval.specs.declared.interval.Interval.{Interval}
use Rattle.interval.specs.Intervals.{range_of}
use Rattle.interval.proofs.Outward.{outward_of_lies}
use Rattle.facts.specs.declared.place.FixPlace.{FixPlace}
use Rattle.facts.specs.declared.fact.Fact.{Fact}
use Rattle.facts.specs.declared.fact.Fact.TheVariants as fact
use Rattle.facts.specs.declared.fact.Slot.TheVariants as slot
use Rattle.facts.proofs.CommonParts.{expr_same, some-inj}
use Rattle.facts.specs.Order.{IsWithin, is_same}
use Rattle.facts.specs.Promises.{IsSound, IsIsotone, EachStronger}
use Rattle.facts.specs.Premises.{Gives}
use Rattle.facts.proofs.Premises.{strong_bnd, first_premise, one_fix}
use Rattle.facts.specs.Conclusions.{bnd_of, given_if}
use Rattle.facts.proofs.Conclusions.{given, improves_bnd, improves_given}
use Rattle.facts.proofs.Held.{both_some}
use Rattle.theorem_arith.specs.Shapes.{is_one}
use Rattle.theorem_arith.proofs.Shapes.{one_same}
use Rattle.theorem_arith.proofs.Sound.{bnd_given}
use Rattle.theorem_fix.specs.EachRule.{IsIsotoneOrVoid}
use Rattle.theorem_fix.specs.Shrunk.{shrunk_range, shrunk_of, shrinking_rule, void_without}
use Rattle.theorem_fix.specs.Shrunk.{no_multiple_rule}
use Rattle.theorem_fix.proofs.ShrunkRanges.{shrunk_ends, shrunk_some, shrunk_ordered, multiple_lies}
use Rattle.theorem_fix.proofs.ShrunkRanges.{shrunk_within}

-- ---- sound
neither_known : (u : Option Fraction) (P Q : Fraction → Type 0) → ((x : Fraction) → P x → Q x → ⊥)
    → IsSomeAnd u P → IsSomeAnd u Q → ⊥
neither_known None P Q h p q = p
neither_known (Some x) P Q h p q = h x p q

pub shrinking_rule-sound : IsSound shrinking_rule
shrinking_rule-sound nodes (fact.Bnd x i ∷ fact.Fix y k ∷ []) (slot.Bnd e) f o q = λ a h.
    let t = given (is_one nodes x y && is_same x e) (bnd_of e (shrunk_of i k)) f q in
    let b = and_parts (is_one nodes x y) (is_same x e) t.0 in
    let m : IsSomeAnd (value nodes a x) (IsMultiple k.exponent) = subst (λ z.
    IsSomeAnd (value nodes a z) (IsMultiple k.exponent)) (sym (one_same nodes x y b.0)) h.1.0 in
    bnd_given nodes a e (shrunk_of i k) f t.1
    (λ j s. subst (λ z. IsSomeAnd (value nodes a z) (Lies (range_of j))) (expr_same x e b.1)
    (both_some (value nodes a x) (Lies (range_of i)) (IsMultiple k.exponent)
    (Lies (range_of j)) (λ v l n. outward_of_lies (shrunk_range k.exponent (range_of i)) j v s
    (multiple_lies k.exponent (range_of i) v n l)) h.0 m))
shrinking_rule-sound nodes _ _ f o q = cc

-- a multiple in the interval shows that there is a shrunk one
has_shrunk : (i : Interval) (k : FixPlace) (x : Fraction) → Lies (range_of i) x
    → IsMultiple k.exponent x → (j : Interval) × (shrunk_of i k ≡ Some j)
has_shrunk i k x l m = let t = multiple_lies k.exponent (range_of i) x m l in
    shrunk_some i k (ordered_by (shrunk_range k.exponent (range_of i)).low
    (shrunk_range k.exponent (range_of i)).high x t.0 t.1)

without_out : (o : Option Interval) (f : Fact) → void_without o ≡ Some f
    → (o ≡ None) × (f ≡ fact.Void)
without_out None f e = (refl, sym (some-inj fact.Void f e))
without_out (Some i) f e = cc

none_some : (o : Option Interval) (j : Interval) → o ≡ None → o ≡ Some j → ⊥
none_some o j n s = let e : None ≡ Some j = sym n ∙ s in cc

pub no_multiple_rule-sound : IsSound no_multiple_rule
no_multiple_rule-sound nodes (fact.Bnd x i ∷ fact.Fix y k ∷ []) slot.Void f o q = λ a h.
    let t = given (is_one nodes x y) (void_without (shrunk_of i k)) f q in
    let n = (without_out (shrunk_of i k) f t.1).0 in
    let m : IsSomeAnd (value nodes a x) (IsMultiple k.exponent) = subst (λ z.
    IsSomeAnd (value nodes a z) (IsMultiple k.exponent)) (sym (one_same nodes x y t.0)) h.1.0 in
    absurd (neither_known (value nodes a x) (Lies (range_of i)) (IsMultiple k.exponent)
    (λ v l p. let s = has_shrunk i k v l p in none_some (shrunk_of i k) s.0 n s.1) h.0 m)
no_multiple_rule-sound nodes _ _ f o q = cc

-- ---- from stronger premises
bnd_then_fix : (ps : List Fact) (x : ExprId) (i : Interval) (y : ExprId) (k : FixPlace)
    → EachStronger ps (fact.Bnd x i ∷ fact.Fix y k ∷ [])
    → (j : Interval) × (n : FixPlace) × (ps ≡ fact.Bnd x j ∷ fact.Fix y n ∷ []) × IsWithin j i
    × (k.exponent ≤ℤ n.exponent)
bnd_then_fix ps x i y k s =
    let a = first_premise ps (fact.Bnd x i) (fact.Fix y k ∷ []) s in
    let b = strong_bnd a.0 x i a.2.not_void a.2.first in
    let c = one_fix a.1 y k a.2.others in
    (b.0, c.0, a.2.is ∙ ap (λ p. p ∷ a.1) b.1 ∙ ap (λ l. fact.Bnd x b.0 ∷ l) c.1, b.2, c.2)

-- where the smaller interval has a multiple of the greater power, the greater has one
still_some : (i j : Interval) (k n : FixPlace) (p : Interval) → IsWithin j i
    → k.exponent ≤ℤ n.exponent
    → shrunk_of j n ≡ Some p → (q : Interval) × (shrunk_of i k ≡ Some q)
still_some i j k n p w h e =
    let s = shrunk_range n.exponent (range_of j) in
    let t = shrunk_range k.exponent (range_of i) in
    let m = member_of s.low s.high (shrunk_ordered j n p e) in
    let l = within_in s t m.0 (shrunk_within i j k n w h) (m.1, m.2) in
    shrunk_some i k (ordered_by t.low t.high m.0 l.0 l.1)

void_stays : (nodes : List Node) (x y : ExprId) (i j : Interval) (k n : FixPlace) (c : Fact)
    → IsWithin j i → k.exponent ≤ℤ n.exponent
    → given_if (is_one nodes x y) (void_without (shrunk_of i k)) ≡ Some c
    → Gives (given_if (is_one nodes x y) (void_without (shrunk_of j n))) c
void_stays nodes x y i j k n c w h q =
    let t = given (is_one nodes x y) (void_without (shrunk_of i k)) c q in
    let u = without_out (shrunk_of i k) c t.1 in
    by_case u.0 t.0 (shrunk_of j n) refl
  where
    by_case : shrunk_of i k ≡ None → is_one nodes x y ≡ true → (o : Option Interval)
        → shrunk_of j n ≡ o → Gives (given_if (is_one nodes x y) (void_without o)) c
    by_case m b None e = (fact.Void, ap (λ d. given_if d (Some fact.Void)) b, tt)
    by_case m b (Some p) e = let s = still_some i j k n p w h e in
        absurd (none_some (shrunk_of i k) s.0 m s.1)

pub no_multiple_rule-isotone : IsIsotone no_multiple_rule
no_multiple_rule-isotone nodes (fact.Bnd x i ∷ fact.Fix y k ∷ []) slot.Void ps c s q =
    let a = bnd_then_fix ps x i y k s in
    subst (λ l. Gives (no_multiple_rule nodes l slot.Void) c) (sym a.2)
    (void_stays nodes x y i a.0 k a.1 c a.3 a.4 q)
no_multiple_rule-isotone nodes _ _ ps c s q = cc

further_in : (i j : Interval) (k n : FixPlace) (p q : Interval) → IsWithin j i
    → k.exponent ≤ℤ n.exponent → shrunk_of i k ≡ Some p → shrunk_of j n ≡ Some q → IsWithin q p
further_in i j k n p q w h e f = subst (λ r. Within (range_of q) r) (sym (shrunk_ends i k p e))
    (subst (λ r. Within r (shrunk_range k.exponent (range_of i))) (sym (shrunk_ends j n q f))
    (shrunk_within i j k n w h))

shrunk_or_void : (nodes : List Node) (x y e : ExprId) (i j : Interval) (k n : FixPlace) (c : Fact)
    → IsWithin j i → k.exponent ≤ℤ n.exponent
    → given_if (is_one nodes x y && is_same x e) (bnd_of e (shrunk_of i k)) ≡ Some c
    → Gives (given_if (is_one nodes x y && is_same x e) (bnd_of e (shrunk_of j n))) c
    ⊎ (given_if (is_one nodes x y) (void_without (shrunk_of j n)) ≡ Some fact.Void)
shrunk_or_void nodes x y e i j k n c w h q = by_case (shrunk_of j n) refl
  where
    by_case : (o : Option Interval)
        → shrunk_of j n ≡ o → Gives (given_if (is_one nodes x y && is_same x e) (bnd_of e o)) c
        ⊎ (given_if (is_one nodes x y) (void_without o) ≡ Some fact.Void)
    by_case None m = inr (ap (λ d. given_if d (Some fact.Void)) (and_parts (is_one nodes x y)
        (is_same x e) (given (is_one nodes x y && is_same x e) (bnd_of e (shrunk_of i k)) c q).0).0)
    by_case (Some r) m = inl (improves_given (is_one nodes x y && is_same x e)
        (bnd_of e (shrunk_of i k)) (bnd_of e (Some r))
        (improves_bnd e (shrunk_of i k) (Some r)
        (λ p f. (r, refl, further_in i j k n p r w h f m))) c q)

pub shrinking_rule-isotone : IsIsotoneOrVoid shrinking_rule no_multiple_rule
shrinking_rule-isotone nodes (fact.Bnd x i ∷ fact.Fix y k ∷ []) (slot.Bnd e) ps c s q =
    let a = bnd_then_fix ps x i y k s in
    subst (λ l. Gives (shrinking_rule nodes l (slot.Bnd e)) c ⊎ (no_multiple_rule nodes l slot.Void
    ≡ Some fact.Void)) (sym a.2) (shrunk_or_void nodes x y e i a.0 k a.1 c a.3 a.4 q)
shrinking_rule-isotone nodes _ _ ps c s q = cc
