-- What holds is kept by "weaker" and by meets.
use Rattle.std.specs.Prelude.{◌≡◌, ◌≢◌, ◌&&◌, ◌≤ℤ◌, ℤ, pos, ◌*ℤ◌, ◌^◌, Bool, true, false, Option}
use Rattle.std.specs.Prelude.{Some, None, List, if◌then◌else◌, refl}
use Rattle.std.specs.Option.{IsSomeAnd}
use Rattle.std.specs.Int.RustNames.{int_lt}
use Rattle.std.proofs.Common.{sym, ◌∙◌, ap, subst, inl, inr, ⊎_elim, rules}
use Rattle.std.proofs.lemmas.Bool.{and_parts}
use Rattle.fx_model.specs.Fraction.{Fraction, ◌-ℚ◌, ◌/ℚ◌, abs_ℚ, zero_ℚ, one_ℚ}
use Rattle.fx_model.specs.Powers.{IsMultiple, scaled, scaled-shift}
use Rattle.fx_model.specs.Enclosure.{Lies, within_in}
use Rattle.fx_model.specs.Expression.{Assignment, value}
use Rattle.fx_model.specs.declared.Node.{Node}
use Rattle.fx_model.specs.declared.ExprId.{ExprId}
use Rattle.dyadic.specs.Odd.{above}
use Rattle.interval.specs.declared.interval.Interval.{Interval}
use Rattle.interval.specs.Intervals.{range_of}
use Rattle.interval.specs.Meets.{common_of}
use Rattle.interval.proofs.Meets.{lies-common}
use Rattle.facts.specs.declared.size.Size.{Size}
use Rattle.facts.specs.declared.relative.RelativeError.{RelativeError}
use Rattle.facts.specs.declared.place.FixPlace.{FixPlace}
use Rattle.facts.specs.declared.fact.Fact.{Fact}
use Rattle.facts.specs.declared.fact.Fact.TheVariants as fact
use Rattle.facts.specs.Parts.{common_size, common_error, greater_place}
use Rattle.facts.specs.Holds.{AreZero, IsRelated, IsRelatedBy, Holds}
use Rattle.facts.specs.Order.{IsWithin, IsWithinError, IsStronger, is_same, bounded, sized, meet_of}
use Rattle.facts.proofs.CommonParts.{common_size-some, common_error-some, if-some, expr_same}

-- what a value is known for carries over to what follows from it
pub some-and : (o : Option Fraction) (P Q : Fraction → Type 0) → ((x : Fraction) → P x → Q x)
    → IsSomeAnd o P → IsSomeAnd o Q
some-and None P Q h p = p
some-and (Some x) P Q h p = h x p

-- a multiple of 2^k is one of each lower power
pub multiple-lower : (k n : ℤ) (x : Fraction) → n ≤ℤ k → IsMultiple k x → IsMultiple n x
multiple-lower k n x l m = let g = above k n l in
    (m.0 *ℤ pos (2 ^ g.0), m.1 ∙ ap (scaled m.0) g.1 ∙ scaled-shift m.0 n g.0)

pub related-wider : (i j : Interval) (x y : Fraction) → IsWithin i j
    → IsRelated i x y → IsRelated j x y
related-wider i j x y w r = ⊎_elim (λ z. inl z)
    (λ q. inr (q.0, within_in (range_of i) (range_of j) ((x /ℚ y) -ℚ one_ℚ) w q.1)) r

related_by-within : (d e : Option RelativeError) (x y : Fraction) → IsWithinError d e
    → IsRelatedBy d x y → IsRelatedBy e x y
related_by-within None None x y w r = r
related_by-within None (Some e) x y w r = inl r
related_by-within (Some d) None x y w r = absurd w
related_by-within (Some d) (Some e) x y w r = related-wider d.interval e.interval x y w r

-- A stronger fact that holds shows that the weaker one does.
pub IsStronger-Holds : (nodes : List Node) (a : Assignment) (f g : Fact) → IsStronger f g
    → Holds nodes a f → Holds nodes a g
IsStronger-Holds nodes a fact.Void g s h = absurd h
IsStronger-Holds nodes a (fact.Bnd x i) (fact.Bnd y j) s h =
    subst (λ z. IsSomeAnd (value nodes a z) (Lies (range_of j))) s.0
    (some-and (value nodes a x) (Lies (range_of i)) (Lies (range_of j))
    (λ v l. within_in (range_of i) (range_of j) v s.1 l) h)
IsStronger-Holds nodes a (fact.Abs x i) (fact.Abs y j) s h =
    subst (λ z. IsSomeAnd (value nodes a z) (λ v. Lies (range_of j.interval) (abs_ℚ v))) s.0
    (some-and (value nodes a x)
    (λ v. Lies (range_of i.interval) (abs_ℚ v)) (λ v. Lies (range_of j.interval) (abs_ℚ v))
    (λ v l. within_in (range_of i.interval) (range_of j.interval) (abs_ℚ v) s.1 l) h)
IsStronger-Holds nodes a (fact.Rel x z d) (fact.Rel y w e) s h =
    subst (λ u. IsSomeAnd (value nodes a u)
    (λ v. IsSomeAnd (value nodes a w) (IsRelatedBy e v))) s.0
    (subst (λ u. IsSomeAnd (value nodes a x)
    (λ v. IsSomeAnd (value nodes a u) (IsRelatedBy e v))) s.1
    (some-and (value nodes a x) (λ v. IsSomeAnd (value nodes a z) (IsRelatedBy d v))
    (λ v. IsSomeAnd (value nodes a z) (IsRelatedBy e v))
    (λ v k. some-and (value nodes a z) (IsRelatedBy d v) (IsRelatedBy e v)
    (λ u r. related_by-within d e v u s.2 r) k) h))
IsStronger-Holds nodes a (fact.Fix x k) (fact.Fix y n) s h =
    subst (λ z. IsSomeAnd (value nodes a z) (IsMultiple n.exponent)) s.0
    (some-and (value nodes a x) (IsMultiple k.exponent) (IsMultiple n.exponent)
    (λ v m. multiple-lower k.exponent n.exponent v s.1 m) h)
IsStronger-Holds nodes a (fact.Nzr x) (fact.Nzr y) s h =
    subst (λ z. IsSomeAnd (value nodes a z) (λ v. v ≢ zero_ℚ)) s h
IsStronger-Holds nodes a _ _ s h = search rules

-- ---- meets
pub both_some : (o : Option Fraction) (P Q R : Fraction → Type 0)
    → ((x : Fraction) → P x → Q x → R x) → IsSomeAnd o P → IsSomeAnd o Q → IsSomeAnd o R
both_some None P Q R h p q = p
both_some (Some x) P Q R h p q = h x p q

related_by-meet : (d e : Option RelativeError) (x y : Fraction) → IsRelatedBy d x y
    → IsRelatedBy e x y → IsRelatedBy (common_error d e) x y
related_by-meet None e x y p q = p
related_by-meet (Some d) None x y p q = q
related_by-meet (Some d) (Some e) x y p q = ⊎_elim
    (λ z. zero_related (common_error (Some d) (Some e)) z)
    (λ s. ⊎_elim (λ z. absurd (s.0 z.1)) (λ t. in_both s.0 s.1 t.1) q) p
  where
    zero_related : (o : Option RelativeError) → AreZero x y → IsRelatedBy o x y
    zero_related None z = z
    zero_related (Some c) z = inl z

    in_both : y ≢ zero_ℚ → Lies (range_of d.interval) ((x /ℚ y) -ℚ one_ℚ)
        → Lies (range_of e.interval) ((x /ℚ y) -ℚ one_ℚ)
        → IsRelatedBy (common_error (Some d) (Some e)) x y
    in_both n l m =
        let h = lies-common d.interval e.interval ((x /ℚ y) -ℚ one_ℚ) l m in
        let c = common_error-some d e h.0 h.1 in
        subst (λ o. IsRelatedBy o x y) (sym c.1)
        (inr (n, subst (λ i. Lies (range_of i) ((x /ℚ y) -ℚ one_ℚ)) (sym c.2) h.2))

place-meet : (k n : FixPlace) (x : Fraction) → IsMultiple k.exponent x → IsMultiple n.exponent x
    → IsMultiple (greater_place k n).exponent x
place-meet k n x p q = by_test (int_lt k.exponent n.exponent)
  where
    by_test : (b : Bool) → IsMultiple (if b then n else k).exponent x
    by_test true = q
    by_test false = p

bounded-holds : (nodes : List Node) (a : Assignment) (x : ExprId) (i j : Interval)
    → Holds nodes a (fact.Bnd x i) → Holds nodes a (fact.Bnd x j)
    → Holds nodes a (bounded x (common_of i j))
bounded-holds nodes a x i j p q = at_value (value nodes a x) refl p q
  where
    at_value : (o : Option Fraction) → value nodes a x ≡ o → IsSomeAnd o (Lies (range_of i))
        → IsSomeAnd o (Lies (range_of j)) → Holds nodes a (bounded x (common_of i j))
    at_value None e p q = absurd p
    at_value (Some v) e p q = let h = lies-common i j v p q in
        subst (λ o. Holds nodes a (bounded x o)) (sym h.1)
        (subst (λ o. IsSomeAnd o (Lies (range_of h.0))) (sym e) h.2)

sized-holds : (nodes : List Node) (a : Assignment) (x : ExprId) (s t : Size)
    → Holds nodes a (fact.Abs x s) → Holds nodes a (fact.Abs x t)
    → Holds nodes a (sized x (common_size s t))
sized-holds nodes a x s t p q = at_value (value nodes a x) refl p q
  where
    at_value : (o : Option Fraction)
        → value nodes a x ≡ o → IsSomeAnd o (λ v. Lies (range_of s.interval) (abs_ℚ v))
        → IsSomeAnd o (λ v. Lies (range_of t.interval) (abs_ℚ v))
        → Holds nodes a (sized x (common_size s t))
    at_value None e p q = absurd p
    at_value (Some v) e p q =
        let h = lies-common s.interval t.interval (abs_ℚ v) p q in
        let c = common_size-some s t h.0 h.1 in
        subst (λ o. Holds nodes a (sized x o))
        (sym c.1) (subst (λ o. IsSomeAnd o (λ v. Lies (range_of c.0.interval) (abs_ℚ v))) (sym e)
        (subst (λ i. Lies (range_of i) (abs_ℚ v)) (sym c.2) h.2))

-- A meet of facts that hold, holds.
pub meet-Holds : (nodes : List Node) (a : Assignment) (f g h : Fact) → meet_of f g ≡ Some h
    → Holds nodes a f → Holds nodes a g → Holds nodes a h
meet-Holds nodes a fact.Void g h e p q = absurd p
meet-Holds nodes a f fact.Void h e p q = absurd q
meet-Holds nodes a (fact.Bnd x i) (fact.Bnd y j) h e p q =
    let t = if-some (is_same x y) (bounded x (common_of i j)) h e in
    let s : x ≡ y = expr_same x y t.0 in
    subst (Holds nodes a) t.1
    (bounded-holds nodes a x i j p (subst (λ z. Holds nodes a (fact.Bnd z j)) (sym s) q))
meet-Holds nodes a (fact.Abs x i) (fact.Abs y j) h e p q =
    let t = if-some (is_same x y) (sized x (common_size i j)) h e in
    let s : x ≡ y = expr_same x y t.0 in
    subst (Holds nodes a) t.1
    (sized-holds nodes a x i j p (subst (λ z. Holds nodes a (fact.Abs z j)) (sym s) q))
meet-Holds nodes a (fact.Rel x z d) (fact.Rel y w o) h e p q =
    let t = if-some (is_same x y && is_same z w) (fact.Rel x z (common_error d o)) h e in
    let b = and_parts (is_same x y) (is_same z w) t.0 in
    let s : x ≡ y = expr_same x y b.0 in
    let u : z ≡ w = expr_same z w b.1 in
    let r : Holds nodes a (fact.Rel x z o) = subst (λ k. Holds nodes a (fact.Rel k z o)) (sym s)
    (subst (λ k. Holds nodes a (fact.Rel y k o)) (sym u) q) in
    subst (Holds nodes a) t.1 (both_some (value nodes a x) (λ v. IsSomeAnd (value nodes a z)
    (IsRelatedBy d v)) (λ v. IsSomeAnd (value nodes a z) (IsRelatedBy o v))
    (λ v. IsSomeAnd (value nodes a z) (IsRelatedBy (common_error d o) v))
    (λ v k l. both_some (value nodes a z) (IsRelatedBy d v) (IsRelatedBy o v)
    (IsRelatedBy (common_error d o) v) (λ w m n. related_by-meet d o v w m n) k l) p r)
meet-Holds nodes a (fact.Fix x k) (fact.Fix y n) h e p q =
    let t = if-some (is_same x y) (fact.Fix x (greater_place k n)) h e in
    let s : x ≡ y = expr_same x y t.0 in
    subst (Holds nodes a) t.1 (both_some (value nodes a x) (IsMultiple k.exponent)
    (IsMultiple n.exponent) (IsMultiple (greater_place k n).exponent)
    (λ v l m. place-meet k n v l m) p (subst (λ z. Holds nodes a (fact.Fix z n)) (sym s) q))
meet-Holds nodes a (fact.Nzr x) (fact.Nzr y) h e p q =
    let t = if-some (is_same x y) (fact.Nzr x) h e in subst (Holds nodes a) t.1 p
meet-Holds nodes a _ _ h e p q = cc
