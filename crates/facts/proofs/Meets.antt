-- Which facts have a meet, and that facts which are each stronger than the other are the same.
use mathlib.Core.HLevel.{is_prop→PathP}
use Rattle.std.specs.Prelude.{◌≡◌, ◌&&◌, ◌⊎◌, ◌↔◌, ℤ, pos, negsuc, ◌≤ℤ◌, Option, Some, None, refl}
use Rattle.std.proofs.Common.{sym, ◌∙◌, ap, subst, inl, inr, ⊎_elim, arith, rules}
use Rattle.std.proofs.lemmas.Int.{ints}
use Rattle.std.proofs.Math.Dec.{T_prop}
use Rattle.std.proofs.lemmas.Bool.{and_parts}
use Rattle.dyadic.proofs.Extremes.{BoundLe-antisymm}
use Rattle.interval.specs.declared.interval.Interval.{Interval}
use Rattle.interval.specs.Intervals.{range_of}
use Rattle.interval.proofs.Intervals.{same_range}
use Rattle.interval.specs.Meets.{common_of}
use Rattle.facts.specs.declared.size.Size.{Size}
use Rattle.facts.specs.declared.relative.RelativeError.{RelativeError}
use Rattle.facts.specs.declared.place.FixPlace.{FixPlace}
use Rattle.facts.specs.declared.fact.Fact.{Fact}
use Rattle.facts.specs.declared.fact.Fact.TheVariants as fact
use Rattle.facts.specs.declared.fact.Slot.TheVariants as slot
use Rattle.facts.specs.Parts.{common_size, common_error, greater_place}
use Rattle.facts.proofs.Parts.{size_from_self, error_from_self}
use Rattle.facts.specs.Order.{slot_of, IsWithin, IsWithinError, IsStronger, is_same, bounded, sized}
use Rattle.facts.specs.Order.{meet_of, AreUnlike}
use Rattle.facts.proofs.CommonParts.{at_option, some-inj, if-some, expr_same}
use Rattle.facts.proofs.Laws.{IsStronger-refl, IsStronger-slot, IsStronger-meet, IsMeet}
use Rattle.facts.proofs.Laws.{meet_exists}

-- ---- one fact only is as strong as another both ways
intervals_same : (i j : Interval) → IsWithin i j → IsWithin j i → i ≡ j
intervals_same i j p q = same_range i j (λ k. record {
  low = BoundLe-antisymm (range_of i).low (range_of j).low q.0 p.0 k;
  high = BoundLe-antisymm (range_of i).high (range_of j).high p.1 q.1 k;
})

sizes_same : (s t : Size) → IsWithin s.interval t.interval → IsWithin t.interval s.interval → s ≡ t
sizes_same s t p q = some-inj s t (size_from_self s
    ∙ rw (intervals_same s.interval t.interval p q) (sym (size_from_self t)))

errors_same : (d e : Option RelativeError) → IsWithinError d e → IsWithinError e d → d ≡ e
errors_same None None p q = refl
errors_same None (Some e) p q = absurd q
errors_same (Some d) None p q = absurd p
errors_same (Some d) (Some e) p q =
    error_from_self d ∙ rw (intervals_same d.interval e.interval p q) (sym (error_from_self e))

le_prop_ℤ : (m n : ℤ) → IsProp (m ≤ℤ n)
le_prop_ℤ m n = hlevel T_prop

places_same : (k n : FixPlace) → n.exponent ≤ℤ k.exponent → k.exponent ≤ℤ n.exponent → k ≡ n
places_same k n p q = λ i. record {
  exponent = same i;
  lowest = is_prop→PathP (λ i. negsuc 1023 ≤ℤ same i)
      (λ i. le_prop_ℤ (negsuc 1023) (same i)) k.lowest n.lowest i;
  highest = is_prop→PathP (λ i. same i ≤ℤ pos 512)
      (λ i. le_prop_ℤ (same i) (pos 512)) k.highest n.highest i;
}
  where
    same : k.exponent ≡ n.exponent
    same = omega (arith, ints)

-- Facts that are each stronger than the other are the same.
pub IsStronger-antisymm : (f g : Fact) → IsStronger f g → IsStronger g f → f ≡ g
IsStronger-antisymm fact.Void fact.Void p q = refl
IsStronger-antisymm (fact.Bnd x i) (fact.Bnd y j) p q =
    λ k. fact.Bnd (p.0 k) (intervals_same i j p.1 q.1 k)
IsStronger-antisymm (fact.Abs x s) (fact.Abs y t) p q =
    λ k. fact.Abs (p.0 k) (sizes_same s t p.1 q.1 k)
IsStronger-antisymm (fact.Rel x z d) (fact.Rel y w e) p q =
    λ k. fact.Rel (p.0 k) (p.1 k) (errors_same d e p.2 q.2 k)
IsStronger-antisymm (fact.Fix x k) (fact.Fix y n) p q =
    λ i. fact.Fix (p.0 i) (places_same k n p.1 q.1 i)
IsStronger-antisymm (fact.Nzr x) (fact.Nzr y) p q = ap fact.Nzr p
IsStronger-antisymm _ _ p q = search rules

-- ---- which facts have a meet
pub void_meet : (a : Fact) → meet_of a fact.Void ≡ Some fact.Void
void_meet fact.Void = refl
void_meet (fact.Bnd x i) = refl
void_meet (fact.Abs x s) = refl
void_meet (fact.Rel x y e) = refl
void_meet (fact.Fix x k) = refl
void_meet (fact.Nzr x) = refl

-- where there is a meet, one fact is VOID or both stand on one slot
meet-slots : (a b f : Fact) → meet_of a b ≡ Some f
    → (a ≡ fact.Void) ⊎ ((b ≡ fact.Void) ⊎ (slot_of a ≡ slot_of b))
meet-slots fact.Void b f e = inl refl
meet-slots a fact.Void f e = inr (inl refl)
meet-slots (fact.Bnd x i) (fact.Bnd y j) f e = inr
    (inr (ap slot.Bnd (expr_same x y (if-some (is_same x y) (bounded x (common_of i j)) f e).0)))
meet-slots (fact.Abs x s) (fact.Abs y t) f e = inr
    (inr (ap slot.Abs (expr_same x y (if-some (is_same x y) (sized x (common_size s t)) f e).0)))
meet-slots (fact.Rel x z d) (fact.Rel y w o) f e =
    let b = and_parts (is_same x y) (is_same z w)
    (if-some (is_same x y && is_same z w) (fact.Rel x z (common_error d o)) f e).0 in
    inr (inr (λ k. slot.Rel (expr_same x y b.0 k) (expr_same z w b.1 k)))
meet-slots (fact.Fix x k) (fact.Fix y n) f e = inr (inr
    (ap slot.Fix (expr_same x y (if-some (is_same x y) (fact.Fix x (greater_place k n)) f e).0)))
meet-slots (fact.Nzr x) (fact.Nzr y) f e =
    inr (inr (ap slot.Nzr (expr_same x y (if-some (is_same x y) (fact.Nzr x) f e).0)))
meet-slots _ _ f e = cc

-- A meet is as strong as both facts.
pub meet-IsMeet : (a b f : Fact) → meet_of a b ≡ Some f → IsMeet a b f
meet-IsMeet a b f e = ⊎_elim first (λ r. ⊎_elim second third r) (meet-slots a b f e)
  where
    of_void : f ≡ fact.Void → IsMeet a b f
    of_void v = record {
      is = e;
      left = subst (λ g. IsStronger g a) (sym v) tt;
      right = subst (λ g. IsStronger g b) (sym v) tt;
    }

    first : a ≡ fact.Void → IsMeet a b f
    first v = of_void (some-inj f fact.Void (sym e ∙ ap (λ g. meet_of g b) v))

    second : b ≡ fact.Void → IsMeet a b f
    second v = of_void (some-inj f fact.Void (sym e ∙ ap (λ g. meet_of a g) v ∙ void_meet a))

    third : slot_of a ≡ slot_of b → IsMeet a b f
    third s = let m = meet_exists a b s in subst (IsMeet a b) (some-inj m.0 f (sym m.1.is ∙ e)) m.1

none_or_some : (a b : Fact) → (f : Fact) → meet_of a b ≡ None → meet_of a b ≡ Some f → ⊥
none_or_some a b f n s = let g : None ≡ Some f = sym n ∙ s in cc

-- Facts have no meet just where they are unlike.
pub meet-none : (a b : Fact) → (meet_of a b ≡ None) ↔ AreUnlike a b
meet-none a b = (apart, empty)
  where
    apart : meet_of a b ≡ None → AreUnlike a b
    apart n = (
      λ v. none_or_some a b fact.Void n (ap (λ g. meet_of g b) v),
      λ v. none_or_some a b fact.Void n (ap (λ g. meet_of a g) v ∙ void_meet a),
      λ s. let m = meet_exists a b s in none_or_some a b m.0 n m.1.is,
    )

    empty : AreUnlike a b → meet_of a b ≡ None
    empty u = at_option (meet_of a b) (λ o. o ≡ None) (λ e. refl)
        (λ f e. absurd (⊎_elim u.0 (λ r. ⊎_elim u.1 u.2 r) (meet-slots a b f e)))

-- Of two facts in either order the meet is the same.
pub meet-exchanged : (a b : Fact) → meet_of a b ≡ meet_of b a
meet-exchanged a b = at_option (meet_of a b) (λ o. o ≡ meet_of b a)
    (λ e. let u = (meet-none a b).0 e in sym ((meet-none b a).1 (u.1, u.0, λ s. u.2 (sym s))))
    (λ f e. at_option (meet_of b a) (λ o. Some f ≡ o)
    (λ n. let u = (meet-none b a).0 n in
    absurd (none_or_some a b f ((meet-none a b).1 (u.1, u.0, λ s. u.2 (sym s))) e))
    (λ g h. ap Some (one_meet f g e h)))
  where
    one_meet : (f g : Fact) → meet_of a b ≡ Some f → meet_of b a ≡ Some g → f ≡ g
    one_meet f g e h =
        let m = meet-IsMeet a b f e in
        let n = meet-IsMeet b a g h in
        IsStronger-antisymm f g (IsStronger-meet f b a g m.right m.left h)
        (IsStronger-meet g a b f n.right n.left e)

-- A fact that is stronger than another is their meet.
pub meet-stronger : (a b : Fact) → IsStronger a b → meet_of a b ≡ Some a
meet-stronger a b s = ⊎_elim of_void on_one_slot (IsStronger-slot a b s)
  where
    of_void : a ≡ fact.Void → meet_of a b ≡ Some a
    of_void v = ap (λ g. meet_of g b) v ∙ ap Some (sym v)

    on_one_slot : slot_of a ≡ slot_of b → meet_of a b ≡ Some a
    on_one_slot e =
        let m = meet_exists a b e in
        m.1.is ∙ ap Some (IsStronger-antisymm m.0 a m.1.left
        (IsStronger-meet a a b m.0 (IsStronger-refl a) s m.1.is))
