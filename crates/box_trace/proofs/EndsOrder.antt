-- Of several facts on one slot two are enough: one with the greatest lower end and one with the
-- least upper end.
use Rattle.std.specs.Prelude.{◌≡◌, ℤ, pos, negsuc, ◌≤ℤ◌, Bool, true, false, Option, Some, None}
use Rattle.std.specs.Prelude.{refl}
use Rattle.std.proofs.Common.{◌∙◌, arith, rules}
use Rattle.std.proofs.lemmas.Int.{ints}
use Rattle.fx_model.specs.Grid.{le_bound, Bound}
use Rattle.fx_model.specs.Enclosure.{BoundLe}
use Rattle.dyadic.proofs.Extremes.{BoundLe-trans}
use Rattle.dyadic.specs.Extremes.{BoundLe-refl}
use Rattle.dyadic.specs.Order.{bound_total}
use Rattle.dyadic.specs.Compared.{BoundLe_in}
use Rattle.interval.specs.declared.interval.Interval.{Interval}
use Rattle.interval.specs.Intervals.{range_of}
use Rattle.facts.specs.declared.relative.RelativeError.{RelativeError}
use Rattle.facts.specs.declared.fact.Fact.{Fact}
use Rattle.facts.specs.declared.fact.Fact.TheVariants as fact
use Rattle.facts.specs.Order.{slot_of, IsStronger, IsWithin, IsWithinError}
use Rattle.box_trace.specs.Ends.{IsLow, IsHigh, IsLowError, IsHighError, IsLowBy, IsHighBy}

between : (l h c m : Interval) → IsWithin m l → IsWithin m h → IsLow c l → IsHigh c h → IsWithin m c
between l h c m p q a b = (
  BoundLe-trans (range_of c).low (range_of l).low (range_of m).low a p.0,
  BoundLe-trans (range_of m).high (range_of h).high (range_of c).high q.1 b,
)

-- what is as strong as both is as strong as each whose ends are no further in
pub ends_enough : (l h c m : Fact) → slot_of l ≡ slot_of c → slot_of h ≡ slot_of c → IsLowBy c l
    → IsHighBy c h → IsStronger m l → IsStronger m h → IsStronger m c
ends_enough l h c fact.Void e f a b p q = tt
ends_enough (fact.Bnd x i) (fact.Bnd y j) (fact.Bnd z k) (fact.Bnd w m) e f a b p q =
    (let d : x ≡ z = cc in p.0 ∙ d, between i j k m p.1 q.1 a b)
ends_enough (fact.Abs x i) (fact.Abs y j) (fact.Abs z k) (fact.Abs w m) e f a b p q =
    (let d : x ≡ z = cc in p.0 ∙ d, between i.interval j.interval k.interval m.interval p.1 q.1 a b)
ends_enough (fact.Rel x t i) (fact.Rel y s j) (fact.Rel z r k) (fact.Rel w o m) e f a b p q =
    (let d : x ≡ z = cc in p.0 ∙ d, let d : t ≡ r = cc in p.1 ∙ d, errors i j k m p.2 q.2 a b)
  where
    errors : (i j k m : Option RelativeError) → IsWithinError m i → IsWithinError m j
        → IsLowError k i → IsHighError k j → IsWithinError m k
    errors i j k None p q a b = tt
    errors (Some i) (Some j) (Some k) (Some m) p q a b =
        between i.interval j.interval k.interval m.interval p q a b
    errors None j k (Some m) p q a b = absurd p
    errors (Some i) None k (Some m) p q a b = absurd q
    errors (Some i) (Some j) None (Some m) p q a b = absurd a
ends_enough (fact.Fix x i) (fact.Fix y j) (fact.Fix z k) (fact.Fix w m) e f a b p q =
    (let d : x ≡ z = cc in p.0 ∙ d, let u = p.1 in omega (arith, ints, u, a))
ends_enough (fact.Nzr x) (fact.Nzr y) (fact.Nzr z) (fact.Nzr w) e f a b p q =
    let d : x ≡ z = cc in p ∙ d
ends_enough _ _ _ _ e f a b p q = search rules

-- ---- the orders of ends
bound_other : (b c : Bound) → ¬ BoundLe b c → BoundLe c b
bound_other b c n = by_test (le_bound b c) refl
  where
    by_test : (t : Bool) → le_bound b c ≡ t → BoundLe c b
    by_test true e = absurd (n (BoundLe_in b c e))
    by_test false e = BoundLe_in c b (bound_total b c e)

pub low_refl : (f : Fact) → IsLowBy f f
low_refl (fact.Bnd x i) = BoundLe-refl (range_of i).low
low_refl (fact.Abs x s) = BoundLe-refl (range_of s.interval).low
low_refl (fact.Rel x y None) = tt
low_refl (fact.Rel x y (Some e)) = BoundLe-refl (range_of e.interval).low
low_refl (fact.Fix x k) = omega (arith, ints)
low_refl (fact.Nzr x) = tt
low_refl fact.Void = tt

pub high_refl : (f : Fact) → IsHighBy f f
high_refl (fact.Bnd x i) = BoundLe-refl (range_of i).high
high_refl (fact.Abs x s) = BoundLe-refl (range_of s.interval).high
high_refl (fact.Rel x y None) = tt
high_refl (fact.Rel x y (Some e)) = BoundLe-refl (range_of e.interval).high
high_refl (fact.Fix x k) = tt
high_refl (fact.Nzr x) = tt
high_refl fact.Void = tt

int_other : (a b : ℤ) → ¬ (a ≤ℤ b) → b ≤ℤ a
int_other (pos a) (pos b) n = grind (arith, ints, n)
int_other (pos a) (negsuc b) n = grind (arith, ints, n)
int_other (negsuc a) (pos b) n = grind (arith, ints, n)
int_other (negsuc a) (negsuc b) n = grind (arith, ints, n)

-- of two facts on one slot, one is low by the other
pub low_other : (f g : Fact) → ¬ IsLowBy f g → IsLowBy g f
low_other (fact.Bnd x i) (fact.Bnd y j) n = bound_other (range_of i).low (range_of j).low n
low_other (fact.Abs x s) (fact.Abs y t) n =
    bound_other (range_of s.interval).low (range_of t.interval).low n
low_other (fact.Rel x z (Some d)) (fact.Rel y w (Some e)) n =
    bound_other (range_of d.interval).low (range_of e.interval).low n
low_other (fact.Rel x z None) (fact.Rel y w (Some e)) n = tt
low_other (fact.Rel x z d) (fact.Rel y w None) n = absurd (n tt)
low_other (fact.Fix x k) (fact.Fix y m) n = int_other k.exponent m.exponent n
low_other _ _ n = search rules

pub low_trans : (f g h : Fact) → slot_of f ≡ slot_of g → slot_of g ≡ slot_of h → IsLowBy f g
    → IsLowBy g h → IsLowBy f h
low_trans (fact.Bnd x i) (fact.Bnd y j) (fact.Bnd z k) e d a b =
    BoundLe-trans (range_of i).low (range_of j).low (range_of k).low a b
low_trans (fact.Abs x i) (fact.Abs y j) (fact.Abs z k) e d a b =
    BoundLe-trans (range_of i.interval).low (range_of j.interval).low (range_of k.interval).low a b
low_trans (fact.Rel x i None) (fact.Rel y j None) (fact.Rel z k None) e d a b = tt
low_trans (fact.Rel x i (Some p)) (fact.Rel y j (Some q)) (fact.Rel z k (Some r)) e d a b =
    BoundLe-trans (range_of p.interval).low (range_of q.interval).low (range_of r.interval).low a b
low_trans (fact.Fix x i) (fact.Fix y j) (fact.Fix z k) e d a b = omega (arith, ints, a, b)
low_trans _ _ _ e d a b = search rules

pub high_other : (f g : Fact) → ¬ IsHighBy f g → IsHighBy g f
high_other (fact.Bnd x i) (fact.Bnd y j) n = bound_other (range_of j).high (range_of i).high n
high_other (fact.Abs x s) (fact.Abs y t) n =
    bound_other (range_of t.interval).high (range_of s.interval).high n
high_other (fact.Rel x z (Some d)) (fact.Rel y w (Some e)) n =
    bound_other (range_of e.interval).high (range_of d.interval).high n
high_other (fact.Rel x z None) (fact.Rel y w (Some e)) n = tt
high_other (fact.Rel x z d) (fact.Rel y w None) n = absurd (n tt)
high_other _ _ n = search rules

pub high_trans : (f g h : Fact) → slot_of f ≡ slot_of g → slot_of g ≡ slot_of h → IsHighBy f g
    → IsHighBy g h → IsHighBy f h
high_trans (fact.Bnd x i) (fact.Bnd y j) (fact.Bnd z k) e d a b =
    BoundLe-trans (range_of k).high (range_of j).high (range_of i).high b a
high_trans (fact.Abs x i) (fact.Abs y j) (fact.Abs z k) e d a b = BoundLe-trans
    (range_of k.interval).high (range_of j.interval).high (range_of i.interval).high b a
high_trans (fact.Rel x i None) (fact.Rel y j None) (fact.Rel z k None) e d a b = tt
high_trans (fact.Rel x i (Some p)) (fact.Rel y j (Some q)) (fact.Rel z k (Some r)) e d a b =
    BoundLe-trans (range_of r.interval).high (range_of q.interval).high
    (range_of p.interval).high b a
high_trans _ _ _ e d a b = search rules
