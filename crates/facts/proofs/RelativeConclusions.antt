-- Laws of what specs/RelativeConclusions defines.
use Rattle.std.specs.Prelude.{◌≡◌, Option, Some, None, refl}
use Rattle.std.proofs.Common.{sym, ap, subst, ◌∙◌, inl, inr}
use Rattle.fx_model.specs.Fraction.{neg_ℚ, one_ℚ}
use Rattle.fx_model.specs.declared.ExprId.{ExprId}
use Rattle.interval.specs.declared.interval.Interval.{Interval}
use Rattle.interval.specs.Intervals.{range_of}
use Rattle.facts.specs.declared.relative.RelativeError.{RelativeError}
use Rattle.facts.specs.declared.fact.Fact.{Fact}
use Rattle.facts.specs.declared.fact.Fact.TheVariants as fact
use Rattle.facts.specs.declared.fact.Slot.TheVariants as slot
use Rattle.facts.specs.Order.{IsWithin, IsStronger}
use Rattle.facts.specs.Parts.{error_from, error_from_out, error_from-some, error_of_part}
use Rattle.facts.proofs.Ranges.{IsBelow-mono}
use Rattle.facts.specs.Ranges.{IsAboveMinusOne}
use Rattle.facts.proofs.Conclusions.{Improves, StandsOn, fact_stands}
use Rattle.facts.specs.RelativeConclusions.{rel_of, void_only}

-- what is VOID alone is what is given
pub void_only_out : (o : Option Fact) (f : Fact) → void_only o ≡ Some f → o ≡ Some f
void_only_out None f e = cc
void_only_out (Some fact.Void) f e = e
void_only_out (Some _) f e = cc

-- a REL fact isn't VOID
pub no_void_rel : (x y : ExprId) (o : Option RelativeError) (f : Fact)
    → void_only (rel_of x y o) ≡ Some f → ⊥
no_void_rel x y None f e = cc
no_void_rel x y (Some d) f e = cc

-- ---- one improves another
-- of a smaller interval there are relative errors where there are of a greater
pub error_from-within : (i j : Interval) (e : RelativeError) → IsWithin j i → error_from i ≡ Some e
    → (d : RelativeError) × (error_from j ≡ Some d) × IsWithin d.interval e.interval
error_from-within i j e w q =
    let k = error_from_out i e q in
    let z : IsAboveMinusOne (range_of j) = IsBelow-mono (neg_ℚ one_ℚ) (range_of i).low
    (range_of j).low (subst (λ k. IsAboveMinusOne (range_of k)) k e.above_minus_one) w.0 in (
      record { interval = j; above_minus_one = z },
      error_from-some j z,
      subst (IsWithin j) (sym k) w,
    )

pub improves_rel : (x y : ExprId) (u v : Option RelativeError) → ((e : RelativeError)
    → u ≡ Some e → (d : RelativeError) × (v ≡ Some d) × IsWithin d.interval e.interval)
    → Improves (rel_of x y u) (rel_of x y v)
improves_rel x y None v h c q = cc
improves_rel x y (Some e) v h c q = let d = h e refl in (
  fact.Rel x y (Some d.0),
  ap (rel_of x y) d.1,
  subst (IsStronger (fact.Rel x y (Some d.0)))
      (let g : fact.Rel x y (Some e) ≡ c = cc in g) (refl, refl, d.2),
)

pub improves_error : (x y : ExprId) (i j : Interval) → IsWithin j i
    → Improves (rel_of x y (error_from i)) (rel_of x y (error_from j))
improves_error x y i j w =
    improves_rel x y (error_from i) (error_from j) (λ e q. error_from-within i j e w q)

pub improves_part : (x y : ExprId) (u v : Option Interval)
    → ((i : Interval) → u ≡ Some i → (j : Interval) × (v ≡ Some j) × IsWithin j i)
    → Improves (rel_of x y (error_of_part u)) (rel_of x y (error_of_part v))
improves_part x y None v h c q = cc
improves_part x y (Some i) v h c q = let j = h i refl in
    subst (λ o. Improves (rel_of x y (error_from i)) (rel_of x y (error_of_part o))) (sym j.1)
    (improves_error x y i j.0 j.2) c q

-- VOID improves everything
pub improves_void : (u : Option Fact) → Improves u (Some fact.Void)
improves_void u c q = (fact.Void, refl, tt)

-- a fact that is as strong as each relative error that may be given
pub improves_to : (x y : ExprId) (u : Option RelativeError) (g : Fact) → ((e : RelativeError)
    → u ≡ Some e → IsStronger g (fact.Rel x y (Some e))) → Improves (rel_of x y u) (Some g)
improves_to x y None g h c q = cc
improves_to x y (Some e) g h c q =
    (g, refl, subst (IsStronger g) (let k : fact.Rel x y (Some e) ≡ c = cc in k) (h e refl))

pub improves_to_none : (x y : ExprId) (u : Option RelativeError)
    → Improves (rel_of x y u) (Some (fact.Rel x y None))
improves_to_none x y u = improves_to x y u (fact.Rel x y None) (λ e q. (refl, refl, tt))

pub improves_fact : (f g : Fact) → IsStronger g f → Improves (Some f) (Some g)
improves_fact f g s c q = (g, refl, subst (IsStronger g) (let h : f ≡ c = cc in h) s)

-- where VOID is given, VOID is given by what improves it
pub improves_void_only : (u v : Option Fact) → Improves u v → Improves (void_only u) (void_only v)
improves_void_only None v h c q = cc
improves_void_only (Some fact.Void) v h c q =
    let d = h fact.Void refl in
    let e : c ≡ fact.Void = cc in
    subst (λ o. (k : Fact) × (void_only o ≡ Some k) × IsStronger k c)
    (sym (d.1 ∙ ap Some (alone d.0 d.2))) (fact.Void, refl, tt)
  where
    alone : (k : Fact) → IsStronger k fact.Void → k ≡ fact.Void
    alone fact.Void s = refl
    alone _ s = absurd s
improves_void_only (Some _) v h c q = cc

-- ---- they stand
pub rel_stands : (x y : ExprId) (o : Option RelativeError) → StandsOn (slot.Rel x y) (rel_of x y o)
rel_stands x y None f e = cc
rel_stands x y (Some d) f e = fact_stands (slot.Rel x y) (fact.Rel x y (Some d)) (inl refl) f e

pub void_only_stands : (o : Option Fact) → StandsOn slot.Void (void_only o)
void_only_stands None f e = cc
void_only_stands (Some fact.Void) f e = fact_stands slot.Void fact.Void (inr refl) f e
void_only_stands (Some _) f e = cc
