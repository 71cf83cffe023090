-- Laws of what specs/Conclusions defines.
use Rattle.std.specs.Prelude.{◌≡◌, ◌⊎◌, ◌≤ℤ◌, Bool, true, false, Option, Some, None, if◌then◌else◌}
use Rattle.std.specs.Prelude.{refl}
use Rattle.std.proofs.Common.{ap, subst, inl}
use Rattle.fx_model.specs.declared.ExprId.{ExprId}
use Rattle.interval.specs.declared.interval.Interval.{Interval}
use Rattle.facts.specs.declared.place.FixPlace.{FixPlace}
use Rattle.facts.specs.declared.size.Size.{Size}
use Rattle.facts.specs.declared.fact.Fact.{Fact}
use Rattle.facts.specs.declared.fact.Slot.{Slot}
use Rattle.facts.specs.declared.fact.Fact.TheVariants as fact
use Rattle.facts.specs.declared.fact.Slot.TheVariants as slot
use Rattle.facts.specs.Order.{IsWithin, IsStronger, slot_of}
use Rattle.facts.specs.Premises.{Gives}
use Rattle.facts.specs.Conclusions.{only_if, given_if, bnd_of, abs_of, fix_of}

-- ---- what is given behind a test
pub given : {X : Type 0} (b : Bool) (o : Option X) (f : X) → (if b then o else None) ≡ Some f
    → (b ≡ true) × (o ≡ Some f)
given true o f e = (refl, e)
given false o f e = cc

-- ---- when one improves another
-- whatever the first gives, the second gives it or something stronger
abbrev pub Improves : Option Fact → Option Fact → Type 0
Improves u v = (c : Fact) → u ≡ Some c → Gives v c

-- smaller intervals have a smaller result
abbrev pub IsRising : (Interval → Interval → Interval) → Type 0
IsRising op = (i j k l : Interval) → IsWithin i k → IsWithin j l → IsWithin (op i j) (op k l)

-- behind a test that holds where the other does
pub improves_if : (b d : Bool) (f g : Fact) → (b ≡ true → d ≡ true) → IsStronger g f
    → Improves (only_if b f) (only_if d g)
improves_if true true f g t s c e = (g, refl, subst (IsStronger g) (let h : f ≡ c = cc in h) s)
improves_if true false f g t s c e = let h : false ≡ true = t refl in cc
improves_if false d f g t s c e = cc

pub improves_only : (b : Bool) (f g : Fact) → IsStronger g f → Improves (only_if b f) (only_if b g)
improves_only b f g s = improves_if b b f g (λ t. t) s

pub improves_given : (b : Bool) (u v : Option Fact) → Improves u v
    → Improves (given_if b u) (given_if b v)
improves_given true u v h c e = h c e
improves_given false u v h c e = cc

pub improves_bnd : (x : ExprId) (u v : Option Interval) → ((i : Interval) → u ≡ Some i
    → (j : Interval) × (v ≡ Some j) × IsWithin j i) → Improves (bnd_of x u) (bnd_of x v)
improves_bnd x None v h c e = cc
improves_bnd x (Some i) v h c e = let j = h i refl in (
  fact.Bnd x j.0,
  ap (bnd_of x) j.1,
  subst (IsStronger (fact.Bnd x j.0)) (let g : fact.Bnd x i ≡ c = cc in g) (refl, j.2),
)

pub improves_abs : (x : ExprId) (u v : Option Size)
    → ((s : Size) → u ≡ Some s → (t : Size) × (v ≡ Some t) × IsWithin t.interval s.interval)
    → Improves (abs_of x u) (abs_of x v)
improves_abs x None v h c e = cc
improves_abs x (Some s) v h c e = let t = h s refl in (
  fact.Abs x t.0,
  ap (abs_of x) t.1,
  subst (IsStronger (fact.Abs x t.0)) (let g : fact.Abs x s ≡ c = cc in g) (refl, t.2),
)

pub improves_fix : (x : ExprId) (u v : Option FixPlace)
    → ((k : FixPlace) → u ≡ Some k → (n : FixPlace) × (v ≡ Some n) × (k.exponent ≤ℤ n.exponent))
    → Improves (fix_of x u) (fix_of x v)
improves_fix x None v h c e = cc
improves_fix x (Some k) v h c e = let n = h k refl in (
  fact.Fix x n.0,
  ap (fix_of x) n.1,
  subst (IsStronger (fact.Fix x n.0)) (let g : fact.Fix x k ≡ c = cc in g) (refl, n.2),
)

-- ---- where they stand
-- what is given, if anything, stands on the target or is VOID
abbrev pub StandsOn : Slot → Option Fact → Type 0
StandsOn t o = (f : Fact) → o ≡ Some f → (slot_of f ≡ t) ⊎ (f ≡ fact.Void)

pub fact_stands : (t : Slot) (g : Fact) → (slot_of g ≡ t) ⊎ (g ≡ fact.Void) → StandsOn t (Some g)
fact_stands t g s f e = subst (λ h. (slot_of h ≡ t) ⊎ (h ≡ fact.Void)) (let d : g ≡ f = cc in d) s

pub only_stands : (t : Slot) (b : Bool) (g : Fact) → (slot_of g ≡ t) ⊎ (g ≡ fact.Void)
    → StandsOn t (only_if b g)
only_stands t true g s f e = fact_stands t g s f e
only_stands t false g s f e = cc

pub given_stands : (t : Slot) (b : Bool) (o : Option Fact) → StandsOn t o
    → StandsOn t (given_if b o)
given_stands t true o s f e = s f e
given_stands t false o s f e = cc

pub bnd_stands : (x : ExprId) (o : Option Interval) → StandsOn (slot.Bnd x) (bnd_of x o)
bnd_stands x None f e = cc
bnd_stands x (Some i) f e = fact_stands (slot.Bnd x) (fact.Bnd x i) (inl refl) f e

pub abs_stands : (x : ExprId) (o : Option Size) → StandsOn (slot.Abs x) (abs_of x o)
abs_stands x None f e = cc
abs_stands x (Some s) f e = fact_stands (slot.Abs x) (fact.Abs x s) (inl refl) f e

pub fix_stands : (x : ExprId) (o : Option FixPlace) → StandsOn (slot.Fix x) (fix_of x o)
fix_stands x None f e = cc
fix_stands x (Some k) f e = fact_stands (slot.Fix x) (fact.Fix x k) (inl refl) f e
