-- Premises that are stronger than those of a known shape with relative errors have that shape.
use Rattle.std.specs.Prelude.{◌≡◌, List, [], ◌∷◌, Option, refl}
use Rattle.std.proofs.Common.{ap, ◌∙◌}
use Rattle.fx_model.specs.declared.ExprId.{ExprId}
use Rattle.interval.specs.declared.interval.Interval.{Interval}
use Rattle.facts.specs.declared.relative.RelativeError.{RelativeError}
use Rattle.facts.specs.declared.fact.Fact.{Fact}
use Rattle.facts.specs.declared.fact.Fact.TheVariants as fact
use Rattle.facts.specs.Order.{IsWithin, IsWithinError, IsStronger}
use Rattle.facts.specs.Promises.{EachStronger}
use Rattle.facts.proofs.Premises.{first_premise, one_premise, one_bnd, one_nzr}

pub strong_rel : (p : Fact) (x y : ExprId) (d : Option RelativeError)
    → ¬ (p ≡ fact.Void) → IsStronger p (fact.Rel x y d)
    → (e : Option RelativeError) × (p ≡ fact.Rel x y e) × IsWithinError e d
strong_rel (fact.Rel z w e) x y d v s =
    (e, ap (λ u. fact.Rel u w e) s.0 ∙ ap (λ u. fact.Rel x u e) s.1, s.2)
strong_rel fact.Void x y d v s = absurd (v refl)
strong_rel _ x y d v s = absurd s

pub one_rel : (ps : List Fact) (x y : ExprId) (d : Option RelativeError)
    → EachStronger ps (fact.Rel x y d ∷ [])
    → (e : Option RelativeError) × (ps ≡ fact.Rel x y e ∷ []) × IsWithinError e d
one_rel ps x y d s = let a = one_premise ps (fact.Rel x y d) s in
    let b = strong_rel a.0 x y d a.1.not_void a.1.first in
    (b.0, a.1.is ∙ ap (λ p. p ∷ []) b.1, b.2)

-- the first premise, and the others
pub first_rel : (ps : List Fact) (x y : ExprId) (d : Option RelativeError) (qs : List Fact)
    → EachStronger ps (fact.Rel x y d ∷ qs)
    → (e : Option RelativeError) × (rest : List Fact) × (ps ≡ fact.Rel x y e ∷ rest)
    × IsWithinError e d × EachStronger rest qs
first_rel ps x y d qs s =
    let a = first_premise ps (fact.Rel x y d) qs s in
    let b = strong_rel a.0 x y d a.2.not_void a.2.first in
    (b.0, a.1, a.2.is ∙ ap (λ p. p ∷ a.1) b.1, b.2, a.2.others)

pub rel_then_bnd : (ps : List Fact) (x y : ExprId) (d : Option RelativeError) (z : ExprId)
    (j : Interval) → EachStronger ps (fact.Rel x y d ∷ fact.Bnd z j ∷ [])
    → (e : Option RelativeError) × (k : Interval) × (ps ≡ fact.Rel x y e ∷ fact.Bnd z k ∷ [])
    × IsWithinError e d × IsWithin k j
rel_then_bnd ps x y d z j s = let a = first_rel ps x y d (fact.Bnd z j ∷ []) s in
    let b = one_bnd a.1 z j a.4 in
    (a.0, b.0, a.2 ∙ ap (λ l. fact.Rel x y a.0 ∷ l) b.1, a.3, b.2)

pub rel_then_nzr : (ps : List Fact) (x y : ExprId) (d : Option RelativeError) (z : ExprId)
    → EachStronger ps (fact.Rel x y d ∷ fact.Nzr z ∷ [])
    → (e : Option RelativeError) × (ps ≡ fact.Rel x y e ∷ fact.Nzr z ∷ []) × IsWithinError e d
rel_then_nzr ps x y d z s = let a = first_rel ps x y d (fact.Nzr z ∷ []) s in
    (a.0, a.2 ∙ ap (λ l. fact.Rel x y a.0 ∷ l) (one_nzr a.1 z a.4), a.3)

pub two_rel : (ps : List Fact) (x y : ExprId) (d : Option RelativeError) (z w : ExprId)
    (e : Option RelativeError) → EachStronger ps (fact.Rel x y d ∷ fact.Rel z w e ∷ [])
    → (i : Option RelativeError) × (k : Option RelativeError)
    × (ps ≡ fact.Rel x y i ∷ fact.Rel z w k ∷ []) × IsWithinError i d × IsWithinError k e
two_rel ps x y d z w e s = let a = first_rel ps x y d (fact.Rel z w e ∷ []) s in
    let b = one_rel a.1 z w e a.4 in
    (a.0, b.0, a.2 ∙ ap (λ l. fact.Rel x y a.0 ∷ l) b.1, a.3, b.2)

pub two_rel_then_nzr : (ps : List Fact)
    (x y : ExprId) (d : Option RelativeError) (z w : ExprId) (e : Option RelativeError) (u : ExprId)
    → EachStronger ps (fact.Rel x y d ∷ fact.Rel z w e ∷ fact.Nzr u ∷ [])
    → (i : Option RelativeError) × (k : Option RelativeError) × (ps
    ≡ fact.Rel x y i ∷ fact.Rel z w k ∷ fact.Nzr u ∷ []) × IsWithinError i d × IsWithinError k e
two_rel_then_nzr ps x y d z w e u s =
    let a = first_rel ps x y d (fact.Rel z w e ∷ fact.Nzr u ∷ []) s in
    let b = rel_then_nzr a.1 z w e u a.4 in
    (a.0, b.0, a.2 ∙ ap (λ l. fact.Rel x y a.0 ∷ l) b.1, a.3, b.2)

pub two_rel_then_bnd : (ps : List Fact) (x y : ExprId)
    (d : Option RelativeError) (z w : ExprId) (e : Option RelativeError) (u : ExprId) (j : Interval)
    → EachStronger ps (fact.Rel x y d ∷ fact.Rel z w e ∷ fact.Bnd u j ∷ [])
    → (i : Option RelativeError) × (k : Option RelativeError) × (l : Interval)
    × (ps ≡ fact.Rel x y i ∷ fact.Rel z w k ∷ fact.Bnd u l ∷ []) × IsWithinError i d
    × IsWithinError k e × IsWithin l j
two_rel_then_bnd ps x y d z w e u j s =
    let a = first_rel ps x y d (fact.Rel z w e ∷ fact.Bnd u j ∷ []) s in
    let b = rel_then_bnd a.1 z w e u j a.4 in
    (a.0, b.0, b.1, a.2 ∙ ap (λ l. fact.Rel x y a.0 ∷ l) b.2, a.3, b.3, b.4)
