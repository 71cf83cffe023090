-- What facts that hold say of the values of their expressions.
use Rattle.std.specs.Prelude.{◌≡◌, ◌≢◌, List, Option, Some, None, refl}
use Rattle.std.specs.Option.{IsSomeAnd}
use Rattle.std.proofs.Common.{sym, subst, ◌∙◌}
use Rattle.fx_model.specs.Fraction.{Fraction, zero_ℚ}
use Rattle.fx_model.specs.Enclosure.{Lies}
use Rattle.fx_model.specs.Expression.{Assignment, value}
use Rattle.fx_model.specs.declared.ExprId.{ExprId}
use Rattle.fx_model.specs.declared.Node.{Node}
use Rattle.interval.specs.declared.interval.Interval.{Interval}
use Rattle.interval.specs.Intervals.{range_of}
use Rattle.facts.specs.declared.relative.RelativeError.{RelativeError}
use Rattle.facts.specs.declared.fact.Fact.TheVariants as fact
use Rattle.facts.specs.Holds.{Holds, IsRelatedBy}
use Rattle.facts.proofs.CommonParts.{some-inj}

-- the expression has this value
abbrev pub HasValue : List Node → Assignment → ExprId → Fraction → Type 0
HasValue nodes a x v = value nodes a x ≡ Some v

pub some_out : (o : Option Fraction) (P : Fraction → Type 0) → IsSomeAnd o P
    → (v : Fraction) × (o ≡ Some v) × P v
some_out None P p = absurd p
some_out (Some v) P p = (v, refl, p)

some_in : (o : Option Fraction) (P : Fraction → Type 0) (v : Fraction)
    → o ≡ Some v → P v → IsSomeAnd o P
some_in o P v e p = subst (λ o. IsSomeAnd o P) (sym e) p

-- an expression has one value
pub one_value : (nodes : List Node) (a : Assignment) (x : ExprId) (v w : Fraction)
    → HasValue nodes a x v → HasValue nodes a x w → v ≡ w
one_value nodes a x v w p q = some-inj v w (sym p ∙ q)

pub bnd_out : (nodes : List Node) (a : Assignment) (x : ExprId) (i : Interval)
    → Holds nodes a (fact.Bnd x i) → (v : Fraction) × HasValue nodes a x v × Lies (range_of i) v
bnd_out nodes a x i h = some_out (value nodes a x) (Lies (range_of i)) h

pub bnd_in : (nodes : List Node) (a : Assignment) (x : ExprId) (i : Interval) (v : Fraction)
    → HasValue nodes a x v → Lies (range_of i) v → Holds nodes a (fact.Bnd x i)
bnd_in nodes a x i v e l = some_in (value nodes a x) (Lies (range_of i)) v e l

pub nzr_out : (nodes : List Node) (a : Assignment) (x : ExprId) → Holds nodes a (fact.Nzr x)
    → (v : Fraction) × HasValue nodes a x v × (v ≢ zero_ℚ)
nzr_out nodes a x h = some_out (value nodes a x) (λ v. v ≢ zero_ℚ) h

-- both have values, which are related
pub record AreRelated (nodes : List Node) (a : Assignment) (x y : ExprId) (d : Option RelativeError)
    (v w : Fraction) : Type 0 where
  pub first : HasValue nodes a x v
  pub second : HasValue nodes a y w
  pub related : IsRelatedBy d v w

pub rel_out : (nodes : List Node) (a : Assignment) (x y : ExprId) (d : Option RelativeError)
    → Holds nodes a (fact.Rel x y d)
    → (v : Fraction) × (w : Fraction) × AreRelated nodes a x y d v w
rel_out nodes a x y d h =
    let p = some_out (value nodes a x) (λ v. IsSomeAnd (value nodes a y) (IsRelatedBy d v)) h in
    let q = some_out (value nodes a y) (IsRelatedBy d p.0) p.2 in
    (p.0, q.0, record { first = p.1; second = q.1; related = q.2 })

pub rel_in : (nodes : List Node) (a : Assignment) (x y : ExprId) (d : Option RelativeError)
    (v w : Fraction) → AreRelated nodes a x y d v w → Holds nodes a (fact.Rel x y d)
rel_in nodes a x y d v w r = some_in (value nodes a x) (λ v. IsSomeAnd (value nodes a y)
    (IsRelatedBy d v)) v r.first (some_in (value nodes a y) (IsRelatedBy d v) w r.second r.related)
