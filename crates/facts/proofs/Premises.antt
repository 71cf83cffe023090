-- Laws of what specs/Premises defines.
use Rattle.std.specs.Prelude.{◌≡◌, ◌≤ℤ◌, List, [], ◌∷◌, refl}
use Rattle.std.proofs.Common.{ap, ◌∙◌}
use Rattle.fx_model.specs.declared.ExprId.{ExprId}
use Rattle.interval.specs.declared.interval.Interval.{Interval}
use Rattle.facts.specs.declared.place.FixPlace.{FixPlace}
use Rattle.facts.specs.declared.size.Size.{Size}
use Rattle.facts.specs.declared.fact.Fact.{Fact}
use Rattle.facts.specs.declared.fact.Fact.TheVariants as fact
use Rattle.facts.specs.Order.{IsWithin, IsStronger}
use Rattle.facts.specs.Promises.{EachStronger}

-- ---- one fact
pub strong_bnd : (p : Fact) (x : ExprId) (i : Interval) → ¬ (p ≡ fact.Void)
    → IsStronger p (fact.Bnd x i) → (j : Interval) × (p ≡ fact.Bnd x j) × IsWithin j i
strong_bnd (fact.Bnd y j) x i n s = (j, ap (λ z. fact.Bnd z j) s.0, s.1)
strong_bnd fact.Void x i n s = absurd (n refl)
strong_bnd _ x i n s = absurd s

pub strong_abs : (p : Fact) (x : ExprId) (i : Size) → ¬ (p ≡ fact.Void)
    → IsStronger p (fact.Abs x i) → (j : Size) × (p ≡ fact.Abs x j) × IsWithin j.interval i.interval
strong_abs (fact.Abs y j) x i n s = (j, ap (λ z. fact.Abs z j) s.0, s.1)
strong_abs fact.Void x i n s = absurd (n refl)
strong_abs _ x i n s = absurd s

pub strong_fix : (p : Fact) (x : ExprId) (k : FixPlace) → ¬ (p ≡ fact.Void)
    → IsStronger p (fact.Fix x k) → (n : FixPlace) × (p ≡ fact.Fix x n) × (k.exponent ≤ℤ n.exponent)
strong_fix (fact.Fix y n) x k v s = (n, ap (λ z. fact.Fix z n) s.0, s.1)
strong_fix fact.Void x k v s = absurd (v refl)
strong_fix _ x k v s = absurd s

pub strong_nzr : (p : Fact) (x : ExprId) → ¬ (p ≡ fact.Void)
    → IsStronger p (fact.Nzr x) → p ≡ fact.Nzr x
strong_nzr (fact.Nzr y) x n s = ap fact.Nzr s
strong_nzr fact.Void x n s = absurd (n refl)
strong_nzr _ x n s = absurd s

-- ---- lists of none, one and two
pub no_premises : (ps : List Fact) → EachStronger ps [] → ps ≡ []
no_premises [] s = refl
no_premises (p ∷ ps) s = absurd s

-- the first premise, and the others
pub record IsFirst (p : Fact) (rest ps : List Fact) (q : Fact) (qs : List Fact) : Type 0 where
  pub is : ps ≡ p ∷ rest
  pub not_void : ¬ (p ≡ fact.Void)
  pub first : IsStronger p q
  pub others : EachStronger rest qs

pub first_premise : (ps : List Fact) (q : Fact) (qs : List Fact) → EachStronger ps (q ∷ qs)
    → (p : Fact) × (rest : List Fact) × IsFirst p rest ps q qs
first_premise [] q qs s = absurd s
first_premise (p ∷ ps) q qs s =
    (p, ps, record { is = refl; not_void = s.0; first = s.1; others = s.2 })

-- The premises are this one fact alone, which isn't VOID and is as strong as `q` or stronger.
pub record IsOne (p : Fact) (ps : List Fact) (q : Fact) : Type 0 where
  pub is : ps ≡ p ∷ []
  pub not_void : ¬ (p ≡ fact.Void)
  pub first : IsStronger p q

pub one_premise : (ps : List Fact) (q : Fact) → EachStronger ps (q ∷ []) → (p : Fact) × IsOne p ps q
one_premise ps q s = let a = first_premise ps q [] s in (
  a.0,
  record {
    is = a.2.is ∙ ap (λ l. a.0 ∷ l) (no_premises a.1 a.2.others);
    not_void = a.2.not_void;
    first = a.2.first;
  },
)

pub one_bnd : (ps : List Fact) (x : ExprId) (i : Interval) → EachStronger ps (fact.Bnd x i ∷ [])
    → (j : Interval) × (ps ≡ fact.Bnd x j ∷ []) × IsWithin j i
one_bnd ps x i s = let a = one_premise ps (fact.Bnd x i) s in
    let b = strong_bnd a.0 x i a.1.not_void a.1.first in
    (b.0, a.1.is ∙ ap (λ p. p ∷ []) b.1, b.2)

pub one_abs : (ps : List Fact) (x : ExprId) (i : Size) → EachStronger ps (fact.Abs x i ∷ [])
    → (j : Size) × (ps ≡ fact.Abs x j ∷ []) × IsWithin j.interval i.interval
one_abs ps x i s = let a = one_premise ps (fact.Abs x i) s in
    let b = strong_abs a.0 x i a.1.not_void a.1.first in
    (b.0, a.1.is ∙ ap (λ p. p ∷ []) b.1, b.2)

pub one_fix : (ps : List Fact) (x : ExprId) (k : FixPlace) → EachStronger ps (fact.Fix x k ∷ [])
    → (n : FixPlace) × (ps ≡ fact.Fix x n ∷ []) × (k.exponent ≤ℤ n.exponent)
one_fix ps x k s = let a = one_premise ps (fact.Fix x k) s in
    let b = strong_fix a.0 x k a.1.not_void a.1.first in
    (b.0, a.1.is ∙ ap (λ p. p ∷ []) b.1, b.2)

pub one_nzr : (ps : List Fact) (x : ExprId)
    → EachStronger ps (fact.Nzr x ∷ []) → ps ≡ fact.Nzr x ∷ []
one_nzr ps x s = let a = one_premise ps (fact.Nzr x) s in
    a.1.is ∙ ap (λ p. p ∷ []) (strong_nzr a.0 x a.1.not_void a.1.first)

pub two_bnd : (ps : List Fact) (x : ExprId) (i : Interval) (y : ExprId) (k : Interval)
    → EachStronger ps (fact.Bnd x i ∷ fact.Bnd y k ∷ [])
    → (j : Interval) × (l : Interval) × (ps ≡ fact.Bnd x j ∷ fact.Bnd y l ∷ [])
    × IsWithin j i × IsWithin l k
two_bnd ps x i y k s =
    let a = first_premise ps (fact.Bnd x i) (fact.Bnd y k ∷ []) s in
    let b = strong_bnd a.0 x i a.2.not_void a.2.first in
    let c = one_bnd a.1 y k a.2.others in
    (b.0, c.0, a.2.is ∙ ap (λ p. p ∷ a.1) b.1 ∙ ap (λ l. fact.Bnd x b.0 ∷ l) c.1, b.2, c.2)

pub two_abs : (ps : List Fact) (x : ExprId) (i : Size) (y : ExprId) (k : Size)
    → EachStronger ps (fact.Abs x i ∷ fact.Abs y k ∷ [])
    → (j : Size) × (l : Size) × (ps ≡ fact.Abs x j ∷ fact.Abs y l ∷ [])
    × IsWithin j.interval i.interval × IsWithin l.interval k.interval
two_abs ps x i y k s =
    let a = first_premise ps (fact.Abs x i) (fact.Abs y k ∷ []) s in
    let b = strong_abs a.0 x i a.2.not_void a.2.first in
    let c = one_abs a.1 y k a.2.others in
    (b.0, c.0, a.2.is ∙ ap (λ p. p ∷ a.1) b.1 ∙ ap (λ l. fact.Abs x b.0 ∷ l) c.1, b.2, c.2)

pub two_fix : (ps : List Fact) (x : ExprId) (k : FixPlace) (y : ExprId) (n : FixPlace)
    → EachStronger ps (fact.Fix x k ∷ fact.Fix y n ∷ [])
    → (l : FixPlace) × (m : FixPlace) × (ps ≡ fact.Fix x l ∷ fact.Fix y m ∷ [])
    × (k.exponent ≤ℤ l.exponent) × (n.exponent ≤ℤ m.exponent)
two_fix ps x k y n s =
    let a = first_premise ps (fact.Fix x k) (fact.Fix y n ∷ []) s in
    let b = strong_fix a.0 x k a.2.not_void a.2.first in
    let c = one_fix a.1 y n a.2.others in
    (b.0, c.0, a.2.is ∙ ap (λ p. p ∷ a.1) b.1 ∙ ap (λ l. fact.Fix x b.0 ∷ l) c.1, b.2, c.2)

pub two_nzr : (ps : List Fact) (x y : ExprId) → EachStronger ps (fact.Nzr x ∷ fact.Nzr y ∷ [])
    → ps ≡ fact.Nzr x ∷ fact.Nzr y ∷ []
two_nzr ps x y s =
    let a = first_premise ps (fact.Nzr x) (fact.Nzr y ∷ []) s in
    a.2.is ∙ ap (λ p. p ∷ a.1) (strong_nzr a.0 x a.2.not_void a.2.first)
    ∙ ap (λ l. fact.Nzr x ∷ l) (one_nzr a.1 y a.2.others)

pub bnd_then_abs : (ps : List Fact) (x : ExprId) (i : Interval) (y : ExprId) (k : Size)
    → EachStronger ps (fact.Bnd x i ∷ fact.Abs y k ∷ [])
    → (j : Interval) × (l : Size) × (ps ≡ fact.Bnd x j ∷ fact.Abs y l ∷ []) × IsWithin j i
    × IsWithin l.interval k.interval
bnd_then_abs ps x i y k s =
    let a = first_premise ps (fact.Bnd x i) (fact.Abs y k ∷ []) s in
    let b = strong_bnd a.0 x i a.2.not_void a.2.first in
    let c = one_abs a.1 y k a.2.others in
    (b.0, c.0, a.2.is ∙ ap (λ p. p ∷ a.1) b.1 ∙ ap (λ l. fact.Bnd x b.0 ∷ l) c.1, b.2, c.2)

pub bnd_then_nzr : (ps : List Fact) (x : ExprId) (i : Interval) (y : ExprId)
    → EachStronger ps (fact.Bnd x i ∷ fact.Nzr y ∷ [])
    → (j : Interval) × (ps ≡ fact.Bnd x j ∷ fact.Nzr y ∷ []) × IsWithin j i
bnd_then_nzr ps x i y s =
    let a = first_premise ps (fact.Bnd x i) (fact.Nzr y ∷ []) s in
    let b = strong_bnd a.0 x i a.2.not_void a.2.first in (
      b.0,
      a.2.is ∙ ap (λ p. p ∷ a.1) b.1 ∙ ap (λ l. fact.Bnd x b.0 ∷ l) (one_nzr a.1 y a.2.others),
      b.2,
    )

-- ---- lists that begin with BND, and lists of three and four
pub first_bnd : (ps : List Fact) (x : ExprId) (i : Interval) (qs : List Fact)
    → EachStronger ps (fact.Bnd x i ∷ qs) → (j : Interval) × (rest : List Fact)
    × (ps ≡ fact.Bnd x j ∷ rest) × IsWithin j i × EachStronger rest qs
first_bnd ps x i qs s =
    let a = first_premise ps (fact.Bnd x i) qs s in
    let b = strong_bnd a.0 x i a.2.not_void a.2.first in
    (b.0, a.1, a.2.is ∙ ap (λ p. p ∷ a.1) b.1, b.2, a.2.others)

pub three_bnd : (ps : List Fact) (x y z : ExprId) (i j k : Interval)
    → EachStronger ps (fact.Bnd x i ∷ fact.Bnd y j ∷ fact.Bnd z k ∷ [])
    → (f : Interval) × (g : Interval) × (m : Interval) × (ps
    ≡ fact.Bnd x f ∷ fact.Bnd y g ∷ fact.Bnd z m ∷ []) × IsWithin f i × IsWithin g j × IsWithin m k
three_bnd ps x y z i j k s = let a = first_bnd ps x i (fact.Bnd y j ∷ fact.Bnd z k ∷ []) s in
    let b = two_bnd a.1 y j z k a.4 in
    (a.0, b.0, b.1, a.2 ∙ ap (λ r. fact.Bnd x a.0 ∷ r) b.2, a.3, b.3, b.4)

pub four_bnd : (ps : List Fact) (x y z w : ExprId) (i j k l : Interval)
    → EachStronger ps (fact.Bnd x i ∷ fact.Bnd y j ∷ fact.Bnd z k ∷ fact.Bnd w l ∷ [])
    → (f : Interval) × (g : Interval) × (m : Interval) × (n : Interval)
    × (ps ≡ fact.Bnd x f ∷ fact.Bnd y g ∷ fact.Bnd z m ∷ fact.Bnd w n ∷ []) × IsWithin f i
    × IsWithin g j × IsWithin m k × IsWithin n l
four_bnd ps x y z w i j k l s =
    let a = first_bnd ps x i (fact.Bnd y j ∷ fact.Bnd z k ∷ fact.Bnd w l ∷ []) s in
    let b = three_bnd a.1 y z w j k l a.4 in
    (a.0, b.0, b.1, b.2, a.2 ∙ ap (λ r. fact.Bnd x a.0 ∷ r) b.3, a.3, b.4, b.5, b.6)
