-- "Stronger" is an order, and the meet of two facts is the weakest that is as strong as both.
use Rattle.std.specs.Prelude.{◌≡◌, ◌⊎◌, true, Option, Some, None, refl}
use Rattle.std.proofs.Common.{sym, ◌∙◌, ap, subst, inl, inr, arith, rules}
use Rattle.std.proofs.lemmas.Int.{ints}
use Rattle.dyadic.proofs.Extremes.{BoundLe-trans}
use Rattle.dyadic.specs.Extremes.{BoundLe-refl}
use Rattle.interval.specs.declared.interval.Interval.{Interval}
use Rattle.interval.specs.Intervals.{range_of}
use Rattle.interval.specs.Meets.{common_of}
use Rattle.interval.proofs.Meets.{common-within, within-common}
use Rattle.facts.specs.declared.relative.RelativeError.{RelativeError}
use Rattle.facts.specs.declared.fact.Fact.{Fact}
use Rattle.facts.specs.declared.fact.Fact.TheVariants as fact
use Rattle.facts.specs.declared.fact.Slot.TheVariants as slot
use Rattle.facts.specs.Parts.{common_size, common_error, greater_place}
use Rattle.facts.proofs.CommonParts.{at_option, some-inj, same_expr, common_size-within}
use Rattle.facts.proofs.CommonParts.{within-common_size, meet_error, error_meet_left}
use Rattle.facts.proofs.CommonParts.{error_meet_right, place_left, place_right, place_most}
use Rattle.facts.specs.Order.{slot_of, IsWithin, IsWithinError, IsStronger, is_same, meet_of}

pub IsWithin-refl : (i : Interval) → IsWithin i i
IsWithin-refl i = (BoundLe-refl (range_of i).low, BoundLe-refl (range_of i).high)

pub IsWithin-trans : (i j k : Interval) → IsWithin i j → IsWithin j k → IsWithin i k
IsWithin-trans i j k p q = (
  BoundLe-trans (range_of k).low (range_of j).low (range_of i).low q.0 p.0,
  BoundLe-trans (range_of i).high (range_of j).high (range_of k).high p.1 q.1,
)

pub IsStronger-refl : (f : Fact) → IsStronger f f
IsStronger-refl (fact.Bnd x i) = (refl, IsWithin-refl i)
IsStronger-refl (fact.Abs x s) = (refl, IsWithin-refl s.interval)
IsStronger-refl (fact.Rel x y None) = (refl, refl, tt)
IsStronger-refl (fact.Rel x y (Some e)) = (refl, refl, IsWithin-refl e.interval)
IsStronger-refl (fact.Fix x k) = (refl, omega (arith, ints))
IsStronger-refl (fact.Nzr x) = refl
IsStronger-refl fact.Void = tt

IsWithinError-trans : (c d e : Option RelativeError) → IsWithinError c d
    → IsWithinError d e → IsWithinError c e
IsWithinError-trans None d e p q = tt
IsWithinError-trans (Some c) None e p q = absurd p
IsWithinError-trans (Some c) (Some d) None p q = absurd q
IsWithinError-trans (Some c) (Some d) (Some e) p q =
    IsWithin-trans c.interval d.interval e.interval p q

pub IsStronger-trans : (f g h : Fact) → IsStronger f g → IsStronger g h → IsStronger f h
IsStronger-trans fact.Void g h p q = tt
IsStronger-trans (fact.Bnd x i) (fact.Bnd y j) (fact.Bnd z k) p q =
    (p.0 ∙ q.0, IsWithin-trans i j k p.1 q.1)
IsStronger-trans (fact.Abs x i) (fact.Abs y j) (fact.Abs z k) p q =
    (p.0 ∙ q.0, IsWithin-trans i.interval j.interval k.interval p.1 q.1)
IsStronger-trans (fact.Rel x p c) (fact.Rel y q d) (fact.Rel z r e) a b =
    (a.0 ∙ b.0, a.1 ∙ b.1, IsWithinError-trans c d e a.2 b.2)
IsStronger-trans (fact.Fix x k) (fact.Fix y n) (fact.Fix z m) p q =
    (p.0 ∙ q.0, let a = p.1 in let b = q.1 in omega (arith, ints))
IsStronger-trans (fact.Nzr x) (fact.Nzr y) (fact.Nzr z) p q = p ∙ q
IsStronger-trans _ _ _ p q = search rules

-- a stronger fact is VOID, or stands on the same slot
pub IsStronger-slot : (f g : Fact) → IsStronger f g → (f ≡ fact.Void) ⊎ (slot_of f ≡ slot_of g)
IsStronger-slot fact.Void g a = inl refl
IsStronger-slot (fact.Bnd x i) (fact.Bnd y j) a = inr (ap slot.Bnd a.0)
IsStronger-slot (fact.Abs x i) (fact.Abs y j) a = inr (ap slot.Abs a.0)
IsStronger-slot (fact.Rel x p t) (fact.Rel y q u) a = inr cc
IsStronger-slot (fact.Fix x k) (fact.Fix y m) a = inr (ap slot.Fix a.0)
IsStronger-slot (fact.Nzr x) (fact.Nzr y) a = inr (ap slot.Nzr a)
IsStronger-slot _ _ a = absurd a

-- ---- the meet
-- what is stronger than two facts is stronger than their meet
pub IsStronger-meet : (g a b f : Fact) → IsStronger g a → IsStronger g b
    → meet_of a b ≡ Some f → IsStronger g f
IsStronger-meet fact.Void a b f p q e = tt
IsStronger-meet (fact.Bnd x i) (fact.Bnd y j) (fact.Bnd z k) f p q e =
    let h : is_same y z ≡ true = same_expr y z (sym p.0 ∙ q.0) in
    let t = within-common i j k p.1 q.1 in
    let P : Fact → Type 0 = λ v. IsStronger (fact.Bnd x i) v in
    subst P (some-inj _ _ (rw (h, t.1) at e)) (p.0, t.2)
IsStronger-meet (fact.Abs x i) (fact.Abs y j) (fact.Abs z k) f p q e =
    let h : is_same y z ≡ true = same_expr y z (sym p.0 ∙ q.0) in
    let t = within-common_size i j k p.1 q.1 in
    let P : Fact → Type 0 = λ v. IsStronger (fact.Abs x i) v in
    subst P (some-inj _ _ (rw (h, t.1) at e)) (p.0, t.2)
IsStronger-meet (fact.Rel x l t) (fact.Rel y m u) (fact.Rel z o v) f p q e =
    let h : is_same y z ≡ true = same_expr y z (sym p.0 ∙ q.0) in
    let k : is_same m o ≡ true = same_expr m o (sym p.1 ∙ q.1) in
    let P : Fact → Type 0 = λ r. IsStronger (fact.Rel x l t) r in
    subst P (some-inj _ _ (rw (h, k) at e)) (p.0, p.1, meet_error t u v p.2 q.2)
IsStronger-meet (fact.Fix x k) (fact.Fix y m) (fact.Fix z o) f p q e =
    let h : is_same y z ≡ true = same_expr y z (sym p.0 ∙ q.0) in
    let P : Fact → Type 0 = λ v. IsStronger (fact.Fix x k) v in
    subst P (some-inj _ _ (rw h at e)) (p.0, place_most k m o p.1 q.1)
IsStronger-meet (fact.Nzr x) (fact.Nzr y) (fact.Nzr z) f p q e =
    let h : is_same y z ≡ true = same_expr y z (sym p ∙ q) in
    let P : Fact → Type 0 = λ v. IsStronger (fact.Nzr x) v in
    subst P (some-inj _ _ (rw h at e)) p
IsStronger-meet _ _ _ f p q e = search rules

-- the meet of facts of one slot: it is there, and as strong as each
pub record IsMeet (a b f : Fact) : Type 0 where
  pub is : meet_of a b ≡ Some f
  pub left : IsStronger f a
  pub right : IsStronger f b

pub meet_exists : (a b : Fact) → slot_of a ≡ slot_of b → (f : Fact) × IsMeet a b f
meet_exists fact.Void fact.Void e = (fact.Void, record { is = refl; left = tt; right = tt })
meet_exists (fact.Bnd x i) (fact.Bnd y j) e =
    let d : x ≡ y = cc in
    let h : is_same x y ≡ true = same_expr x y d in
    at_option (common_of i j) (λ t. common_of i j ≡ t
    → (f : Fact) × IsMeet (fact.Bnd x i) (fact.Bnd y j) f)
    (λ _ m. (fact.Void, record { is = rw (h, m) refl; left = tt; right = tt }))
    (λ c s m. let w = common-within i j c s in
    (fact.Bnd x c, record { is = rw (h, s) refl; left = (refl, w.0); right = (d, w.1) })) refl
meet_exists (fact.Abs x i) (fact.Abs y j) e =
    let d : x ≡ y = cc in
    let h : is_same x y ≡ true = same_expr x y d in
    at_option (common_size i j) (λ t. common_size i j ≡ t
    → (f : Fact) × IsMeet (fact.Abs x i) (fact.Abs y j) f)
    (λ _ m. (fact.Void, record { is = rw (h, m) refl; left = tt; right = tt }))
    (λ c s m. let w = common_size-within i j c s in
    (fact.Abs x c, record { is = rw (h, s) refl; left = (refl, w.0); right = (d, w.1) })) refl
meet_exists (fact.Rel x z t) (fact.Rel y w o) e =
    let d : x ≡ y = cc in
    let d2 : z ≡ w = cc in
    let h : is_same x y ≡ true = same_expr x y d in
    let k : is_same z w ≡ true = same_expr z w d2 in (
      fact.Rel x z (common_error t o),
      record {
        is = rw (h, k) refl;
        left = (refl, refl, error_meet_left t o);
        right = (d, d2, error_meet_right t o);
      },
    )
meet_exists (fact.Fix x k) (fact.Fix y n) e =
    let d : x ≡ y = cc in
    let h : is_same x y ≡ true = same_expr x y d in (
      fact.Fix x (greater_place k n),
      record { is = rw h refl; left = (refl, place_left k n); right = (d, place_right k n) },
    )
meet_exists (fact.Nzr x) (fact.Nzr y) e =
    let d : x ≡ y = cc in
    let h : is_same x y ≡ true = same_expr x y d in
    (fact.Nzr x, record { is = rw h refl; left = refl; right = d })
meet_exists _ _ e = cc
