-- What is as strong as the stated fact stays so where it is met with a fact.
use Rattle.std.specs.Prelude.{◌≡◌, ◌⊎◌, Bool, true, false, Option, Some, None, refl}
use Rattle.std.proofs.Common.{sym, ◌∙◌, ap, subst, inl, inr}
use Rattle.fx_model.specs.declared.ExprId.{ExprId}
use Rattle.facts.specs.declared.fact.Fact.{Fact}
use Rattle.facts.specs.declared.fact.Fact.TheVariants as fact
use Rattle.facts.specs.declared.fact.Slot.{Slot}
use Rattle.facts.specs.declared.fact.Slot.TheVariants as slot
use Rattle.facts.proofs.CommonParts.{expr_same, same_expr, void_is, void_cases}
use Rattle.facts.specs.Order.{slot_of, IsStronger, meet_of, is_same}
use Rattle.facts.proofs.Laws.{IsStronger-trans, IsStronger-slot, meet_exists}
use Rattle.facts.proofs.Meets.{void_meet}
use Rattle.cert_checker.specs.Steps.{IsLike, IsEnough, met_with}

-- one slot, or two
by_bool : (b : Bool) (P : Type 0) → (b ≡ true → P) → (b ≡ false → P) → P
by_bool true P t f = t refl
by_bool false P t f = f refl

other_expr : (x y : ExprId) → is_same x y ≡ false → ¬ (x ≡ y)
other_expr x y f e = let h : is_same x y ≡ true = same_expr x y e in cc

slot_same : (a b : Slot) → (a ≡ b) ⊎ ¬ (a ≡ b)
slot_same (slot.Bnd x) (slot.Bnd y) =
    by_bool (is_same x y) _ (λ t. inl (ap slot.Bnd (expr_same x y t)))
    (λ f. inr (λ e. let d : x ≡ y = cc in other_expr x y f d))
slot_same (slot.Abs x) (slot.Abs y) =
    by_bool (is_same x y) _ (λ t. inl (ap slot.Abs (expr_same x y t)))
    (λ f. inr (λ e. let d : x ≡ y = cc in other_expr x y f d))
slot_same (slot.Fix x) (slot.Fix y) =
    by_bool (is_same x y) _ (λ t. inl (ap slot.Fix (expr_same x y t)))
    (λ f. inr (λ e. let d : x ≡ y = cc in other_expr x y f d))
slot_same (slot.Nzr x) (slot.Nzr y) =
    by_bool (is_same x y) _ (λ t. inl (ap slot.Nzr (expr_same x y t)))
    (λ f. inr (λ e. let d : x ≡ y = cc in other_expr x y f d))
slot_same (slot.Rel x z) (slot.Rel y w) = by_bool (is_same x y) _
    (λ t. by_bool (is_same z w) _ (λ u. let p : x ≡ y = expr_same x y t in let q : z ≡ w =
    expr_same z w u in inl cc) (λ f. inr (λ e. let d : z ≡ w = cc in other_expr z w f d)))
    (λ f. inr (λ e. let d : x ≡ y = cc in other_expr x y f d))
slot_same slot.Void slot.Void = inl refl
slot_same _ _ = inr (λ e. cc)

-- VOID meets with what it comes by, and with whatever comes
void_first : (w : Fact) → meet_of fact.Void w ≡ Some fact.Void
void_first w = refl

enough_of : (o : Option Fact) (f stated : Fact) → o ≡ Some f
    → IsStronger f stated → IsEnough o stated
enough_of o f stated e s = subst (λ q. IsEnough q stated) (sym e) s

met_on : (g w stated : Fact) → slot_of g ≡ slot_of w → IsStronger g stated
    → IsEnough (meet_of g w) stated
met_on g w stated same s = let m = meet_exists g w same in
    enough_of (meet_of g w) m.0 stated (m.1).is (IsStronger-trans m.0 g stated (m.1).left s)

pub met_enough : (given with : Option Fact) (stated : Fact) → IsLike stated with
    → IsEnough given stated → IsEnough (met_with given with) stated
met_enough None with stated l e = absurd e
met_enough (Some g) None stated l e = e
met_enough (Some g) (Some w) stated l e =
    elim (void_cases g) [
      | inl v ↦ enough_of (meet_of g w) fact.Void stated (ap (λ x. meet_of x w) v ∙ void_first w) tt
      | inr n ↦ elim (void_cases w) [
        | inl v ↦ enough_of (meet_of g w) fact.Void stated
            (ap (λ x. meet_of g x) v ∙ void_meet g) tt
        | inr k ↦ elim (IsStronger-slot g stated e) [
          | inl v ↦ absurd (n v)
          | inr s ↦ elim (slot_same (slot_of g) (slot_of w)) [
            | inl q ↦ met_on g w stated q e
            | inr q ↦ absurd (l (λ v. n (void_is g (s ∙ ap slot_of v)), k, λ r. q (s ∙ r)))
          ]
        ]
      ]
    ]
