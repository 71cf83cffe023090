-- Slots and facts, told apart; facts of a table.
use Rattle.std.specs.Prelude.{◌≡◌, ◌≢◌, ◌⊎◌, refl}
use Rattle.std.proofs.Common.{ap, inl, inr}
use Rattle.std.proofs.lemmas.Bool.Decides.{eqb_tells}
use Rattle.fx_model.specs.declared.ExprId.{ExprId}
use Rattle.facts.specs.declared.fact.Slot.{Slot}
use Rattle.facts.specs.declared.fact.Slot.TheVariants as slot

-- ---- slots
expr_cases : (x y : ExprId) → (x ≡ y) ⊎ (x ≢ y)
expr_cases x y = elim (eqb_tells x.0 y.0) [
  | inl e ↦ inl (ap (λ n. record { 0 = n }) e.1)
  | inr e ↦ inr (λ q. e.1 (ap (λ (z : ExprId). z.0) q))
]

pub slot_cases : (s t : Slot) → (s ≡ t) ⊎ (s ≢ t)
slot_cases (slot.Bnd x) (slot.Bnd y) = elim (expr_cases x y)
    [ inl e ↦ inl (ap slot.Bnd e) | inr e ↦ inr (λ q. e (let d : x ≡ y = cc in d)) ]
slot_cases (slot.Abs x) (slot.Abs y) = elim (expr_cases x y)
    [ inl e ↦ inl (ap slot.Abs e) | inr e ↦ inr (λ q. e (let d : x ≡ y = cc in d)) ]
slot_cases (slot.Fix x) (slot.Fix y) = elim (expr_cases x y)
    [ inl e ↦ inl (ap slot.Fix e) | inr e ↦ inr (λ q. e (let d : x ≡ y = cc in d)) ]
slot_cases (slot.Nzr x) (slot.Nzr y) = elim (expr_cases x y)
    [ inl e ↦ inl (ap slot.Nzr e) | inr e ↦ inr (λ q. e (let d : x ≡ y = cc in d)) ]
slot_cases (slot.Rel x p) (slot.Rel y q) =
    elim (expr_cases x y) [
      | inl e ↦ elim (expr_cases p q) [
        | inl d ↦ inl (λ k. slot.Rel (e k) (d k))
        | inr d ↦ inr (λ w. d (let a : p ≡ q = cc in a))
      ]
      | inr e ↦ inr (λ w. e (let d : x ≡ y = cc in d))
    ]
slot_cases slot.Void slot.Void = inl refl
slot_cases _ _ = inr (λ q. cc)
