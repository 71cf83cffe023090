-- A fact that comes to a table.
use Rattle.std.specs.Prelude.{◌≡◌, ◌⊎◌, Some, None, refl}
use Rattle.std.proofs.Common.{sym, ◌∙◌, ap, subst, inl, inr}
use Rattle.facts.specs.declared.fact.Fact.{Fact}
use Rattle.facts.specs.declared.fact.Fact.TheVariants as fact
use Rattle.facts.specs.declared.fact.Slot.TheVariants as slot
use Rattle.facts.specs.Order.{slot_of, IsStronger}
use Rattle.facts.proofs.Laws.{IsStronger-refl}
use Rattle.facts.proofs.Meets.{meet-IsMeet}
use Rattle.facts.proofs.CommonParts.{at_option}
use Rattle.derivation.specs.Derivations.{At, Beats}
use Rattle.derivation.specs.Rounds.{IsProper, IsKept, Improves, Grows}
use Rattle.derivation.specs.Parts.{slot_cases}
use Rattle.derivation.proofs.Parts.{some_same, none_some, stronger_slot}

-- nothing was there, or something was
pub kept_cases : (at : At) (c k : Fact) → IsKept (at (slot_of c)) c k →
    ((at (slot_of c) ≡ None) × (k ≡ c))
    ⊎ ((g : Fact) × (at (slot_of c) ≡ Some g) × IsKept (Some g) c k)
kept_cases at c k =
    at_option (at (slot_of c)) (λ o. IsKept o c k
    → ((o ≡ None) × (k ≡ c)) ⊎ ((g : Fact) × (o ≡ Some g) × IsKept (Some g) c k))
    (λ n h. inl (refl, h)) (λ g e h. inr (g, refl, h))

-- what is kept beats what was there
kept_stronger : (g c k : Fact) → IsKept (Some g) c k → IsStronger k g
kept_stronger g c k w =
    elim w [
      | inl y ↦ subst (λ f. IsStronger f g) (sym y.1) (IsStronger-refl g)
      | inr y ↦ (meet-IsMeet g c k y).left
    ]

module _ (at new : At) (c k : Fact) (i : Improves at new c k) where
  -- it beats what came
  pub improved_stronger : IsStronger k c
  improved_stronger =
      elim (kept_cases at c k i.kept) [
        | inl x ↦ subst (λ f. IsStronger f c) (sym x.1) (IsStronger-refl c)
        | inr x ↦
            elim x.2 [
              | inl y ↦ subst (λ f. IsStronger f c) (sym y.1) y.0
              | inr y ↦ (meet-IsMeet x.0 c k y).right
            ]
      ]

  pub improved_proper : IsProper at → IsProper new
  improved_proper p s f e =
      elim (slot_cases s (slot_of k)) [
        | inr d ↦ p s f (sym (i.written.others s d) ∙ e)
        | inl d ↦ ap slot_of (sym (some_same k f (new s) (ap new d ∙ i.written.here) e)) ∙ sym d
      ]

  pub old_no_void : new slot.Void ≡ None → at slot.Void ≡ None
  old_no_void n =
      elim (slot_cases slot.Void (slot_of k)) [
        | inl e ↦ absurd (none_some k (new slot.Void) n (ap new e ∙ i.written.here))
        | inr e ↦ sym (i.written.others slot.Void e) ∙ n
      ]

  module _ (n : new slot.Void ≡ None) where
    improved_not_void : ¬ (k ≡ fact.Void)
    improved_not_void e =
        none_some k (new slot.Void) n (ap new (sym (ap slot_of e)) ∙ i.written.here)

    pub improved_slot : slot_of k ≡ slot_of c
    improved_slot = stronger_slot k c improved_stronger improved_not_void

    pub improved_beats : Beats new c
    improved_beats = (k, ap new (sym improved_slot) ∙ i.written.here, improved_stronger)

    pub improved_grows : Grows at new
    improved_grows s f e =
        elim (slot_cases s (slot_of k)) [
          | inr d ↦ (f, i.written.others s d ∙ e, IsStronger-refl f)
          | inl d ↦ (
            k,
            ap new d ∙ i.written.here,
            elim (kept_cases at c k i.kept) [
              | inl x ↦ absurd (none_some f (at s) (ap at (d ∙ improved_slot) ∙ x.0) e)
              | inr x ↦ subst (λ g. IsStronger k g) (some_same x.0 f (at s)
                  (ap at (d ∙ improved_slot) ∙ x.1) e) (kept_stronger x.0 c k x.2)
            ],
          )
        ]
