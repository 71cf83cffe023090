-- Derivations from a table's facts do as well as derivations from all that these facts are the best
-- of.
use Rattle.std.specs.Prelude.{◌≡◌, ◌⊎◌, ℕ, suc, List, [], ◌∷◌, Some, None, slice_get, refl}
use Rattle.std.proofs.Common.{sym, ◌∙◌, ap, subst, inl, inr}
use Rattle.facts.specs.declared.fact.Fact.{Fact}
use Rattle.facts.specs.declared.fact.Slot.{Slot}
use Rattle.facts.specs.declared.fact.Fact.TheVariants as fact
use Rattle.facts.specs.declared.fact.Slot.TheVariants as slot
use Rattle.facts.specs.Order.{slot_of, IsStronger, meet_of}
use Rattle.facts.proofs.Laws.{IsStronger-trans, IsStronger-meet, meet_exists}
use Rattle.facts.proofs.Meets.{meet-none}
use Rattle.facts.specs.Promises.{EachStronger}
use Rattle.facts.specs.declared.instance.Instance.{Instance}
use Rattle.facts.proofs.CommonParts.{at_option, void_cases}
use Rattle.derivation.specs.Lists.{IsLawful}
use Rattle.derivation.specs.Derivations.{Setting, Derives, DeriveEach, given, drawn, met, none}
use Rattle.derivation.specs.Derivations.{next, At, Beats, IsBest, IsClosed}
use Rattle.derivation.specs.Rounds.{IsProper, InTable, IsBestFrom}
use Rattle.derivation.proofs.Parts.{none_some, void_alone, stronger_slot, beats_weaker}
use Rattle.derivation.specs.Parts.{slot_cases}
use Rattle.derivation.proofs.Best.{Derives-suc, best_proper}

mutual
  embed : {u : Setting} {G H : Fact → Type 0} {n : ℕ} {f : Fact}
      → ((x : Fact) → H x → (m : ℕ) → Derives u G m x) → Derives u H n f → Derives u G n f
  embed {n = n} down (given x) = down _ x n
  embed down (drawn k i e d c) = drawn k i e (embed_each down d) c
  embed down (met a b d e m) = met a b (embed down d) (embed down e) m

  embed_each : {u : Setting} {G H : Fact → Type 0} {n : ℕ} {ss : List Slot} {ps : List Fact}
      → ((x : Fact) → H x → (m : ℕ) → Derives u G m x) → DeriveEach u H n ss ps
      → DeriveEach u G n ss ps
  embed_each down none = none
  embed_each down (next s p e d r) = next s p e (embed down d) (embed_each down r)

-- a derivation from the table of a fact that is as strong, or stronger
abbrev Better : Setting → At → ℕ → Fact → Type 0
Better u start h f = (g : Fact) × Derives u (InTable start) h g × IsStronger g f

better_void : (u : Setting) (start : At) (h : ℕ) (g f : Fact) → g ≡ fact.Void
    → Derives u (InTable start) h g → Better u start h f
better_void u start h g f e d = (fact.Void, subst (λ x. Derives u (InTable start) h x) e d, tt)

-- a meet of stronger facts
better_meet : (u : Setting) (start : At) (h : ℕ) (a b f : Fact) → Better u start h a
    → Better u start h b → meet_of a b ≡ Some f → Better u start h f
better_meet u start h a b f x y m =
    elim (void_cases x.0) [
      | inl e ↦ better_void u start h x.0 f e x.1
      | inr na ↦ elim (void_cases y.0) [
        | inl e ↦ better_void u start h y.0 f e y.1
        | inr nb ↦
            let sa = stronger_slot x.0 a x.2 na in
            let sb = stronger_slot y.0 b y.2 nb in
            elim (slot_cases (slot_of a) (slot_of b)) [
              | inl s ↦
                  let k = meet_exists x.0 y.0 (sa ∙ (s ∙ sym sb)) in (
                    k.0,
                    met x.0 y.0 x.1 y.1 k.1.is,
                    IsStronger-meet k.0 a b f (IsStronger-trans k.0 x.0 a k.1.left x.2)
                        (IsStronger-trans k.0 y.0 b k.1.right y.2) m,
                  )
              | inr d ↦
                  elim (void_cases a) [
                    | inl v ↦ absurd (na (void_alone x.0 (subst (λ c. IsStronger x.0 c) v x.2)))
                    | inr va ↦ elim (void_cases b) [
                      | inl v ↦ absurd (nb (void_alone y.0 (subst (λ c. IsStronger y.0 c) v y.2)))
                      | inr vb ↦ absurd (none_some f (meet_of a b)
                          ((meet-none a b).1 (va, vb, d)) m)
                    ]
                  ]
            ]
      ]
    ]

module _ (u : Setting) (lawful : IsLawful u.rules)
    (closed : IsClosed u.instances) (start : At) where
  better_drawn : (h : ℕ) (f : Fact) (gs ps : List Fact) (k : ℕ) (i : Instance)
      → slice_get u.instances k ≡ Some i
      → DeriveEach u (InTable start) h i.premises gs → EachStronger gs ps
      → u.rules i.rule i.arg ps i.target ≡ Some f → Better u start (suc h) f
  better_drawn h f gs ps k i e d s c =
      elim (lawful.isotone i.rule i.arg ps i.target gs f s c) [
        | inl x ↦ (x.0, drawn k i e d x.1, x.2)
        | inr x ↦
            let z = closed k i e x.0 in
            let q : u.rules z.1.rule z.1.arg gs z.1.target ≡ Some fact.Void =
            rw (z.3, z.4, z.5) x.1 in (
              fact.Void,
              drawn z.0 z.1 z.2 (subst (λ ss. DeriveEach u (InTable start) h ss gs) (sym z.6) d) q,
              tt,
            )
      ]

  BetterEach : ℕ → List Slot → List Fact → Type 0
  BetterEach h ss ps = Derives u (InTable start) h fact.Void
      ⊎ ((gs : List Fact) × DeriveEach u (InTable start) h ss gs × EachStronger gs ps)

  better_next : (h : ℕ) (s : Slot) (p : Fact) (ss : List Slot) (ps : List Fact) → slot_of p ≡ s
      → Better u start h p → BetterEach h ss ps → BetterEach h (s ∷ ss) (p ∷ ps)
  unfolding BetterEach
  better_next h s p ss ps e x r =
      elim (void_cases x.0) [
        | inl v ↦ inl (subst (λ y. Derives u (InTable start) h y) v x.1)
        | inr n ↦ elim r [
          | inl v ↦ inl v
          | inr y ↦ inr
              (x.0 ∷ y.0, next s x.0 (stronger_slot x.0 p x.2 n ∙ e) x.1 y.1, (n, x.2, y.2))
        ]
      ]

  after_each : (h : ℕ) (f : Fact) (ps : List Fact) (k : ℕ) (i : Instance)
      → slice_get u.instances k ≡ Some i
      → u.rules i.rule i.arg ps i.target ≡ Some f → BetterEach h i.premises ps
      → Better u start (suc h) f
  unfolding BetterEach
  after_each h f ps k i e c r =
      elim r [
        | inl v ↦ (fact.Void, Derives-suc v, tt)
        | inr y ↦ better_drawn h f y.0 ps k i e y.1 y.2 c
      ]

  no_premises : (h : ℕ) → BetterEach h [] []
  unfolding BetterEach
  no_premises h = inr ([], none, tt)

  module _ (G : Fact → Type 0) (up : (x : Fact) → G x → Beats start x) where
    mutual
      simulate : {h : ℕ} {f : Fact} → Derives u G h f → Better u start h f
      simulate {f = f} (given x) = let b = up f x in (b.0, given (slot_of f, b.1), b.2)
      simulate {f = f} (drawn k i e d c) = after_each _ f _ k i e c (simulate_each d)
      simulate {f = f} (met a b d e m) = better_meet u start _ a b f (simulate d) (simulate e) m

      simulate_each : {h : ℕ} {ss : List Slot} {ps : List Fact}
          → DeriveEach u G h ss ps → BetterEach h ss ps
      simulate_each none = no_premises _
      simulate_each (next s p e d r) = better_next _ s p _ _ e (simulate d) (simulate_each r)

-- VOID of the start stays
no_void_before : (u : Setting) (start : At) → IsProper start → (h : ℕ) (at : At)
    → IsBestFrom u start h at → at slot.Void ≡ None → start slot.Void ≡ None
no_void_before u start proper h at b v =
    at_option (start slot.Void) (λ o. start slot.Void ≡ o → start slot.Void ≡ None) (λ n q. q)
    (λ c e q.
    let y = b.least v c (given (slot.Void, q)) in
    absurd (none_some y.0 (at slot.Void) v (ap at (sym (proper slot.Void c q)) ∙ y.1)))
    refl

-- The best over a table's facts are the best over all that is given, where the table has the best
-- of it.
pub rebase : (u : Setting) → IsLawful u.rules → IsClosed u.instances
    → (G : Fact → Type 0) (start : At) → IsProper start
    → (start slot.Void ≡ None → (x : Fact) → G x → Beats start x) →
    ((x : Fact) → InTable start x → (m : ℕ) → Derives u G m x) →
    (h : ℕ) (at : At) → IsBestFrom u start h at → IsBest u G h at
rebase u lawful closed G start proper up down h at b = record {
  reached = λ s f e. let r = b.reached s f e in (r.0, embed down r.1);
  least = λ v f d.
      let x = simulate u lawful closed start G (up (no_void_before u start proper h at b v)) d in
      beats_weaker at (best_proper u (InTable start) h at b) v x.0 f (b.least v x.0 x.1) x.2;
}
