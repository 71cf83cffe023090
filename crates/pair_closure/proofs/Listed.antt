-- Members of short lists, and of the front of a list.
use Rattle.std.specs.Prelude.{◌≡◌, ◌⊎◌, ◌<◌, ◌+◌, ℕ, List, [], ◌∷◌, Some, slice_get, length}
use Rattle.std.proofs.Common.{inl, inr, arith, ap, sym, ◌∙◌, subst}
use Rattle.std.proofs.lemmas.Option.{slice_get_within}
use Rattle.std.proofs.lemmas.Bool.{cases_lt}
use Rattle.pair_closure.specs.Reached.{Has}
use Rattle.pair_closure.specs.Grown.{IsGrown}
use Rattle.pair_closure.proofs.Members.{some-inj, no_member, has_first, has_rest, has_cases}
use Rattle.pair_closure.proofs.Grown.{grown_both, grown_same, grown_none}

-- x stands among the first i
abbrev pub HasBelow : {A : Type 0} → ℕ → List A → A → Type 0
HasBelow i xs x = (k : ℕ) × (k < i) × (slice_get xs k ≡ Some x)

module _ {A : Type 0} where
  pub grown_one : (old new : List A) (p : A) → IsGrown old new (λ x. x ≡ p)
      → IsGrown old new (Has (p ∷ []))
  grown_one old new p g = grown_same old new (λ x. x ≡ p) (Has (p ∷ []))
      (λ x e. subst (Has (p ∷ [])) (sym e) (has_first p []))
      (λ x h. elim (has_cases p [] x h) [ inl e ↦ e | inr n ↦ absurd (no_member x n) ]) g

  pub grown_two : (old mid new : List A) (p q : A) → IsGrown old mid (λ x. x ≡ p)
      → IsGrown mid new (λ x. x ≡ q) → IsGrown old new (Has (p ∷ q ∷ []))
  grown_two old mid new p q g h = grown_same old new (λ x. (x ≡ p) ⊎ (x ≡ q)) (Has (p ∷ q ∷ []))
      (λ x e. elim e [
        | inl a ↦ subst (Has (p ∷ q ∷ [])) (sym a) (has_first p (q ∷ []))
        | inr b ↦ subst (Has (p ∷ q ∷ [])) (sym b) (has_rest p (q ∷ []) q (has_first q []))
      ])
      (λ x m. elim (has_cases p (q ∷ []) x m) [
        | inl e ↦ inl e
        | inr n ↦ elim (has_cases q [] x n) [ inl e ↦ inr e | inr o ↦ absurd (no_member x o) ]
      ])
      (grown_both old mid new (λ x. x ≡ p) (λ x. x ≡ q) g h)

  -- going through a list
  pub grown_start : (old xs : List A) → IsGrown old old (HasBelow 0 xs)
  grown_start old xs = grown_none old (HasBelow 0 xs) (λ x h. let l : h.0 < 0 = h.1 in omega arith)

  pub grown_more : (old mid new xs : List A) (i : ℕ) (x : A)
      → slice_get xs i ≡ Some x → IsGrown old mid (HasBelow i xs) → IsGrown mid new (λ y. y ≡ x)
      → IsGrown old new (HasBelow (i + 1) xs)
  grown_more old mid new xs i x at g h =
      grown_same old new (λ y. HasBelow i xs y ⊎ (y ≡ x)) (HasBelow (i + 1) xs)
      (λ y e. elim e [
        | inl b ↦ (let l : b.0 < i = b.1 in (b.0, omega arith, b.2))
        | inr s ↦ (i, omega arith, at ∙ ap Some (sym s))
      ])
      back
      (grown_both old mid new (HasBelow i xs) (λ y. y ≡ x) g h)
    where
      back : (y : A) → HasBelow (i + 1) xs y → HasBelow i xs y ⊎ (y ≡ x)
      back y b = elim (cases_lt b.0 i) [
        | inl l ↦ inl (b.0, l, b.2)
        | inr l ↦ (let m : b.0 < i + 1 = b.1 in let e : b.0 ≡ i = omega arith in
            inr (some-inj y x (sym b.2 ∙ ap (slice_get xs) e ∙ at)))
      ]

  pub grown_end : (old new xs : List A) (i : ℕ) → i ≡ length xs → IsGrown old new (HasBelow i xs)
      → IsGrown old new (Has xs)
  grown_end old new xs i e g = grown_same old new (HasBelow i xs) (Has xs) (λ x b. (b.0, b.2))
      (λ x h. (let w = slice_get_within xs h.0 x h.1 in (h.0, omega arith, h.1))) g
