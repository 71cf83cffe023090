-- Additions of what the members of a list give, one member after another.
use Rattle.std.specs.Prelude.{◌≡◌, ◌⊎◌, ◌<◌, ◌≤◌, ◌+◌, ℕ, List, [], ◌∷◌, Some, slice_get}
use Rattle.std.specs.Prelude.{slice_index_or, length}
use Rattle.std.proofs.Common.{inl, inr, arith, ap, sym, ◌∙◌, subst}
use Rattle.std.proofs.lemmas.Option.{slice_get_within, slice_get-get_or}
use Rattle.std.proofs.lemmas.Bool.{cases_lt}
use Rattle.fx_model.specs.declared.Node.{Node}
use Rattle.pair_closure.specs.Grown.{IsGrown, IsOverfull}
use Rattle.pair_closure.specs.Differences.{IsGivenBy}
use Rattle.pair_closure.proofs.Members.{some-inj, has_first, has_rest, has_cases, no_member}
use Rattle.pair_closure.proofs.Listed.{HasBelow}
use Rattle.pair_closure.proofs.Grown.{grown_both, grown_same, grown_none, overfull_later}
use Rattle.pair_closure.proofs.Grown.{overfull_wider}

-- one of the first i gives y
abbrev pub IsGivenBelow : {A B : Type 0} → ℕ → List A → (A → B → Type 0) → B → Type 0
IsGivenBelow {A} i xs Q y = (x : A) × HasBelow i xs x × Q x y

-- a list never gets shorter
pub longer : {A : Type 0} (old new : List A) (P : A → Type 0) → IsGrown old new P
    → length old ≤ length new
longer [] new P g = omega arith
longer (x ∷ xs) new P g = elim (cases_lt (length new) (length (x ∷ xs))) [
  | inl h ↦
      let at = slice_get-get_or (x ∷ xs) (length new) x h in
      let within = slice_get_within new (length new) (slice_index_or (x ∷ xs) (length new) x)
      (g.kept (length new) (slice_index_or (x ∷ xs) (length new) x) at) in
      absurd (omega arith)
  | inr h ↦ h
]

module _ {A B : Type 0} (Q : A → B → Type 0) where
  given_first : (p : A) (ps : List A) (y : B) → Q p y → IsGivenBy (p ∷ ps) Q y
  given_first p ps y q = (p, has_first p ps, q)

  given_rest : (p : A) (ps : List A) (y : B) → IsGivenBy ps Q y → IsGivenBy (p ∷ ps) Q y
  given_rest p ps y g = (g.0, has_rest p ps g.0 g.1, g.2)

  given_cases : (p : A) (ps : List A) (y : B) → IsGivenBy (p ∷ ps) Q y → Q p y ⊎ IsGivenBy ps Q y
  given_cases p ps y g = elim (has_cases p ps g.0 g.1)
      [ inl e ↦ inl (subst (λ x. Q x y) e g.2) | inr h ↦ inr (g.0, h, g.2) ]

  given_none : (y : B) → ¬ IsGivenBy [] Q y
  given_none y g = no_member g.0 g.1

  pub grown_by_none : (xs : List B) → IsGrown xs xs (IsGivenBy [] Q)
  grown_by_none xs = grown_none xs (IsGivenBy [] Q) given_none

  pub grown_by_one : (old new : List B) (p : A) → IsGrown old new (Q p)
      → IsGrown old new (IsGivenBy (p ∷ []) Q)
  grown_by_one old new p g = grown_same old new (Q p) (IsGivenBy (p ∷ []) Q) (given_first p [])
      (λ y h. elim (given_cases p [] y h) [ inl q ↦ q | inr n ↦ absurd (given_none y n) ]) g

  two : (p q : A) (y : B) → Q p y ⊎ Q q y → IsGivenBy (p ∷ q ∷ []) Q y
  two p q y (inl h) = given_first p (q ∷ []) y h
  two p q y (inr h) = given_rest p (q ∷ []) y (given_first q [] y h)

  two_back : (p q : A) (y : B) → IsGivenBy (p ∷ q ∷ []) Q y → Q p y ⊎ Q q y
  two_back p q y h = elim (given_cases p (q ∷ []) y h) [
    | inl a ↦ inl a
    | inr n ↦ elim (given_cases q [] y n) [ inl b ↦ inr b | inr o ↦ absurd (given_none y o) ]
  ]

  pub grown_by_two : (old mid new : List B) (p q : A) → IsGrown old mid (Q p)
      → IsGrown mid new (Q q) → IsGrown old new (IsGivenBy (p ∷ q ∷ []) Q)
  grown_by_two old mid new p q g h = grown_same old new (λ y. Q p y ⊎ Q q y)
      (IsGivenBy (p ∷ q ∷ []) Q) (two p q) (two_back p q) (grown_both old mid new (Q p) (Q q) g h)

  -- going through a list
  pub by_start : (old : List B) (xs : List A) → IsGrown old old (IsGivenBelow 0 xs Q)
  by_start old xs =
      grown_none old (IsGivenBelow 0 xs Q) (λ y h. let l : (h.1).0 < 0 = (h.1).1 in omega arith)

  pub by_more : (old mid new : List B) (xs : List A) (i : ℕ) (x : A)
      → slice_get xs i ≡ Some x → IsGrown old mid (IsGivenBelow i xs Q) → IsGrown mid new (Q x)
      → IsGrown old new (IsGivenBelow (i + 1) xs Q)
  by_more old mid new xs i x at g h =
      grown_same old new (λ y. IsGivenBelow i xs Q y ⊎ Q x y) (IsGivenBelow (i + 1) xs Q)
      (λ y e. elim e [
        | inl b ↦ (let l : (b.1).0 < i = (b.1).1 in (b.0, ((b.1).0, omega arith, (b.1).2), b.2))
        | inr q ↦ (x, (i, omega arith, at), q)
      ])
      back
      (grown_both old mid new (IsGivenBelow i xs Q) (Q x) g h)
    where
      back : (y : B) → IsGivenBelow (i + 1) xs Q y → IsGivenBelow i xs Q y ⊎ Q x y
      back y b = elim (cases_lt (b.1).0 i) [
        | inl l ↦ inl (b.0, ((b.1).0, l, (b.1).2), b.2)
        | inr l ↦
            let m : (b.1).0 < i + 1 = (b.1).1 in
            let e : (b.1).0 ≡ i = omega arith in
            inr (subst (λ z. Q z y) (some-inj b.0 x (sym (b.1).2 ∙ ap (slice_get xs) e ∙ at)) b.2)
      ]

  pub by_end : (old new : List B) (xs : List A) (i : ℕ) → i ≡ length xs
      → IsGrown old new (IsGivenBelow i xs Q) → IsGrown old new (IsGivenBy xs Q)
  by_end old new xs i e g = grown_same old new (IsGivenBelow i xs Q) (IsGivenBy xs Q)
      (λ y b. (b.0, ((b.1).0, (b.1).2), b.2))
      (λ y h. (let w = slice_get_within xs (h.1).0 h.0 (h.1).1 in
      (h.0, ((h.1).0, omega arith, (h.1).1), h.2))) g

-- ---- where there is no room
module _ {A : Type 0} (Q : A → Node → Type 0) where
  pub overfull_by_one : (old : List Node) (p : A) → IsOverfull old (Q p)
      → IsOverfull old (IsGivenBy (p ∷ []) Q)
  overfull_by_one old p =
      overfull_wider old (Q p) (IsGivenBy (p ∷ []) Q) (λ y q. (p, has_first p [], q))

  pub overfull_by_first : (old : List Node) (p q : A) → IsOverfull old (Q p)
      → IsOverfull old (IsGivenBy (p ∷ q ∷ []) Q)
  overfull_by_first old p q =
      overfull_wider old (Q p) (IsGivenBy (p ∷ q ∷ []) Q) (λ y h. (p, has_first p (q ∷ []), h))

  pub overfull_by_second : (old mid : List Node) (p q : A) → IsGrown old mid (Q p)
      → IsOverfull mid (Q q) → IsOverfull old (IsGivenBy (p ∷ q ∷ []) Q)
  overfull_by_second old mid p q g o = overfull_wider old (λ y. Q p y ⊎ Q q y)
      (IsGivenBy (p ∷ q ∷ []) Q) (two Q p q) (overfull_later old mid (Q p) (Q q) g o)

  pub overfull_by_more : (old mid : List Node) (xs : List A) (i : ℕ) (x : A)
      → slice_get xs i ≡ Some x → IsGrown old mid (IsGivenBelow i xs Q) → IsOverfull mid (Q x)
      → IsOverfull old (IsGivenBy xs Q)
  overfull_by_more old mid xs i x at g o =
      overfull_wider old (λ y. IsGivenBelow i xs Q y ⊎ Q x y) (IsGivenBy xs Q)
      (λ y e. elim e [ inl b ↦ (b.0, ((b.1).0, (b.1).2), b.2) | inr q ↦ (x, (i, at), q) ])
      (overfull_later old mid (IsGivenBelow i xs Q) (Q x) g o)
