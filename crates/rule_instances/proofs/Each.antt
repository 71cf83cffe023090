-- What the members of a list give: which instances, each once, and one member more.
use Rattle.std.specs.Prelude.{◌≡◌, ◌⊎◌, ◌+◌, ℕ, zero, suc, List, [], ◌∷◌, ◌++◌, Some, take}
use Rattle.std.specs.Prelude.{slice_get, length, refl}
use Rattle.std.proofs.Common.{inl, inr, arith, ap, sym, ◌∙◌, subst, append_assoc, take_all}
use Rattle.std.proofs.lemmas.List.{append-nil}
use Rattle.pair_closure.specs.Reached.{Has, IsEachOnce}
use Rattle.pair_closure.proofs.Members.{some-inj, none_at, no_member, has_left, has_right}
use Rattle.pair_closure.proofs.Members.{has_either, once_nil, once_append}
use Rattle.facts.specs.declared.instance.Instance.{Instance}
use Rattle.rule_instances.specs.InOrder.{each_at}

module _ {A : Type 0} where
  -- x has number n, where the first has number k
  abbrev pub At : ℕ → List A → ℕ → A → Type 0
  At k xs n x = (j : ℕ) × (slice_get xs j ≡ Some x) × (n ≡ k + j)

  pub at_place : (xs : List A) (n : ℕ) (x : A) → At 0 xs n x → slice_get xs n ≡ Some x
  at_place xs n x a = let e : n ≡ 0 + a.0 = a.2 in let f : n ≡ a.0 = omega arith in
      ap (slice_get xs) f ∙ a.1

  pub place_at : (xs : List A) (n : ℕ) (x : A) → slice_get xs n ≡ Some x → At 0 xs n x
  place_at xs n x e = (n, e, omega arith)

  at_first : (k : ℕ) (x : A) (xs : List A) → At k (x ∷ xs) k x
  at_first k x xs = (0, refl, omega arith)

  at_rest : (k : ℕ) (y : A) (xs : List A) (n : ℕ) (x : A) → At (k + 1) xs n x → At k (y ∷ xs) n x
  at_rest k y xs n x a = let e : n ≡ k + 1 + a.0 = a.2 in (suc a.0, a.1, omega arith)

  at_cases_by : (k : ℕ) (y : A) (xs : List A) (n : ℕ) (x : A) (j : ℕ)
      → slice_get (y ∷ xs) j ≡ Some x → n ≡ k + j → ((n ≡ k) × (x ≡ y)) ⊎ At (k + 1) xs n x
  at_cases_by k y xs n x zero e f = inl (omega arith, some-inj x y (sym e))
  at_cases_by k y xs n x (suc j) e f = inr (j, e, omega arith)

  at_cases : (k : ℕ) (y : A) (xs : List A) (n : ℕ) (x : A) → At k (y ∷ xs) n x
      → ((n ≡ k) × (x ≡ y)) ⊎ At (k + 1) xs n x
  at_cases k y xs n x a = at_cases_by k y xs n x a.0 a.1 a.2

  module _ (f : ℕ → A → List Instance) where
    pub each_out : (k : ℕ) (xs : List A) (i : Instance) → Has (each_at f k xs) i
        → (n : ℕ) × (x : A) × At k xs n x × Has (f n x) i
    each_out k [] i h = absurd (no_member i h)
    each_out k (x ∷ xs) i h = elim (has_either (f k x) (each_at f (k + 1) xs) i h) [
      | inl a ↦ (k, x, at_first k x xs, a)
      | inr b ↦ (let r = each_out (k + 1) xs i b in (r.0, r.1, at_rest k x xs r.0 r.1 r.2, r.3))
    ]

    pub each_in : (k : ℕ) (xs : List A) (i : Instance) (n : ℕ) (x : A) → At k xs n x → Has (f n x) i
        → Has (each_at f k xs) i
    each_in k [] i n x a h = absurd (none_at x a.1)
    each_in k (y ∷ ys) i n x a h = elim (at_cases k y ys n x a) [
      | inl e ↦ has_left (f k y) (each_at f (k + 1) ys) i
          (subst (λ m. Has (f m y) i) e.0 (subst (λ z. Has (f n z) i) e.1 h))
      | inr b ↦ has_right (f k y) (each_at f (k + 1) ys) i (each_in (k + 1) ys i n x b h)
    ]

    pub each_once : (k : ℕ) (xs : List A) → ((n : ℕ) (x : A) → At k xs n x → IsEachOnce (f n x))
        → ((n m : ℕ) (x y : A) (i : Instance) → At k xs n x → At k xs m y → Has (f n x) i
        → Has (f m y) i → n ≡ m) → IsEachOnce (each_at f k xs)
    each_once k [] once apart = once_nil
    each_once k (x ∷ xs) once apart =
        once_append (f k x) (each_at f (k + 1) xs) (once k x (at_first k x xs))
        (each_once (k + 1) xs (λ n y a. once n y (at_rest k x xs n y a))
        (λ n m y z i a b g h. apart n m y z i (at_rest k x xs n y a) (at_rest k x xs m z b) g h))
        (λ i g h. (let r = each_out (k + 1) xs i h in
        let e : k ≡ r.0 = apart k r.0 x r.1 i (at_first k x xs)
        (at_rest k x xs r.0 r.1 r.2) g r.3 in
        let s : r.0 ≡ k + 1 + (r.2).0 = (r.2).2 in
        absurd (omega arith)))

    -- ---- going through a list
    front : (k : ℕ) (xs : List A) (i : ℕ) (x : A) → slice_get xs i ≡ Some x
        → each_at f k (take (i + 1) xs) ≡ each_at f k (take i xs) ++ f (k + i) x
    front k [] i x e = absurd (none_at x e)
    front k (y ∷ ys) zero x e =
        let s : y ≡ x = some-inj y x e in
        let z : k ≡ k + 0 = omega arith in
        append-nil (f k y) ∙ (λ j. f (z j) (s j))
    front k (y ∷ ys) (suc i) x e =
        let a : suc i + 1 ≡ suc (i + 1) = omega arith in
        let b : k + 1 + i ≡ k + suc i = omega arith in
        ap (λ n. each_at f k (take n (y ∷ ys))) a ∙ ap (λ l. f k y ++ l) (front (k + 1) ys i x e
        ∙ ap (λ n. each_at f (k + 1) (take i ys) ++ f n x) b)
        ∙ sym (append_assoc (f k y) (each_at f (k + 1) (take i ys)) (f (k + suc i) x))

    pub start : (old : List Instance) → old ≡ old ++ []
    start old = sym (append-nil old)

    pub more : (old mid new : List Instance) (xs : List A) (i : ℕ) (x : A)
        → slice_get xs i ≡ Some x → mid ≡ old ++ each_at f 0 (take i xs) → new ≡ mid ++ f i x
        → new ≡ old ++ each_at f 0 (take (i + 1) xs)
    more old mid new xs i x at e g =
        let z : 0 + i ≡ i = omega arith in
        g ∙ ap (λ l. l ++ f i x) e ∙ append_assoc old (each_at f 0 (take i xs)) (f i x) ∙ ap
        (λ l. old ++ l) (sym (front 0 xs i x at ∙ ap (λ n. each_at f 0 (take i xs) ++ f n x) z))

    pub end : (old new : List Instance) (xs : List A) (i : ℕ) → i ≡ length xs
        → new ≡ old ++ each_at f 0 (take i xs) → new ≡ old ++ each_at f 0 xs
    end old new xs i e g = g ∙ ap (λ l. old ++ each_at f 0 l) (take_all i xs (omega arith))
