-- Members of lists, and lists that hold none twice.
use Rattle.std.specs.Prelude.{◌≡◌, ◌⊎◌, ℕ, zero, suc, List, [], ◌∷◌, ◌++◌, Some, None, slice_get}
use Rattle.std.specs.Prelude.{length, refl}
use Rattle.std.specs.List.{AllByRecursion, Contains}
use Rattle.std.proofs.Common.{inl, inr, arith, ap, sym, ◌∙◌, subst}
use Rattle.std.proofs.lemmas.Option.{slice_get-get_or, none-some}
use Rattle.pair_closure.specs.Reached.{Has, IsEachOnce}

module _ {A : Type 0} where
  pub some-inj : (x y : A) → Some x ≡ Some y → x ≡ y
  some-inj x y e = cc

  pub none_at : (x : A) → None ≡ Some x → ⊥
  none_at x e = none-some x e

  pub has_from_contains : (xs : List A) (x : A) → Contains xs x → Has xs x
  has_from_contains xs x c = (c.0, slice_get-get_or xs c.0 x c.1 ∙ ap Some c.2)

  -- ---- one more at the end
  pub before_last : (xs : List A) (y : A) (k : ℕ) (x : A) → slice_get xs k ≡ Some x
      → slice_get (xs ++ y ∷ []) k ≡ Some x
  before_last [] y k x h = absurd (none-some x h)
  before_last (z ∷ zs) y zero x h = h
  before_last (z ∷ zs) y (suc k) x h = before_last zs y k x h

  pub last_at : (xs : List A) (y : A) → slice_get (xs ++ y ∷ []) (length xs) ≡ Some y
  last_at [] y = refl
  last_at (z ∷ zs) y = last_at zs y

  -- a member of a longer list stands in the list, or is its last one
  pub ends_with : (xs : List A) (y : A) (k : ℕ) (x : A) → slice_get (xs ++ y ∷ []) k ≡ Some x
      → (slice_get xs k ≡ Some x) ⊎ ((k ≡ length xs) × (x ≡ y))
  ends_with [] y zero x h = inr (refl, cc)
  ends_with [] y (suc k) x h = absurd (cc)
  ends_with (z ∷ zs) y zero x h = inl h
  ends_with (z ∷ zs) y (suc k) x h =
      elim (ends_with zs y k x h) [ inl a ↦ inl a | inr b ↦ inr (omega arith, b.1) ]

  -- ---- first and rest
  pub no_member : (x : A) → ¬ Has [] x
  no_member x h = none_at x h.1

  pub has_first : (p : A) (ps : List A) → Has (p ∷ ps) p
  has_first p ps = (0, refl)

  pub has_rest : (p : A) (ps : List A) (x : A) → Has ps x → Has (p ∷ ps) x
  has_rest p ps x h = (suc h.0, h.1)

  has_cases_at : (p : A) (ps : List A) (x : A) (k : ℕ)
      → slice_get (p ∷ ps) k ≡ Some x → (x ≡ p) ⊎ Has ps x
  has_cases_at p ps x zero e = inl (some-inj x p (sym e))
  has_cases_at p ps x (suc k) e = inr (k, e)

  pub has_cases : (p : A) (ps : List A) (x : A) → Has (p ∷ ps) x → (x ≡ p) ⊎ Has ps x
  has_cases p ps x h = has_cases_at p ps x h.0 h.1

  -- what holds of all holds of each
  pub has_all : (P : A → Type 0) (xs : List A) → AllByRecursion P xs → (x : A) → Has xs x → P x
  has_all P [] h x m = absurd (no_member x m)
  has_all P (y ∷ ys) h x m =
      elim (has_cases y ys x m) [ inl e ↦ subst P (sym e) h.0 | inr r ↦ has_all P ys h.1 x r ]

  -- ---- two lists, one behind the other
  pub has_left : (xs ys : List A) (x : A) → Has xs x → Has (xs ++ ys) x
  has_left [] ys x m = absurd (no_member x m)
  has_left (y ∷ xs) ys x m = elim (has_cases y xs x m) [
    | inl e ↦ subst (Has (y ∷ (xs ++ ys))) (sym e) (has_first y (xs ++ ys))
    | inr r ↦ has_rest y (xs ++ ys) x (has_left xs ys x r)
  ]

  pub has_right : (xs ys : List A) (x : A) → Has ys x → Has (xs ++ ys) x
  has_right [] ys x m = m
  has_right (y ∷ xs) ys x m = has_rest y (xs ++ ys) x (has_right xs ys x m)

  pub has_either : (xs ys : List A) (x : A) → Has (xs ++ ys) x → Has xs x ⊎ Has ys x
  has_either [] ys x m = inr m
  has_either (y ∷ xs) ys x m = elim (has_cases y (xs ++ ys) x m) [
    | inl e ↦ inl (subst (Has (y ∷ xs)) (sym e) (has_first y xs))
    | inr r ↦ elim (has_either xs ys x r) [ inl a ↦ inl (has_rest y xs x a) | inr b ↦ inr b ]
  ]

  pub kept_left : (xs ys : List A) (k : ℕ) (x : A) → slice_get xs k ≡ Some x
      → slice_get (xs ++ ys) k ≡ Some x
  kept_left [] ys k x h = absurd (none_at x h)
  kept_left (z ∷ zs) ys zero x h = h
  kept_left (z ∷ zs) ys (suc k) x h = kept_left zs ys k x h

  -- ---- none twice
  pub once_tail : (y : A) (ys : List A) → IsEachOnce (y ∷ ys) → IsEachOnce ys
  once_tail y ys o i j x a b = let e : suc i ≡ suc j = o (suc i) (suc j) x a b in omega arith

  pub once_front : (y : A) (ys : List A) → IsEachOnce (y ∷ ys) → ¬ Has ys y
  once_front y ys o m = let e : 0 ≡ suc m.0 = o 0 (suc m.0) y refl m.1 in omega arith

  once_at : (y : A) (ys : List A) → ¬ Has ys y → IsEachOnce ys → (i j : ℕ) (x : A)
      → slice_get (y ∷ ys) i ≡ Some x → slice_get (y ∷ ys) j ≡ Some x → i ≡ j
  once_at y ys n o zero zero x a b = refl
  once_at y ys n o zero (suc j) x a b = absurd (n (j, b ∙ ap Some (sym (some-inj y x a))))
  once_at y ys n o (suc i) zero x a b = absurd (n (i, a ∙ ap Some (sym (some-inj y x b))))
  once_at y ys n o (suc i) (suc j) x a b = ap suc (o i j x a b)

  -- one more, which isn't there
  pub once_cons : (y : A) (ys : List A) → ¬ Has ys y → IsEachOnce ys → IsEachOnce (y ∷ ys)
  once_cons y ys n o = once_at y ys n o

  pub once_nil : IsEachOnce {A = A} []
  once_nil i j x a b = absurd (none_at x a)

  -- two lists with no common member
  pub once_append : (xs ys : List A) → IsEachOnce xs → IsEachOnce ys
      → ((x : A) → Has xs x → ¬ Has ys x) → IsEachOnce (xs ++ ys)
  once_append [] ys o p n = p
  once_append (y ∷ xs) ys o p n = once_cons y (xs ++ ys)
      (λ m. elim (has_either xs ys y m)
      [ inl a ↦ once_front y xs o a | inr b ↦ n y (has_first y xs) b ])
      (once_append xs ys (once_tail y xs o) p (λ x m. n x (has_rest y xs x m)))

  -- what stands in both parts of a list without repeats
  pub once_apart : (xs ys : List A) → IsEachOnce (xs ++ ys) → (x : A) → Has xs x → ¬ Has ys x
  once_apart [] ys o x m n = no_member x m
  once_apart (y ∷ xs) ys o x m n = elim (has_cases y xs x m) [
    | inl e ↦ once_front y (xs ++ ys) o (subst (Has (xs ++ ys)) e (has_right xs ys x n))
    | inr r ↦ once_apart xs ys (once_tail y (xs ++ ys) o) x r n
  ]
