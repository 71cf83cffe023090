-- Places of a list to which an element comes, or in which one is replaced.
use Rattle.std.specs.Prelude.{◌≡◌, ◌⊎◌, ℕ, suc, zero, ◌<◌, ◌≤◌, List, [], ◌∷◌, ◌++◌, length}
use Rattle.std.specs.Prelude.{slice_get, Option, Some, None, refl}
use Rattle.std.specs.List.{AllByRecursion}
use Rattle.std.proofs.Common.{sym, ap, ◌∙◌, subst, inl, inr, arith}
use Rattle.std.proofs.Math.ListN.{set}
use Rattle.std.proofs.lemmas.Option.{none-some, same_Some, slice_get_within}
use Rattle.script_nodes.specs.Known.{Name}
use Rattle.point_text.specs.Taken.{IsFirst}

-- what stands in a list with one more
pub push_cases : {A : Type 0} (xs : List A) (y : A) (k : ℕ) (x : A) → slice_get (xs ++ (y ∷ [])) k
    ≡ Some x → (slice_get xs k ≡ Some x) ⊎ ((k ≡ length xs) × (y ≡ x))
push_cases [] y zero x h = inr (refl, same_Some _ _ h)
push_cases [] y (suc k) x h = absurd (none-some _ h)
push_cases (z ∷ xs) y zero x h = inl h
push_cases (z ∷ xs) y (suc k) x h =
    elim (push_cases xs y k x h) [ inl a ↦ inl a | inr b ↦ inr (ap (λ n. suc n) b.0, b.1) ]

pub push_old : {A : Type 0} (xs : List A) (y : A) (k : ℕ) (x : A) → slice_get xs k ≡ Some x
    → slice_get (xs ++ (y ∷ [])) k ≡ Some x
push_old [] y k x h = absurd (none-some _ h)
push_old (z ∷ xs) y zero x h = h
push_old (z ∷ xs) y (suc k) x h = push_old xs y k x h

pub push_last : {A : Type 0} (xs : List A) (y : A) → slice_get (xs ++ (y ∷ [])) (length xs) ≡ Some y
push_last [] y = refl
push_last (z ∷ xs) y = push_last xs y

pub set_here : {A : Type 0} (xs : List A) (i : ℕ) (x y : A) → slice_get xs i ≡ Some x
    → slice_get (set xs i y) i ≡ Some y
set_here [] i x y h = absurd (none-some _ h)
set_here (z ∷ xs) zero x y h = refl
set_here (z ∷ xs) (suc i) x y h = set_here xs i x y h

abbrev IsSet : {A : Type 0} → Option (Option A) → Type 0
IsSet None = ⊥
IsSet (Some None) = ⊥
IsSet (Some (Some a)) = Unit {0}

pub unset_or_set : {A : Type 0} (o : Option (Option A)) (a : A) → o ≡ Some None → o ≡ Some (Some a)
    → ⊥
unset_or_set o a n e = subst IsSet (sym e ∙ n) tt

-- a row that is set stays, where one that isn't is replaced
pub set_keeps : {A : Type 0} (xs : List (Option A)) (i j : ℕ) (y : Option A) (a : A)
    → slice_get xs i ≡ Some None → slice_get xs j ≡ Some (Some a) → slice_get (set xs i y) j
    ≡ Some (Some a)
set_keeps [] i j y a h e = absurd (none-some _ h)
set_keeps (z ∷ xs) zero zero y a h e = absurd (unset_or_set (Some z) a h e)
set_keeps (z ∷ xs) zero (suc j) y a h e = e
set_keeps (z ∷ xs) (suc i) zero y a h e = e
set_keeps (z ∷ xs) (suc i) (suc j) y a h e = set_keeps xs i j y a h e

pub set_cases : {A : Type 0} (xs : List A) (i j : ℕ) (y x : A) → slice_get (set xs i y) j ≡ Some x
    → ((j ≡ i) × (y ≡ x)) ⊎ (slice_get xs j ≡ Some x)
set_cases [] i j y x h = inr h
set_cases (z ∷ xs) zero zero y x h = inl (refl, same_Some _ _ h)
set_cases (z ∷ xs) zero (suc j) y x h = inr h
set_cases (z ∷ xs) (suc i) zero y x h = inr h
set_cases (z ∷ xs) (suc i) (suc j) y x h =
    elim (set_cases xs i j y x h) [ inl a ↦ inl (ap (λ n. suc n) a.0, a.1) | inr b ↦ inr b ]

order : (i j : ℕ) → (i < j) ⊎ ((i ≡ j) ⊎ (j < i))
order zero zero = inr (inl refl)
order zero (suc j) = inl (omega arith)
order (suc i) zero = inr (inr (omega arith))
order (suc i) (suc j) =
    elim (order i j) [
      | inl a ↦ inl (omega arith)
      | inr b ↦
          elim b [ inl e ↦ inr (inl (ap (λ n. suc n) e)) | inr c ↦ inr (inr (omega arith)) ]
    ]

-- a name has one first place
pub first_once : (variables : List Name) (v w : Name) (i j : ℕ) → v ≡ w → IsFirst variables v i
    → IsFirst variables w j → i ≡ j
first_once variables v w i j e a b = elim (order i j) [
  | inl l ↦ absurd (b.before i l (a.there ∙ ap (λ u. Some u) e))
  | inr m ↦
      elim m [ inl s ↦ s | inr l ↦ absurd (a.before j l (b.there ∙ ap (λ u. Some u) (sym e))) ]
]

pub all_set : {A : Type 0} (P : A → Type 0) (xs : List A) (i : ℕ) (y : A) → AllByRecursion P xs
    → P y → AllByRecursion P (set xs i y)
all_set P [] i y h p = h
all_set P (x ∷ xs) zero y h p = (p, h.1)
all_set P (x ∷ xs) (suc i) y h p = (h.0, all_set P xs i y h.1 p)

none_past : {A : Type 0} (xs : List A) (n k : ℕ) (x : A) → slice_get xs n ≡ None → n ≤ k
    → slice_get xs k ≡ Some x → ⊥
none_past [] n k x h l e = none-some _ e
none_past (y ∷ xs) zero k x h l e = none-some _ (sym h)
none_past (y ∷ xs) (suc n) zero x h l e = omega arith
none_past (y ∷ xs) (suc n) (suc k) x h l e = none_past xs n k x h (omega arith) e

-- a name that stands at no place before the end
pub past_last : (variables : List Name) (v : Name) (n : ℕ) → slice_get variables n ≡ None
    → ((j : ℕ) → j < n → ¬ (slice_get variables j ≡ Some v)) → (k : ℕ)
    → ¬ (slice_get variables k ≡ Some v)
past_last variables v n h before k e = elim (order k n) [
  | inl l ↦ before k l e
  | inr m ↦ none_past variables n k v h (elim m [ inl s ↦ omega arith | inr l ↦ omega arith ]) e
]

pub all_past : (variables : List Name) (v : Name) (n : ℕ) → n ≡ length variables
    → ((j : ℕ) → j < n → ¬ (slice_get variables j ≡ Some v)) → (k : ℕ)
    → ¬ (slice_get variables k ≡ Some v)
all_past variables v n h before k e = let l = slice_get_within variables k v e in
    before k (omega arith) e

-- no name stands at two places
abbrev pub AreDistinct : List Name → Type 0
AreDistinct names = (i j : ℕ) (v : Name)
    → slice_get names i ≡ Some v → slice_get names j ≡ Some v → i ≡ j
