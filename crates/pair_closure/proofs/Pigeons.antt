-- A list that has none twice, and whose members all stand in another, is no longer than that.
use Rattle.std.specs.Prelude.{◌≡◌, ◌≢◌, ◌<◌, ◌≤◌, ◌||◌, ℕ, suc, Bool, true, false, List, [], ◌∷◌}
use Rattle.std.specs.Prelude.{Some, slice_get, length, refl}
use Rattle.std.specs.List.{IsDistinct, AllByRecursion, list_any}
use Rattle.std.proofs.Common.{arith, ap, sym, ◌∙◌, eqb, eqb-true, true≢false}
use Rattle.std.proofs.lemmas.Option.{slice_get_within}
use Rattle.std.proofs.lemmas.Map.Steps.{length-le_from_distinct_below}
use Rattle.pair_closure.specs.Reached.{Has, IsEachOnce}
use Rattle.pair_closure.proofs.Members.{some-inj}

module _ {A : Type 0} (ys : List A) where
  abbrev AllIn : List A → Type 0
  AllIn xs = (x : A) → Has xs x → Has ys x

  rest_in : (x : A) (xs : List A) → AllIn (x ∷ xs) → AllIn xs
  rest_in x xs h y m = h y (suc m.0, m.1)

  abbrev places : (xs : List A) → AllIn xs → List ℕ
  places [] h = []
  places (x ∷ xs) h = (h x (0, refl)).0 ∷ places xs (rest_in x xs h)

  length-places : (xs : List A) (h : AllIn xs) → length (places xs h) ≡ length xs
  length-places [] h = refl
  length-places (x ∷ xs) h = ap suc (length-places xs (rest_in x xs h))

  not_equal : (p q : ℕ) → p ≢ q → (b : Bool) → eqb p q ≡ b → b ≡ false
  not_equal p q ne true e = absurd (ne (eqb-true p q e))
  not_equal p q ne false e = refl

  -- the place of x isn't that of a member of a list without x
  apart : (x : A) (p : ℕ) → slice_get ys p ≡ Some x → (xs : List A) (h : AllIn xs) → ¬ Has xs x
      → AllByRecursion (λ q. eqb p q ≡ false) (places xs h)
  apart x p at [] h none = tt
  apart x p at (y ∷ xs) h none =
      let there = h y (0, refl) in
      let other : p ≢ there.0 =
      (λ e. none (0, ap Some (some-inj y x (sym there.1 ∙ ap (slice_get ys) (sym e) ∙ at)))) in (
        not_equal p there.0 other (eqb p there.0) refl,
        apart x p at xs (rest_in y xs h) (λ m. none (suc m.0, m.1)),
      )

  tail_once : (x : A) (xs : List A) → IsEachOnce (x ∷ xs) → IsEachOnce xs
  tail_once x xs o i j y a b = let e : suc i ≡ suc j = o (suc i) (suc j) y a b in omega arith

  distinct : (xs : List A) (h : AllIn xs) → IsEachOnce xs → IsDistinct eqb (places xs h)
  unfolding IsDistinct
  distinct [] h o = tt
  distinct (x ∷ xs) h o = (
    apart x (h x (0, refl)).0 (h x (0, refl)).1 xs (rest_in x xs h)
        (λ m. (let e : 0 ≡ suc m.0 = o 0 (suc m.0) x refl m.1 in omega arith)),
    distinct xs (rest_in x xs h) (tail_once x xs o),
  )

  below_by : (p q : ℕ) (ps : List ℕ) → p < length ys → (list_any (eqb q) ps ≡ true → q < length ys)
      → (b : Bool) → eqb q p ≡ b → (b || list_any (eqb q) ps) ≡ true → q < length ys
  below_by p q ps w rest true s t = let u : q ≡ p = eqb-true q p s in omega arith
  below_by p q ps w rest false s t = rest t

  below : (xs : List A) (h : AllIn xs) (q : ℕ)
      → list_any (eqb q) (places xs h) ≡ true → q < length ys
  below [] h q e = absurd (true≢false (sym e))
  below (x ∷ xs) h q e =
      below_by (h x (0, refl)).0 q (places xs (rest_in x xs h))
      (slice_get_within ys (h x (0, refl)).0 x (h x (0, refl)).1)
      (below xs (rest_in x xs h) q) (eqb q (h x (0, refl)).0) refl e

  pub no_longer : (xs : List A) → IsEachOnce xs
      → ((x : A) → Has xs x → Has ys x) → length xs ≤ length ys
  no_longer xs o h =
      let l : length (places xs h) ≤ length ys =
      length-le_from_distinct_below (places xs h) (length ys) (distinct xs h o) (below xs h) in
      let e = length-places xs h in
      omega arith
