-- A list that rises is the only one with its members.
use Rattle.std.specs.Prelude.{◌≡◌, ◌<◌, ℕ, suc, List, [], ◌∷◌, Some, slice_get, refl}
use Rattle.std.proofs.Common.{inl, inr, arith, ap, sym, subst}
use Rattle.pair_closure.specs.Reached.{Has}
use Rattle.pair_closure.proofs.Members.{has_first, has_rest, has_cases, no_member}

module _ {A : Type 0} (rank : A → ℕ) where
  -- Each stands before those of higher rank.
  abbrev pub Rises : List A → Type 0
  Rises xs = (i j : ℕ) (x y : A) → slice_get xs i ≡ Some x → slice_get xs j ≡ Some y
      → i < j → rank x < rank y

  abbrev Later : A → List A → Type 0
  Later x xs = (y : A) → Has xs y → rank x < rank y

  later_of : (x : A) (xs : List A) → Rises (x ∷ xs) → Later x xs
  later_of x xs a y h = a 0 (suc h.0) x y refl h.1 (omega arith)

  rest_of : (x : A) (xs : List A) → Rises (x ∷ xs) → Rises xs
  rest_of x xs a i j y z p q l = a (suc i) (suc j) y z p q (omega (arith, l))

  heads : (x y : A) (xs ys : List A) → Later x xs → Later y ys → Has (y ∷ ys) x
      → Has (x ∷ xs) y → x ≡ y
  heads x y xs ys a b h k = elim (has_cases y ys x h) [
    | inl e ↦ e
    | inr m ↦ elim (has_cases x xs y k) [
      | inl e ↦ sym e
      | inr n ↦ (let u : rank x < rank y = a y n in
          let v : rank y < rank x = b x m in absurd (omega arith))
    ]
  ]

  drop_head : (x : A) (xs ys : List A) → Later x xs → (p : A) → Has xs p → Has (x ∷ ys) p → Has ys p
  drop_head x xs ys a p h m = elim (has_cases x ys p m) [
    | inl e ↦ (let u : rank x < rank p = a p h in
        let v : rank p ≡ rank x = ap rank e in absurd (omega arith))
    | inr r ↦ r
  ]

  pub one_list : (xs ys : List A) → Rises xs → Rises ys → ((p : A) → Has xs p → Has ys p)
      → ((p : A) → Has ys p → Has xs p) → xs ≡ ys
  one_list [] [] a b f g = refl
  one_list [] (y ∷ ys) a b f g = absurd (no_member y (g y (has_first y ys)))
  one_list (x ∷ xs) [] a b f g = absurd (no_member x (f x (has_first x xs)))
  one_list (x ∷ xs) (y ∷ ys) a b f g =
      let e : x ≡ y = heads x y xs ys (later_of x xs a) (later_of y ys b) (f x (has_first x xs))
      (g y (has_first y ys)) in
      let later : Later x ys = subst (λ z. Later z ys) (sym e) (later_of y ys b) in
      let t : xs ≡ ys = one_list xs ys (rest_of x xs a) (rest_of y ys b)
      (λ p h. drop_head x xs ys (later_of x xs a) p h
      (subst (λ z. Has (z ∷ ys) p) (sym e) (f p (has_rest x xs p h))))
      (λ p h. drop_head x ys xs later p h (g p (has_rest y ys p h))) in
      (λ i. e i ∷ t i)
