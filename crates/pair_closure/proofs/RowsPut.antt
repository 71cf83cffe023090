-- Rows, read through what holds them, and one more member in a row.
use Rattle.std.specs.Prelude.{◌≡◌, ◌≢◌, ◌⊎◌, ◌<◌, ◌≤◌, ℕ, Bool, true, false, if◌then◌else◌, List}
use Rattle.std.specs.Prelude.{[], ◌∷◌, ◌++◌, Some, None, Option, map, slice_get, slice_set, length}
use Rattle.std.specs.Prelude.{refl}
use Rattle.std.specs.Option.{option_map}
use Rattle.std.proofs.Common.{inl, inr, arith, ap, sym, ◌∙◌, length-set}
use Rattle.std.proofs.lemmas.Option.{slice_get_within, slice_get-map}
use Rattle.std.proofs.lemmas.List.{length-map, append-nil}
use Rattle.fx_model.specs.declared.ExprId.{ExprId}
use Rattle.pair_closure.specs.Reached.{Has}
use Rattle.pair_closure.proofs.Members.{some-inj, none_at, no_member, has_first, has_cases}
use Rattle.pair_closure.proofs.Members.{has_either}
use Rattle.pair_closure.proofs.Ids.{id_of, self_same, not_same}
use Rattle.pair_closure.proofs.Put.{same_or_not, set_same, other_back}
use Rattle.pair_closure.specs.Closure.{Pair, is_same}
use Rattle.pair_closure.specs.Rows.{seconds, IsIndexed}
use Rattle.pair_closure.proofs.RowLaws.{seconds_out}

-- ---- second sides
step : (c : Bool) (y : ExprId) (l r t : List ExprId) → l ≡ r ++ t
    → (if c then (y ∷ l) else l) ≡ (if c then (y ∷ r) else r) ++ t
step true y l r t e = ap (λ m. y ∷ m) e
step false y l r t e = e

seconds_more : (ps : List Pair) (a b x : ExprId)
    → seconds (ps ++ (a, b) ∷ []) x ≡ seconds ps x ++ (if is_same a x then (b ∷ []) else [])
seconds_more [] a b x = refl
seconds_more (p ∷ ps) a b x = step (is_same p.0 x) p.1 (seconds (ps ++ (a, b) ∷ []) x)
    (seconds ps x) (if is_same a x then (b ∷ []) else []) (seconds_more ps a b x)

nothing : {A : Type 0} (xs : List A) → ((x : A) → ¬ Has xs x) → [] ≡ xs
nothing [] n = refl
nothing (x ∷ xs) n = absurd (n x (has_first x xs))

-- ---- rows
module _ {V : Type 0} (f : V → List ExprId) where
  row_by : (o : Option V) (row : List ExprId) → option_map f o ≡ Some row
      → (v : V) × (o ≡ Some v) × (f v ≡ row)
  row_by None row e = absurd (none_at row e)
  row_by (Some v) row e = (v, refl, some-inj (f v) row e)

  row_held : (rows : List V) (k : ℕ) (row : List ExprId) → slice_get (map f rows) k ≡ Some row
      → (v : V) × (slice_get rows k ≡ Some v) × (f v ≡ row)
  row_held rows k row e = row_by (slice_get rows k) row (sym (slice_get-map f rows k) ∙ e)

  held_row : (rows : List V) (k : ℕ) (v : V) → slice_get rows k ≡ Some v
      → slice_get (map f rows) k ≡ Some (f v)
  held_row rows k v e = slice_get-map f rows k ∙ ap (option_map f) e

  module _ (rows : List V) (pairs : List Pair)
      (a b : ExprId) (v w : V) (at : slice_get rows a.0 ≡ Some v) (is : f w ≡ f v ++ b ∷ [])
      (k : IsIndexed pairs (map f rows)) where
    -- the row that is put into, and the others
    row_after : (x : ExprId) (u : V) → slice_get (slice_set rows a.0 w) x.0 ≡ Some u
        → (x.0 ≡ a.0) ⊎ (x.0 ≢ a.0) → f u ≡ seconds (pairs ++ (a, b) ∷ []) x
    row_after x u e (inl s) =
        let held : u ≡ w = some-inj u w (sym e ∙ ap (slice_get (slice_set rows a.0 w)) s
        ∙ set_same rows a.0 w (slice_get_within rows a.0 v at)) in
        let more = seconds_more pairs a b a
        ∙ ap (λ (c : Bool). seconds pairs a ++ (if c then (b ∷ []) else [])) (self_same a) in
        ap f held ∙ is ∙ ap (λ l. l ++ b ∷ []) (k.each a (f v) (held_row rows a.0 v at)) ∙ sym more
        ∙ ap (seconds (pairs ++ (a, b) ∷ [])) (sym (id_of x a s))
    row_after x u e (inr d) =
        let other = not_same a x (λ s. d (ap (λ (z : ExprId). z.0) (sym s))) (is_same a x) refl in
        let more = seconds_more pairs a b x ∙ ap (λ (c : Bool). seconds pairs x
        ++ (if c then (b ∷ []) else [])) other ∙ append-nil (seconds pairs x) in
        k.each x (f u) (held_row rows x.0 u (other_back rows a.0 x.0 w u d e)) ∙ sym more

    below : (p : Pair) → Has pairs p ⊎ Has ((a, b) ∷ []) p
        → (p.0).0 < length (map f (slice_set rows a.0 w))
    below p (inl h) = let l = k.all p h in
        omega (arith, length-map rows f, length-map (slice_set rows a.0 w) f, length-set rows a.0 w)
    below p (inr h) = elim (has_cases (a, b) [] p h) [
      | inl e ↦
          let s : (p.0).0 ≡ a.0 = ap (λ (q : Pair). (q.0).0) e in
          let l = slice_get_within rows a.0 v at in
          omega (arith, length-map (slice_set rows a.0 w) f, length-set rows a.0 w)
      | inr n ↦ absurd (no_member p n)
    ]

    pub put_row : IsIndexed (pairs ++ (a, b) ∷ []) (map f (slice_set rows a.0 w))
    put_row = record {
      each = λ x row h. (let g = row_held (slice_set rows a.0 w) x.0 row h in
          sym g.2 ∙ row_after x g.0 g.1 (same_or_not x.0 a.0));
      all = λ p h. below p (has_either pairs ((a, b) ∷ []) p h);
    }

  -- rows that hold nothing
  pub blank_indexed : (rows : List V) → ((k : ℕ) (v : V) → slice_get rows k ≡ Some v → f v ≡ [])
      → IsIndexed [] (map f rows)
  blank_indexed rows e = record {
    each = λ a row h. (let g = row_held rows a.0 row h in sym g.2 ∙ e a.0 g.0 g.1);
    all = λ p h. absurd (no_member p h);
  }

  -- ---- what is read
  module _ (pairs : List Pair) (rows : List V) (a : ExprId) (k : IsIndexed pairs (map f rows)) where
    pub beside_row : (v : V) → slice_get rows a.0 ≡ Some v → f v ≡ seconds pairs a
    beside_row v at = k.each a (f v) (held_row rows a.0 v at)

    pub beside_none : length rows ≤ a.0 → [] ≡ seconds pairs a
    beside_none l =
        nothing (seconds pairs a) (λ b h. (let w = k.all (a, b) (seconds_out pairs a b h) in
        absurd (omega (arith, length-map rows f))))
