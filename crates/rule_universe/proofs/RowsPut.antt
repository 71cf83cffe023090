-- Rows, read through what holds them, and one more number in one of them.
use Rattle.std.specs.Prelude.{◌≡◌, ◌≢◌, ◌⊎◌, ◌↔◌, ◌<◌, ℕ, List, Some, None, Option, map, slice_get}
use Rattle.std.specs.Prelude.{slice_set, length, refl}
use Rattle.std.specs.Option.{option_map}
use Rattle.std.proofs.Common.{inl, inr, arith, ap, sym, ◌∙◌, subst, length-set, get_or-set_other}
use Rattle.std.proofs.lemmas.Option.{slice_get_within, slice_get-get_or, get_or_from_slice_get}
use Rattle.std.proofs.lemmas.Option.{slice_get-map}
use Rattle.pair_closure.specs.Reached.{Has}
use Rattle.pair_closure.proofs.Members.{some-inj, none_at}
use Rattle.pair_closure.proofs.Put.{same_or_not, set_same, other_back}
use Rattle.rule_universe.specs.Rows.{InRow, AreUpTo, RowsUpTo, IsAdded}

module _ {V : Type 0} (f : V → List ℕ) where
  -- what holds a row that stands there
  pub held_row : (rows : List V) (p : ℕ) (v : V) → slice_get rows p ≡ Some v
      → slice_get (map f rows) p ≡ Some (f v)
  held_row rows p v e = slice_get-map f rows p ∙ ap (option_map f) e

  by_held : (o : Option V) (row : List ℕ) → option_map f o ≡ Some row
      → (v : V) × (o ≡ Some v) × (f v ≡ row)
  by_held None row e = absurd (none_at row e)
  by_held (Some v) row e = (v, refl, some-inj (f v) row e)

  pub row_held : (rows : List V) (p : ℕ) (row : List ℕ) → slice_get (map f rows) p ≡ Some row
      → (v : V) × (slice_get rows p ≡ Some v) × (f v ≡ row)
  row_held rows p row e = by_held (slice_get rows p) row (sym (slice_get-map f rows p) ∙ e)

  set_other : (rows : List V) (i j : ℕ) (w v : V) → j ≢ i → slice_get rows j ≡ Some v
      → slice_get (slice_set rows i w) j ≡ Some v
  set_other rows i j w v ne e =
      let l = slice_get_within rows j v e in
      slice_get-get_or (slice_set rows i w) j v (omega (arith, length-set rows i w))
      ∙ ap Some (get_or-set_other rows i j w v ne ∙ get_or_from_slice_get rows j v v e)

  module _ (rows : List V) (p k : ℕ) (v w : V) (at : slice_get rows p ≡ Some v) where
    within : p < length rows
    within = slice_get_within rows p v at

    -- the row of q afterwards
    new_row : (q : ℕ) (row : List ℕ) → slice_get (map f (slice_set rows p w)) q ≡ Some row
        → ((q ≡ p) × (f w ≡ row)) ⊎ ((q ≢ p) × (slice_get (map f rows) q ≡ Some row))
    new_row q row e =
        let h = row_held (slice_set rows p w) q row e in
        elim (same_or_not q p) [
          | inl s ↦ inl (
            s,
            ap f (some-inj w h.0 (sym (set_same rows p w within)
                ∙ ap (slice_get (slice_set rows p w)) (sym s) ∙ h.1)) ∙ h.2,
          )
          | inr d ↦ inr (d, held_row rows q h.0 (other_back rows p q w h.0 d h.1) ∙ ap Some h.2)
        ]

    there : (q : ℕ) → q ≡ p → slice_get (map f (slice_set rows p w)) q ≡ Some (f w)
    there q s = held_row (slice_set rows p w) q w (ap (slice_get (slice_set rows p w)) s
        ∙ set_same rows p w within)

    module _ (is : (j : ℕ) → Has (f w) j ↔ (Has (f v) j ⊎ (j ≡ k))) where
      to : (q j : ℕ) → InRow (map f (slice_set rows p w)) q j
          → InRow (map f rows) q j ⊎ ((j ≡ k) × (q ≡ p))
      to q j h =
          elim (new_row q h.0 h.1) [
            | inl s ↦
                elim ((is j).0 (subst (λ r. Has r j) (sym s.1) h.2)) [
                  | inl m ↦ inl (f v, held_row rows q v (ap (slice_get rows) s.0 ∙ at), m)
                  | inr e ↦ inr (e, s.0)
                ]
            | inr d ↦ inl (h.0, d.1, h.2)
          ]

      kept : (q j : ℕ) → InRow (map f rows) q j → (q ≡ p) ⊎ (q ≢ p)
          → InRow (map f (slice_set rows p w)) q j
      kept q j h (inl s) =
          let g = row_held rows q h.0 h.1 in
          let e : g.0 ≡ v = some-inj g.0 v (sym g.1 ∙ ap (slice_get rows) s ∙ at) in
          (f w, there q s, (is j).1 (inl (subst (λ r. Has r j) (sym g.2 ∙ ap f e) h.2)))
      kept q j h (inr d) =
          let g = row_held rows q h.0 h.1 in (
            h.0,
            held_row (slice_set rows p w) q g.0 (set_other rows p q w g.0 d g.1) ∙ ap Some g.2,
            h.2,
          )

      pub put_row : IsAdded (map f rows) (map f (slice_set rows p w)) k (λ q. q ≡ p)
      put_row q j = (
        to q j,
        λ h. elim h [
          | inl g ↦ kept q j g (same_or_not q p)
          | inr g ↦ (f w, there q g.1, (is j).1 (inr g.0))
        ],
      )

    pub put_up_to : RowsUpTo k (map f rows) → AreUpTo k (f w)
        → RowsUpTo k (map f (slice_set rows p w))
    put_up_to up here q row e =
        elim (new_row q row e) [ inl s ↦ subst (AreUpTo k) s.1 here | inr d ↦ up q row d.1 ]
