-- One more number behind a rising row.
use Rattle.std.specs.Prelude.{◌≡◌, ◌≢◌, ◌⊎◌, ◌↔◌, ◌<◌, ◌≤◌, ◌-◌, ℕ, List, [], ◌∷◌, ◌++◌, Some}
use Rattle.std.specs.Prelude.{slice_get, length}
use Rattle.std.proofs.Common.{inl, inr, arith, ap, sym, ◌∙◌, get_or}
use Rattle.std.proofs.lemmas.Option.{slice_get_within, slice_get-get_or}
use Rattle.std.proofs.lemmas.Bool.{cases_lt}
use Rattle.pair_closure.specs.Reached.{Has}
use Rattle.pair_closure.proofs.Members.{before_last, last_at, ends_with}
use Rattle.rule_universe.specs.Rows.{AreUpTo}

-- all are below k where the last one isn't k
below : (row : List ℕ) (k : ℕ) → AreUpTo k row → slice_get row (length row - 1) ≢ Some k → (i a : ℕ)
    → slice_get row i ≡ Some a → a < k
below row k up other i a e =
    let within = slice_get_within row i a e in
    let last : slice_get row (length row - 1) ≡ Some (get_or row (length row - 1) k) =
    slice_get-get_or row (length row - 1) k (omega (arith, within)) in
    let high : get_or row (length row - 1) k ≤ k =
    up.most (get_or row (length row - 1) k) (length row - 1, last) in
    let most : a ≤ k = up.most a (i, e) in
    elim (cases_lt i (length row - 1)) [
      | inl l ↦ let less : a < get_or row (length row - 1) k =
          up.rising i (length row - 1) a (get_or row (length row - 1) k) l e last in
          (omega (arith, less, high))
      | inr l ↦
          elim (cases_lt a k) [
            | inl m ↦ m
            | inr m ↦
                let same : i ≡ length row - 1 = omega (arith, within, l) in
                let full : a ≡ k = omega (arith, most, m) in
                absurd (other (ap (slice_get row) (sym same) ∙ e ∙ ap Some full))
          ]
    ]

pub pushed_up_to : (row : List ℕ) (k : ℕ) → AreUpTo k row → slice_get row (length row - 1) ≢ Some k
    → AreUpTo k (row ++ k ∷ [])
pushed_up_to row k up other = record {
  rising = λ i j a b l e f.
      elim (ends_with row k i a e) [
        | inl g ↦
            elim (ends_with row k j b f) [
              | inl h ↦ up.rising i j a b l g h
              | inr h ↦ let less = below row k up other i a g in let q : b ≡ k = h.1 in
                  (omega (arith, less, q))
            ]
        | inr g ↦
            elim (ends_with row k j b f) [
              | inl h ↦ let w = slice_get_within row j b h in let q : i ≡ length row = g.0 in
                  absurd (omega (arith, w, q, l))
              | inr h ↦ let q : i ≡ length row = g.0 in let r : j ≡ length row = h.0 in
                  absurd (omega (arith, q, r, l))
            ]
      ];
  most = λ j h. elim (ends_with row k h.0 j h.1)
      [ inl g ↦ up.most j (h.0, g) | inr g ↦ let q : j ≡ k = g.1 in (omega (arith, q)) ];
}

pub pushed_has : (row : List ℕ) (k j : ℕ) → Has (row ++ k ∷ []) j ↔ (Has row j ⊎ (j ≡ k))
pushed_has row k j = (
  λ h. elim (ends_with row k h.0 j h.1) [ inl g ↦ inl (h.0, g) | inr g ↦ inr g.1 ],
  λ h. elim h [
    | inl g ↦ (g.0, before_last row k g.0 j g.1)
    | inr e ↦ (length row, last_at row k ∙ ap Some (sym e))
  ],
)

pub last_has : (row : List ℕ) (k j : ℕ) → slice_get row (length row - 1) ≡ Some k
    → Has row j ↔ (Has row j ⊎ (j ≡ k))
last_has row k j at =
    (λ h. inl h, λ h. elim h [ inl g ↦ g | inr e ↦ (length row - 1, at ∙ ap Some (sym e)) ])
