-- Rows that stand one behind another: one more row, and the row with a number.
use Rattle.std.specs.Prelude.{◌≡◌, ◌<◌, ◌≤◌, ◌+◌, ◌-◌, ℕ, zero, suc, List, [], ◌∷◌, ◌++◌, Some}
use Rattle.std.specs.Prelude.{length, take, drop, slice_get, refl}
use Rattle.std.proofs.Common.{inl, inr, arith, ap, sym, ◌∙◌, length-append, get_or}
use Rattle.std.proofs.lemmas.List.{take-append-le, drop-append-le, take_all, length-drop}
use Rattle.std.proofs.Math.Seq.{drop-append_seam}
use Rattle.std.proofs.lemmas.Option.{slice_get_within, slice_get-get_or}
use Rattle.pair_closure.proofs.Members.{some-inj, none_at, ends_with, last_at}
use Rattle.rule_universe.specs.Flat.{cut_from, rows_in, IsFlat}

-- The numbers are those of a list of rows with n elements: the last of them is n.
pub record IsFull (n : ℕ) (starts : List ℕ) : Type 0 where
  pub flat : IsFlat n starts
  pub last : slice_get starts (length starts - 1) ≡ Some n

pub full_none : IsFull 0 (0 ∷ [])
full_none = record {
  flat = record {
    some = omega arith;
    rising =
        λ k a b e f. absurd (let h = slice_get_within (0 ∷ []) (suc k) b f in omega (arith, h));
    most = one_most;
  };
  last = refl;
}
  where
    one_most : (k a : ℕ) → slice_get (0 ∷ []) k ≡ Some a → a ≤ 0
    one_most zero a e = let h : 0 ≡ a = some-inj 0 a e in omega arith
    one_most (suc k) a e = absurd (none_at a e)

pub full_more : (n m : ℕ) (starts : List ℕ) → IsFull n starts → n ≤ m → IsFull m (starts ++ m ∷ [])
full_more n m starts full l = record {
  flat = record {
    some = omega (arith, length-append starts (m ∷ []));
    rising = λ k a b e f.
        elim (ends_with starts m (suc k) b f) [
          | inl g ↦
              elim (ends_with starts m k a e) [
                | inl h ↦ full.flat.rising k a b h g
                | inr h ↦ absurd (let w = slice_get_within starts (suc k) b g in
                    let q : k ≡ length starts = h.0 in omega (arith, w, q))
              ]
          | inr g ↦
              let same : b ≡ m = g.1 in
              elim (ends_with starts m k a e) [
                | inl h ↦ (let w = full.flat.most k a h in omega (arith, w, same))
                | inr h ↦ absurd (let q : k ≡ length starts = h.0 in
                    let r : suc k ≡ length starts = g.0 in omega (arith, q, r))
              ]
        ];
    most = λ k a e.
        elim (ends_with starts m k a e) [
          | inl h ↦ (let w = full.flat.most k a h in omega (arith, w))
          | inr h ↦ (let q : a ≡ m = h.1 in omega (arith, q))
        ];
  };
  last =
      (let e : length (starts ++ m ∷ []) - 1 ≡ length starts =
      omega (arith, length-append starts (m ∷ [])) in
      ap (slice_get (starts ++ m ∷ [])) e ∙ last_at starts m);
}

module _ {T : Type 0} where
  -- ---- one row more
  cut_more : (items row : List T) (start : ℕ) (ends : List ℕ) (n : ℕ)
      → n ≡ length items + length row
      → ((k a : ℕ) → slice_get (start ∷ ends) k ≡ Some a → a ≤ length items)
      → slice_get (start ∷ ends) (length ends) ≡ Some (length items)
      → cut_from (items ++ row) start (ends ++ n ∷ []) ≡ cut_from items start ends ++ row ∷ []
  cut_more items row start [] n e most last =
      let s : start ≡ length items = some-inj start (length items) last in
      let d : drop start (items ++ row) ≡ row =
      ap (λ k. drop k (items ++ row)) s ∙ drop-append_seam items row in
      ap (λ l. l ∷ []) (ap (take (n - start)) d ∙ take_all (n - start) row (omega (arith, e, s)))
  cut_more items row start (end ∷ ends) n e most last =
      let low : start ≤ length items = most zero start refl in
      let high : end ≤ length items = most (suc zero) end refl in
      let d : drop start (items ++ row) ≡ drop start items ++ row =
      drop-append-le start items row low in
      let t : take (end - start) (drop start (items ++ row))
      ≡ take (end - start) (drop start items) =
      ap (take (end - start)) d ∙ take-append-le (end - start)
      (drop start items) row (omega (arith, low, high, length-drop start items)) in
      ap (λ l. l ∷ cut_from (items ++ row) end (ends ++ n ∷ [])) t
      ∙ ap (λ ls. take (end - start) (drop start items) ∷ ls)
      (cut_more items row end ends n e (λ k a h. most (suc k) a h) last)

  pub rows_more : (items row : List T) (starts : List ℕ) (n : ℕ) → n ≡ length items + length row
      → IsFull (length items) starts
      → rows_in (items ++ row) (starts ++ n ∷ []) ≡ rows_in items starts ++ row ∷ []
  rows_more items row [] n e full = absurd (let h = full.flat.some in omega (arith, h))
  rows_more items row (start ∷ ends) n e full =
      let l : length (start ∷ ends) - 1 ≡ length ends = omega arith in
      cut_more items row start ends n e full.flat.most
      (ap (slice_get (start ∷ ends)) (sym l) ∙ full.last)

  -- ---- the row with a number
  cut_count : (items : List T) (start : ℕ) (ends : List ℕ)
      → length (cut_from items start ends) ≡ length ends
  cut_count items start [] = refl
  cut_count items start (end ∷ ends) = ap suc (cut_count items end ends)

  pub rows_count : (items : List T) (starts : List ℕ) → 0 < length starts
      → length (rows_in items starts) + 1 ≡ length starts
  rows_count items [] h = absurd (omega arith)
  rows_count items (start ∷ ends) h = let e = cut_count items start ends in omega (arith, e)

  cut_row : (items : List T) (start : ℕ) (ends : List ℕ) (k a b : ℕ)
      → slice_get (start ∷ ends) k ≡ Some a → slice_get (start ∷ ends) (suc k) ≡ Some b
      → slice_get (cut_from items start ends) k ≡ Some (take (b - a) (drop a items))
  cut_row items start [] k a b e f = absurd (none_behind k f)
    where
      none_behind : (k : ℕ) → slice_get (start ∷ []) (suc k) ≡ Some b → ⊥
      none_behind k f = none_at b f
  cut_row items start (end ∷ ends) zero a b e f =
      let s : start ≡ a = some-inj start a e in
      let t : end ≡ b = some-inj end b f in
      ap (λ n. Some (take (n - start) (drop start items))) t
      ∙ ap (λ n. Some (take (b - n) (drop n items))) s
  cut_row items start (end ∷ ends) (suc k) a b e f = cut_row items end ends k a b e f

  pub row_at : (items : List T) (starts : List ℕ) (k a b : ℕ)
      → slice_get starts k ≡ Some a → slice_get starts (suc k) ≡ Some b
      → slice_get (rows_in items starts) k ≡ Some (take (b - a) (drop a items))
  row_at items [] k a b e f = absurd (none_at a e)
  row_at items (start ∷ ends) k a b e f = cut_row items start ends k a b e f

-- ---- an element that was read
pub read_at : {X : Type 0} (xs : List X) (k : ℕ) (x d : X) → k < length xs → x ≡ get_or xs k d
    → slice_get xs k ≡ Some x
read_at xs k x d l e = slice_get-get_or xs k d l ∙ ap Some (sym e)
