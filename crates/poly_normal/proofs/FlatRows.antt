-- Flat lists read as terms.
use Rattle.std.specs.Prelude.{◌≡◌, ℕ, ℤ, pos, ◌+◌, ◌*◌, ◌<◌, ◌≤◌, List, [], ◌∷◌, ◌++◌, take, drop}
use Rattle.std.specs.Prelude.{length, slice_index_or, refl}
use Rattle.std.proofs.Common.{arith, sym, ap, ◌∙◌, zero, suc, length-drop}
use Rattle.std.proofs.lemmas.List.{take-append-le, drop-append-le, drop-drop, take-append-drop}
use Rattle.std.proofs.Math.Seq.{take-length}
use Rattle.std.proofs.Math.Nat.{mul-le-mul_right}
use Rattle.poly_normal.specs.Rows.{rows, no_term}

pub length-rows : (w : ℕ) (cs : List ℤ) (ps : List ℕ) → length (rows w cs ps) ≡ length cs
length-rows w [] ps = refl
length-rows w (c ∷ cs) ps = ap suc (length-rows w cs (drop w ps))

pub coefficient-rows : (w : ℕ) (cs : List ℤ) (ps : List ℕ) (i : ℕ)
    → (slice_index_or (rows w cs ps) i no_term).coefficient ≡ slice_index_or cs i (pos 0)
coefficient-rows w [] ps i = refl
coefficient-rows w (c ∷ cs) ps zero = refl
coefficient-rows w (c ∷ cs) ps (suc i) = coefficient-rows w cs (drop w ps) i

pub monomial-rows : (w : ℕ) (cs : List ℤ) (ps : List ℕ) (i : ℕ) → i < length cs
    → (slice_index_or (rows w cs ps) i no_term).monomial ≡ take w (drop (i * w) ps)
monomial-rows w [] ps i h = absurd (omega arith)
monomial-rows w (c ∷ cs) ps zero h = let none : zero * w ≡ 0 = omega arith in
    ap (λ k. take w (drop k ps)) (sym none)
monomial-rows w (c ∷ cs) ps (suc i) h = let next : w + i * w ≡ suc i * w = omega arith in
    monomial-rows w cs (drop w ps) i (omega arith) ∙ ap (take w) (drop-drop (i * w) w ps)
    ∙ ap (λ k. take w (drop k ps)) next

pub rows-push : (w : ℕ) (cs : List ℤ) (ps : List ℕ) (c : ℤ) (row : List ℕ)
    → length ps ≡ length cs * w → length row ≡ w
    → rows w (cs ++ (c ∷ [])) (ps ++ row)
    ≡ rows w cs ps ++ (record { coefficient = c; monomial = row } ∷ [])
rows-push w [] [] c row e r = ap (λ m. record { coefficient = c; monomial = m } ∷ [])
    (ap (λ k. take k row) (sym r) ∙ take-length row)
rows-push w [] (p ∷ ps) c row e r = absurd (let z : 0 * w ≡ 0 = omega arith in omega arith)
rows-push w (b ∷ cs) ps c row e r =
    let rest : length (drop w ps) ≡ length cs * w = omega (arith, length-drop w ps) in
    let inside : w ≤ length ps = omega arith in
    ap (λ m. record { coefficient = b; monomial = m }
    ∷ rows w (cs ++ (c ∷ [])) (drop w (ps ++ row))) (take-append-le w ps row inside)
    ∙ ap (λ qs. record { coefficient = b; monomial = take w ps } ∷ rows w (cs ++ (c ∷ [])) qs)
    (drop-append-le w ps row inside)
    ∙ ap (λ q. record { coefficient = b; monomial = take w ps } ∷ q)
    (rows-push w cs (drop w ps) c row rest r)

-- row i lies within the powers
pub row_within : (i n w k l : ℕ) → i < n → k ≡ n → l ≡ k * w → i * w + w ≤ l
row_within i n w k l h e f = let whole : suc i * w ≤ n * w = mul-le-mul_right w h in
    let same : k * w ≡ n * w = ap (λ x. x * w) e in omega arith

pub same_length : (l k n m w : ℕ) → l ≡ m → l ≡ k * w → k ≡ n → m ≡ n * w
same_length l k n m w e f g = let same : k * w ≡ n * w = ap (λ x. x * w) g in omega arith

-- ---- equal rows are equal flat lists
empty_from_length : (ps : List ℕ) → length ps ≡ 0 → ps ≡ []
empty_from_length [] e = refl
empty_from_length (p ∷ ps) e = absurd (omega arith)

no_rows : (w : ℕ) (ps : List ℕ) → length ps ≡ 0 * w → ps ≡ []
no_rows w ps e = empty_from_length ps (let z : 0 * w ≡ 0 = omega arith in omega arith)

rest_length : (w k : ℕ) (ps : List ℕ) → length ps ≡ suc k * w → length (drop w ps) ≡ k * w
rest_length w k ps e = omega (arith, length-drop w ps)

pub rows_same : (w : ℕ) (cs ds : List ℤ) (ps qs : List ℕ) → length ps ≡ length cs * w
    → length qs ≡ length ds * w → rows w cs ps ≡ rows w ds qs → (cs ≡ ds) × (ps ≡ qs)
rows_same w [] [] ps qs e f h = (refl, no_rows w ps e ∙ sym (no_rows w qs f))
rows_same w [] (d ∷ ds) ps qs e f h = absurd (cc)
rows_same w (c ∷ cs) [] ps qs e f h = absurd (cc)
rows_same w (c ∷ cs) (d ∷ ds) ps qs e f h =
    let rest : rows w cs (drop w ps) ≡ rows w ds (drop w qs) = cc in
    let first : c ≡ d = ap (λ r. (slice_index_or r 0 no_term).coefficient) h in
    let row : take w ps ≡ take w qs = ap (λ r. (slice_index_or r 0 no_term).monomial) h in
    let less = rows_same w cs ds (drop w ps) (drop w qs) (rest_length w (length cs) ps e)
    (rest_length w (length ds) qs f) rest in
    let front : cs ≡ ds = less.0 in (
      ap (λ x. x ∷ cs) first ∙ ap (λ x. d ∷ x) front,
      sym (take-append-drop w ps) ∙ ap (λ x. x ++ drop w ps) row ∙ ap (λ x. take w qs ++ x) less.1
          ∙ take-append-drop w qs,
    )
