-- Pieces of a list that grows, and those of more places.
use Rattle.std.specs.Prelude.{◌≡◌, ℕ, zero, suc, ◌≤◌, ◌-◌, List, [], ◌∷◌, ◌++◌, length, take, drop}
use Rattle.std.specs.Prelude.{refl}
use Rattle.std.specs.List.{AllByRecursion}
use Rattle.std.proofs.Common.{ap, sym, ◌∙◌, arith, subst}
use Rattle.std.proofs.lemmas.List.{take-append-le, drop-append-le}
use Rattle.std.proofs.Math.Seq.{take-length}
use Rattle.script_cases.specs.Marks.{pieces, left_over}

less_nothing : (n : ℕ) → n - 0 ≡ n
less_nothing n = omega arith

nothing_less : (n : ℕ) → 0 - n ≡ 0
nothing_less n = omega arith

both_less : (m n : ℕ) → suc m - suc n ≡ m - n
both_less m n = omega arith

-- ---- the list grows
piece_more : {X : Type 0} (from end : ℕ) (xs ys : List X) → end ≤ length xs
    → take (end - from) (drop from (xs ++ ys)) ≡ take (end - from) (drop from xs)
piece_more zero end xs ys h = ap (λ n. take n (xs ++ ys)) (less_nothing end)
    ∙ take-append-le end xs ys h ∙ ap (λ n. take n xs) (sym (less_nothing end))
piece_more (suc from) zero xs ys h =
    ap (λ n. take n (drop (suc from) (xs ++ ys))) (nothing_less (suc from))
    ∙ ap (λ n. take n (drop (suc from) xs)) (sym (nothing_less (suc from)))
piece_more (suc from) (suc end) [] ys h = absurd (omega (h, arith))
piece_more (suc from) (suc end) (x ∷ xs) ys h = ap (λ n. take n (drop from (xs ++ ys)))
    (both_less end from) ∙ piece_more from end xs ys (omega (h, arith))
    ∙ ap (λ n. take n (drop from xs)) (sym (both_less end from))

pub pieces_more : {X : Type 0} (from : ℕ) (xs ys : List X) (ends : List ℕ)
    → AllByRecursion (λ e. e ≤ length xs) ends → pieces from (xs ++ ys) ends ≡ pieces from xs ends
pieces_more from xs ys [] h = refl
pieces_more from xs ys (end ∷ ends) h =
    λ i. piece_more from end xs ys h.0 i ∷ pieces_more end xs ys ends h.1 i

pub left_over_more : {X : Type 0} (from : ℕ) (xs ys : List X) (ends : List ℕ)
    → from ≤ length xs → AllByRecursion (λ e. e ≤ length xs) ends
    → left_over from (xs ++ ys) ends ≡ left_over from xs ends ++ ys
left_over_more from xs ys [] b h = drop-append-le from xs ys b
left_over_more from xs ys (end ∷ ends) b h = left_over_more end xs ys ends h.0 h.1

-- ---- one more place, at the end of the list
rest_of : {X : Type 0} (from : ℕ) (xs : List X)
    → take (length xs - from) (drop from xs) ≡ drop from xs
rest_of zero xs = ap (λ n. take n xs) (less_nothing (length xs)) ∙ take-length xs
rest_of (suc from) [] = ap (λ n. take n (drop (suc from) [])) (nothing_less (suc from))
rest_of (suc from) (x ∷ xs) =
    ap (λ n. take n (drop from xs)) (both_less (length xs) from) ∙ rest_of from xs

nothing_left : {X : Type 0} (xs : List X) → drop (length xs) xs ≡ []
nothing_left [] = refl
nothing_left (x ∷ xs) = nothing_left xs

pub pieces_end : {X : Type 0} (from : ℕ) (xs : List X) (ends : List ℕ)
    → pieces from xs (ends ++ (length xs ∷ []))
    ≡ pieces from xs ends ++ (left_over from xs ends ∷ [])
pieces_end from xs [] = ap (λ p. p ∷ []) (rest_of from xs)
pieces_end from xs (end ∷ ends) =
    ap (λ ps. take (end - from) (drop from xs) ∷ ps) (pieces_end end xs ends)

pub left_over_end : {X : Type 0} (from : ℕ) (xs : List X) (ends : List ℕ)
    → left_over from xs (ends ++ (length xs ∷ [])) ≡ []
left_over_end from xs [] = nothing_left xs
left_over_end from xs (end ∷ ends) = left_over_end end xs ends

pub length_pieces : {X : Type 0} (from : ℕ) (xs : List X) (ends : List ℕ)
    → length (pieces from xs ends) ≡ length ends
length_pieces from xs [] = refl
length_pieces from xs (end ∷ ends) = ap suc (length_pieces end xs ends)

-- the pieces are as many as the places where they end
pub pieces_within : {X : Type 0} (items : List X) (ends later : List ℕ)
    → AllByRecursion (λ e. e ≤ length ends) later
    → AllByRecursion (λ e. e ≤ length (pieces 0 items ends)) later
pieces_within items ends later h =
    subst (λ n. AllByRecursion (λ e. e ≤ n) later) (sym (length_pieces 0 items ends)) h
