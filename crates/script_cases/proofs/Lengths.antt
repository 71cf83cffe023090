-- The lengths of pieces, and the products of them.
use Rattle.std.specs.Prelude.{◌≡◌, ℕ, zero, suc, ◌*◌, ◌<◌, ◌≤◌, ◌-◌, List, [], ◌∷◌, length, take}
use Rattle.std.specs.Prelude.{drop, get_or, refl}
use Rattle.std.specs.List.{AllByRecursion}
use Rattle.std.proofs.Common.{ap, sym, ◌∙◌, arith, Vec, vec_len}
use Rattle.std.proofs.lemmas.List.{length-take, length-drop}
use Rattle.std.proofs.Math.Nat.{mul-le-mul_left}
use Rattle.std.proofs.Math.Seq.{take-length}
use Rattle.script_cases.specs.Cases.{case_count}
use Rattle.script_cases.specs.Gaps.{gaps, AreRising}
use Rattle.script_cases.specs.Marks.{pieces, left_over, start_at, IsFilled}

pub long : {X Z : Type 0} (v : Vec X Z) → vec_len v ≡ length v.items
long v = omega (arith, v.ok.0)

-- a piece is as long as its places say
pub length_piece : {X : Type 0} (from end : ℕ) (xs : List X) → end ≤ length xs
    → length (take (end - from) (drop from xs)) ≡ end - from
length_piece from end xs h =
    length-take (end - from) (drop from xs) ∙ omega (arith, h, length-drop from xs)

pub count_of_gaps : {X : Type 0} (from : ℕ) (cs : List (List X)) (ends : List ℕ)
    → AllByRecursion (λ e. e ≤ length cs) ends → case_count (pieces from cs ends) ≡ gaps from ends
count_of_gaps from cs [] h = refl
count_of_gaps from cs (end ∷ ends) h =
    λ i. length_piece from end cs h.0 i * count_of_gaps end cs ends h.1 i

pub filled_rising : {X : Type 0} (from : ℕ) (cs : List (List X)) (ends : List ℕ)
    → AllByRecursion (λ e. e ≤ length cs) ends
    → AllByRecursion IsFilled (pieces from cs ends) → AreRising from ends
filled_rising from cs [] h f = tt
filled_rising from cs (end ∷ ends) h f =
    (omega (arith, f.0, length_piece from end cs h.0), filled_rising end cs ends h.1 f.1)

pub gaps_positive : (from : ℕ) (ends : List ℕ) → AreRising from ends → 0 < gaps from ends
gaps_positive from [] h = omega arith
gaps_positive from (end ∷ ends) h =
    let more = gaps_positive end ends h.1 in
    let least : (end - from) * 1 ≤ (end - from) * gaps end ends =
    mul-le-mul_left (end - from) (omega (more, arith)) in
    omega (least, h.0, arith)

-- where a product with more factors is small, so is the one with fewer
pub fewer_factors : (a b from : ℕ) (ends : List ℕ) → AreRising from ends
    → a * b ≤ a * (b * gaps from ends)
fewer_factors a b from ends h =
    let more = gaps_positive from ends h in
    let inner : b * 1 ≤ b * gaps from ends = mul-le-mul_left b (omega (more, arith)) in
    mul-le-mul_left a (omega (inner, arith))

-- ---- what is left over

pub length_left : {X : Type 0} (from : ℕ) (xs : List X) (ends : List ℕ)
    → length (left_over from xs ends) ≡ length xs - start_at from ends (length ends)
length_left from xs [] = length-drop from xs
length_left from xs (end ∷ ends) = length_left end xs ends

-- a place stands before each but the first
pub start_behind : (from : ℕ) (ends : List ℕ) (k : ℕ) → 0 < k → k ≤ length ends
    → start_at from ends k ≡ get_or ends (k - 1) 0
start_behind from ends zero p h = absurd (omega (p, arith))
start_behind from [] (suc k) p h = absurd (omega (h, arith))
start_behind from (end ∷ ends) (suc zero) p h = ap (λ j. get_or (end ∷ ends) j 0) none_less
  where
    none_less : 0 ≡ suc zero - 1
    none_less = omega arith
start_behind from (end ∷ ends) (suc (suc k)) p h =
    start_behind end ends (suc k) (omega arith) (omega (h, arith))
    ∙ ap (λ j. get_or ends j 0) (less k) ∙ ap (λ j. get_or (end ∷ ends) j 0) (more k)
  where
    less : (k : ℕ) → suc k - 1 ≡ k
    less k = omega arith

    more : (k : ℕ) → suc k ≡ suc (suc k) - 1
    more k = omega arith

-- a factor of a product that is small is small
pub few_product : (a from : ℕ) (ends : List ℕ) → 1 ≤ length ends → AreRising from ends
    → a * gaps from ends ≤ 64 → a * (get_or ends 0 0 - from) ≤ 64
few_product a from [] l h e = absurd (omega (l, arith))
few_product a from (end ∷ ends) l h e = omega (e, fewer_factors a (end - from) end ends h.1, arith)

-- the place where the part in hand begins lies in the list
pub start_within : (from : ℕ) (ends : List ℕ) (n k : ℕ) → from ≤ n
    → AllByRecursion (λ e. e ≤ n) ends → start_at from ends k ≤ n
start_within from ends n zero h a = h
start_within from [] n (suc k) h a = h
start_within from (end ∷ ends) n (suc k) h a = start_within end ends n k a.0 a.1

-- a list is its first place and the others
pub in_two : (ends : List ℕ) → 1 ≤ length ends
    → ends ≡ get_or ends 0 0 ∷ take (length ends - 1) (drop 1 ends)
in_two [] h = absurd (omega (h, arith))
in_two (end ∷ ends) h =
    ap (λ l. end ∷ l) (sym (take-length ends) ∙ ap (λ n. take n ends) (less (length ends)))
  where
    less : (n : ℕ) → n ≡ suc n - 1
    less n = omega arith
