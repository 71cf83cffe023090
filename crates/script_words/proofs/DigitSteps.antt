-- The numbers that digits write, from the front on.
use Rattle.std.proofs.Common.{◌≡◌, ℕ, suc, ◌+◌, ◌*◌, ◌<◌, ◌≤◌, List, [], ◌∷◌, length, get_or, drop}
use Rattle.std.proofs.Common.{ap, ◌∙◌, arith, le_refl, le_trans, drop-cons}
use Rattle.std.specs.Char.{digit_value}
use Rattle.std.specs.Str.Parse.{digits_value, digits_value_after}

after_step : (n i : ℕ) (ds : List ℕ) → i < length ds → digits_value_after 10 n (drop i ds)
    ≡ digits_value_after 10 (n * 10 + digit_value (get_or ds i 0)) (drop (i + 1) ds)
after_step n i ds h =
    let e : suc i ≡ i + 1 = omega arith in
    ap (digits_value_after 10 n) (drop-cons ds i 0 h)
    ∙ ap (λ j. digits_value_after 10 (n * 10 + digit_value (get_or ds i 0)) (drop j ds)) e

grows : (n d : ℕ) → n ≤ n * 10 + d
grows n d = omega arith

after_ge : (n : ℕ) (ds : List ℕ) → n ≤ digits_value_after 10 n ds
after_ge n [] = le_refl n
after_ge n (c ∷ cs) = le_trans (grows n (digit_value c)) (after_ge (n * 10 + digit_value c) cs)

-- a number that reaches the limit with its first digits does so with all
pub past_limit : (limit n i d : ℕ) (ds : List ℕ)
    → digits_value 10 ds ≡ digits_value_after 10 n (drop i ds) → i < length ds
    → d ≡ digit_value (get_or ds i 0) → limit ≤ n * 10 + d → digits_value 10 ds < limit → ⊥
past_limit limit n i d ds same h e over low =
    let a = same ∙ after_step n i ds h in
    let b = after_ge (n * 10 + digit_value (get_or ds i 0)) (drop (i + 1) ds) in
    omega (arith, a, b)
