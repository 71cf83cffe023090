-- The numbers that digits write, from the front on.
use Rattle.std.proofs.Common.{◌≡◌, ℕ, zero, suc, ◌+◌, ◌*◌, ◌/◌, ◌%◌, ◌^◌, ◌<◌, ◌≤◌, List, [], ◌∷◌}
use Rattle.std.proofs.Common.{◌++◌, length, get_or, drop, refl, sym, ap, ◌∙◌, arith, le_refl}
use Rattle.std.proofs.Common.{le_trans, drop-cons, lit<, ⊎_elim}
use Rattle.std.proofs.Math.Nat.{mul-le-mul_left, mul-le-mul_right, pow-le-pow_right}
use Rattle.std.proofs.lemmas.Nat.{mul-le, mod-pow-add, shr_split}
use Rattle.std.proofs.lemmas.Bool.{cases_lt}
use Rattle.std.specs.Char.{digit_value}
use Rattle.std.specs.Str.Parse.{digits_value, digits_value_after}
use Rattle.literal.proofs.Tens.{pow_step}

pub after_step : (r n i : ℕ) (ds : List ℕ) → i < length ds → digits_value_after r n (drop i ds)
    ≡ digits_value_after r (n * r + digit_value (get_or ds i 0)) (drop (i + 1) ds)
after_step r n i ds h =
    let e : suc i ≡ i + 1 = omega arith in
    ap (digits_value_after r n) (drop-cons ds i 0 h)
    ∙ ap (λ j. digits_value_after r (n * r + digit_value (get_or ds i 0)) (drop j ds)) e

grows : (n r d : ℕ) → 0 < r → n ≤ n * r + d
grows n r d h = omega (arith, mul-le-mul_left n h)

pub after_ge : (r n : ℕ) (ds : List ℕ) → 0 < r → n ≤ digits_value_after r n ds
after_ge r n [] h = le_refl n
after_ge r n (c ∷ cs) h =
    le_trans (grows n r (digit_value c) h) (after_ge r (n * r + digit_value c) cs h)

pub after_append : (r n : ℕ) (a b : List ℕ)
    → digits_value_after r n (a ++ b) ≡ digits_value_after r (digits_value_after r n a) b
after_append r n [] b = refl
after_append r n (c ∷ a) b = after_append r (n * r + digit_value c) a b

-- a number below 10^30 has fewer than 30 factors of ten
pub few_tens : (start rest lost : ℕ) → start ≡ rest * 10 ^ lost → 0 < rest
    → start < 10 ^ 30 → lost < 30
few_tens start rest lost e h k = ⊎_elim (λ t. t) (λ t. absurd (past t)) (cases_lt lost 30)
  where
    past : 30 ≤ lost → ⊥
    past t =
        let a : 10 ^ 30 ≤ 10 ^ lost = pow-le-pow_right {n = 10} (lit< tt) t in
        let b : 1 * 10 ^ lost ≤ rest * 10 ^ lost = mul-le-mul_right (10 ^ lost) h in
        omega arith

-- one more factor of ten
pub one_more : (start rest next lost : ℕ) → start ≡ rest * 10 ^ lost → rest ≡ next * 10
    → start ≡ next * 10 ^ (lost + 1)
one_more start rest next lost e h =
    let p : 10 ^ (lost + 1) ≡ 10 * 10 ^ lost = pow_step 10 lost in
    let q : rest * 10 ^ lost ≡ (next * 10) * 10 ^ lost = ap (λ n. n * 10 ^ lost) h in
    let u : next * 10 ^ (lost + 1) ≡ next * (10 * 10 ^ lost) = ap (λ n. next * n) p in
    omega arith

pub room : (n r d : ℕ) → n < 2 ^ 120 → r ≤ 16 → d ≤ 36 → n * r + d < 2 ^ 128
room n r d h k l = omega (arith, mul-le n r (2 ^ 120) 16 (omega arith) k)

pub past_limit : (r n i first limit d : ℕ) (ds : List ℕ)
    → digits_value_after r first ds ≡ digits_value_after r n (drop i ds)
    → i < length ds → d ≡ digit_value (get_or ds i 0) → limit ≤ n * r + d → 0 < r
    → digits_value_after r first ds < limit → ⊥
past_limit r n i first limit d ds same h e over p low =
    let a = same ∙ after_step r n i ds h in
    let b = after_ge r (n * r + digit_value (get_or ds i 0)) (drop (i + 1) ds) p in
    omega (arith, a, b)

-- a number that reaches the limit with its first digits does so with all
pub joined_past : (r limit : ℕ) (w f : List ℕ) → 0 < r → (digits_value_after r 0 w < limit → ⊥)
    → digits_value r (w ++ f) < limit → ⊥
joined_past r limit w f p n h =
    n (omega (arith, after_append r 0 w f, after_ge r (digits_value_after r 0 w) f p))

pub joined_is : (r num : ℕ) (w f : List ℕ) → num ≡ digits_value_after r 0 w
    → digits_value_after r num f ≡ digits_value r (w ++ f)
joined_is r num w f e = ap (λ n. digits_value_after r n f) e ∙ sym (after_append r 0 w f)

-- ---- the places below the lowest bit of a number are empty
low_bits : (t n : ℕ) → ((i : ℕ) → i < t → n / 2 ^ i % 2 ≡ 0) → n % 2 ^ t ≡ 0
low_bits zero n h = omega arith
low_bits (suc t) n h =
    let e : suc t ≡ 1 + t = omega arith in
    let b : n / 2 ^ t % 2 ^ 1 ≡ 0 = h t (omega arith) in
    let r : n % 2 ^ t ≡ 0 = low_bits t n (λ i k. h i (omega arith)) in
    ap (λ k. n % 2 ^ k) e ∙ mod-pow-add n 1 t ∙ omega (arith, ap (λ k. k * 2 ^ t) b)

pub twos_are : (n t : ℕ) → ((i : ℕ) → i < t → n / 2 ^ i % 2 ≡ 0) → n ≡ n / 2 ^ t * 2 ^ t
twos_are n t h = omega (arith, low_bits t n h, shr_split n t)
