-- Numbers in two halves without their lowest bits.
use Rattle.std.proofs.Common.{◌≡◌, ℕ, ◌+◌, ◌-◌, ◌*◌, ◌/◌, ◌%◌, ◌^◌, ◌<◌, ◌≤◌, Bool, true, false}
use Rattle.std.proofs.Common.{not, IsTrue, ◌↔◌, refl, sym, ap, ◌∙◌, subst, ⊎_elim, arith, lit≤}
use Rattle.std.proofs.Math.Nat.{mul-le-mul_right, div-lt_iff_lt-mul, div-eq_of_lt-le}
use Rattle.std.proofs.Math.Nat.{div-div-eq-div-mul, div-eq_of_lt, pow-le-pow_right}
use Rattle.std.proofs.lemmas.Bool.{cases_lt}
use Rattle.std.proofs.lemmas.Nat.{pow-add, pow_pos, mod_below, shr_split}

-- ---- a half
pub all_lost : (half places : ℕ) → half < 2 ^ 128 → 128 ≤ places → 0 ≡ half / 2 ^ places
all_lost half places f h =
    let p : 2 ^ 128 ≤ 2 ^ places = pow-le-pow_right {n = 2} (lit≤ tt) {i = 128} {j = places} h in
    sym (div-eq_of_lt {n = half} {m = 2 ^ places} (omega arith))

-- ---- fewer bits than a half has
pub split_powers : (p q : ℕ) → p + q ≡ 128 → 2 ^ p * 2 ^ q ≡ 2 ^ 128
split_powers p q h = sym (pow-add 2 p q) ∙ ap (λ n. 2 ^ n) h

pub moved_fits : (high low p q : ℕ) → low < 2 ^ 128 → p + q ≡ 128
    → high % 2 ^ p * 2 ^ q + low / 2 ^ p < 2 ^ 128
moved_fits high low p q f h =
    let e = split_powers p q h in
    let m : high % 2 ^ p < 2 ^ p = mod_below high (2 ^ p) (pow_pos p) in
    let a : (high % 2 ^ p + 1) * 2 ^ q ≤ 2 ^ p * 2 ^ q =
    mul-le-mul_right {m = high % 2 ^ p + 1} {n = 2 ^ p} (2 ^ q) (omega arith) in
    let b : low / 2 ^ p < 2 ^ q =
    (div-lt_iff_lt-mul {k = 2 ^ p} {x = low} {y = 2 ^ q} (pow_pos p)).1 (omega arith) in
    omega arith

moved : (hd hm ld P Q M : ℕ) → P * Q ≡ M → (hd * M + (hm * Q + ld)) * P ≡ (hd * P + hm) * M + ld * P
moved hd hm ld P Q M e = rw (← e) (omega arith)

pub shifted_size : (high low p q : ℕ) → p + q ≡ 128
    → high / 2 ^ p * 2 ^ 128 + (high % 2 ^ p * 2 ^ q + low / 2 ^ p) ≡ (high * 2 ^ 128 + low) / 2 ^ p
shifted_size high low p q h =
    let e = moved (high / 2 ^ p) (high % 2 ^ p) (low / 2 ^ p) (2 ^ p) (2 ^ q)
    (2 ^ 128) (split_powers p q h) in
    let f : (high / 2 ^ p * 2 ^ p + high % 2 ^ p) * 2 ^ 128 ≡ high * 2 ^ 128 =
    ap (λ n. n * 2 ^ 128) (shr_split high p) in
    let g = shr_split low p in
    let m : low % 2 ^ p < 2 ^ p = mod_below low (2 ^ p) (pow_pos p) in
    sym (div-eq_of_lt-le (2 ^ p) (omega arith) (omega arith))

-- ---- a half or more
pub half_size : (high low places : ℕ) → low < 2 ^ 128 → 128 ≤ places
    → 0 * 2 ^ 128 + high / 2 ^ (places - 128) ≡ (high * 2 ^ 128 + low) / 2 ^ places
half_size high low places f h =
    let e : 2 ^ 128 * 2 ^ (places - 128) ≡ 2 ^ places =
    sym (pow-add 2 128 (places - 128)) ∙ ap (λ n. 2 ^ n) (omega arith) in
    let g : (high * 2 ^ 128 + low) / 2 ^ 128 ≡ high =
    div-eq_of_lt-le (2 ^ 128) (omega arith) (omega arith) in
    let z : 0 * 2 ^ 128 + high / 2 ^ (places - 128) ≡ high / 2 ^ (places - 128) = omega arith in
    z ∙ ap (λ n. n / 2 ^ (places - 128)) (sym g) ∙ div-div-eq-div-mul (high * 2 ^ 128 + low)
    (2 ^ 128) (2 ^ (places - 128)) ∙ ap (λ n. (high * 2 ^ 128 + low) / n) e

-- ---- comparisons
pub below_raised : (less : Bool) (a b p s : ℕ) → s ≡ a / 2 ^ p → IsTrue less ↔ s < b
    → IsTrue less ↔ a < b * 2 ^ p
below_raised less a b p s e d =
    let t = div-lt_iff_lt-mul {k = 2 ^ p} {x = a} {y = b} (pow_pos p) in
    (λ h. t.0 (subst (λ n. n < b) e (d.0 h)), λ h. d.1 (subst (λ n. n < b) (sym e) (t.1 h)))

opposite : (less : Bool) (s a : ℕ) → IsTrue less ↔ s < a → IsTrue (not less) ↔ a ≤ s
opposite true s a d = (λ h. cc h, λ h. absurd (let k = d.0 refl in omega arith))
opposite false s a d = (λ h. ⊎_elim (λ k. let e = d.1 k in cc e) (λ k. k) (cases_lt s a), λ h. refl)

at_most : (a s : ℕ) → (s + 1 ≤ a → ⊥) → a ≤ s
at_most a s h = ⊎_elim (λ k. absurd (h (omega arith))) (λ k. k) (cases_lt s a)

pub raised_below : (less : Bool) (a b c p s : ℕ) → c + 1 ≡ b → s ≡ c / 2 ^ p → IsTrue less ↔ s < a
    → IsTrue (not less) ↔ a * 2 ^ p < b
raised_below less a b c p s e f d =
    let o = opposite less s a d in
    (λ h. up (o.0 h), λ h. o.1 (down h))
  where
    up : a ≤ s → a * 2 ^ p < b
    up k =
        let m : a * 2 ^ p ≤ s * 2 ^ p = mul-le-mul_right {m = a} {n = s} (2 ^ p) k in
        let n : c / 2 ^ p * 2 ^ p + c % 2 ^ p ≡ c = shr_split c p in
        let q : s * 2 ^ p ≡ c / 2 ^ p * 2 ^ p = ap (λ n. n * 2 ^ p) f in
        omega arith

    down : a * 2 ^ p < b → a ≤ s
    down h =
        let l : c / 2 ^ p < s + 1 = omega arith in
        let m : c < (s + 1) * 2 ^ p =
        (div-lt_iff_lt-mul {k = 2 ^ p} {x = c} {y = s + 1} (pow_pos p)).0 l in
        at_most a s (λ k. let n : (s + 1) * 2 ^ p ≤ a * 2 ^ p =
        mul-le-mul_right {m = s + 1} {n = a} (2 ^ p) k in omega arith)
