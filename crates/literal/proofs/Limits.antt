-- How far the numbers of a normal literal go, as it is the normal form of one within the limits.
use Rattle.std.specs.Prelude.{◌≡◌, ◌⊎◌, ℕ, pos, negsuc, ◌+◌, ◌*◌, ◌^◌, ◌<◌, ◌≤◌, ◌≤ℤ◌}
use Rattle.std.proofs.Common.{refl, ap, arith, ⊎_elim, inl, inr, lit<}
use Rattle.std.proofs.lemmas.Int.{ints}
use Rattle.std.proofs.lemmas.Nat.{pow-add}
use Rattle.std.proofs.lemmas.Bool.{cases_lt}
use Rattle.std.proofs.Math.Nat.{mul-le-mul_left, mul-le-mul_right, pow-le-pow_right, one-le-pow}
use Rattle.std.proofs.Math.Nat.{le-mul_of_pos_right}
use Rattle.fx_model.specs.declared.Literal.{Literal}
use Rattle.literal.specs.Normal.{nought, IsNormal, IsNormalDecimal, IsNormalBinary}

-- The whole number has 100 bits, and up to 38 digits with its tens. The exponents are small, and
-- one of them is 0.
pub record IsBounded (l : Literal) : Type 0 where
  pub num : l.num < 16 ^ 25
  pub with_tens : (k : ℕ) → l.ten ≡ pos k → l.num * 10 ^ k < 10 ^ 38
  pub ten_low : negsuc 29 ≤ℤ l.ten
  pub ten_high : l.ten ≤ℤ pos 38
  pub two_low : negsuc 511 ≤ℤ l.two
  pub two_high : l.two ≤ℤ pos 612
  pub apart : (l.ten ≡ pos 0) ⊎ (l.two ≡ pos 0)

-- ---- powers that are in the number and come out of it
few : (b m start rest lost : ℕ) → 0 < b → start ≡ rest * b ^ lost → 0 < rest
    → start < b ^ m → lost < m
few b m start rest lost p e h k = ⊎_elim (λ t. t) (λ t. absurd (past t)) (cases_lt lost m)
  where
    past : m ≤ lost → ⊥
    past t =
        let a : b ^ m ≤ b ^ lost = pow-le-pow_right {n = b} p t in
        let c : 1 * b ^ lost ≤ rest * b ^ lost = mul-le-mul_right (b ^ lost) h in
        omega arith

at_most : (b n k : ℕ) → 0 < b → n ≤ n * b ^ k
at_most b n k h = le-mul_of_pos_right n (one-le-pow k b h)

tens_fit : (n lost k : ℕ) → n * 10 ^ lost < 10 ^ 30 → k ≤ lost + 8 → n * 10 ^ k < 10 ^ 38
tens_fit n lost k h l =
    let a : 10 ^ k ≤ 10 ^ (lost + 8) = pow-le-pow_right {n = 10} (lit< tt) l in
    let b : n * 10 ^ k ≤ n * 10 ^ (lost + 8) = mul-le-mul_left n a in
    let c : n * 10 ^ (lost + 8) ≡ (n * 10 ^ lost) * 10 ^ 8 = rw (pow-add 10 lost 8) (omega arith) in
    omega arith

-- ---- each normal literal is bounded so
bounded_zero : (l : Literal) → l ≡ nought → IsBounded l
bounded_zero l e =
    let n : l.num ≡ 0 = ap (λ (m : Literal). m.num) e in
    let a : l.ten ≡ pos 0 = ap (λ (m : Literal). m.ten) e in
    let b : l.two ≡ pos 0 = ap (λ (m : Literal). m.two) e in
    record {
      num = omega arith;
      with_tens = λ k p. rw n (omega arith);
      ten_low = omega (arith, ints);
      ten_high = omega (arith, ints);
      two_low = omega (arith, ints);
      two_high = omega (arith, ints);
      apart = inl a;
    }

bounded_decimal : (l : Literal) → IsNormalDecimal l → IsBounded l
bounded_decimal l d =
    let r = d.reduced in
    let h : 0 < l.num = omega arith in
    let n : d.lost < 30 = few 10 30 (l.num * 10 ^ d.lost) l.num d.lost (lit< tt) refl h d.digits in
    let m = at_most 10 l.num d.lost (lit< tt) in
    let b = d.two in
    let low = d.exponent.0 in
    let high = d.exponent.1 in
    let digits = d.digits in
    record {
      num = omega arith;
      with_tens = λ k p. tens_fit l.num d.lost k d.digits (omega (arith, ints));
      ten_low = omega (arith, ints);
      ten_high = omega (arith, ints);
      two_low = omega (arith, ints);
      two_high = omega (arith, ints);
      apart = inr b;
    }

bounded_binary : (l : Literal) → IsNormalBinary l → IsBounded l
bounded_binary l d =
    let r = d.reduced in
    let h : 0 < l.num = omega arith in
    let n : d.lost < 100 = few 2 100 (l.num * 2 ^ d.lost) l.num d.lost (lit< tt) refl h d.digits in
    let m = at_most 2 l.num d.lost (lit< tt) in
    let a = d.ten in
    let low = d.exponent.0 in
    let high = d.exponent.1 in
    let digits = d.digits in
    record {
      num = omega arith;
      with_tens = λ k p. let z : k ≡ 0 = omega (arith, ints) in rw z (omega arith);
      ten_low = omega (arith, ints);
      ten_high = omega (arith, ints);
      two_low = omega (arith, ints);
      two_high = omega (arith, ints);
      apart = inl a;
    }

-- The numbers of a normal literal are bounded.
pub bounded : (l : Literal) → IsNormal l → IsBounded l
bounded l n = ⊎_elim (bounded_zero l) (λ m. ⊎_elim (bounded_decimal l) (bounded_binary l) m) n
