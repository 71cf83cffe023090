-- The numbers of the least and the greatest words.
use lib.Signed.{mag}
use mir.Syntax.{w32}
use mir.Val.{to_z, of_z}
use Rattle.std.proofs.Common.{◌≡◌, ℕ, ℤ, pos, ◌+ℤ◌, ◌*ℤ◌, zero, suc, ◌-◌, ◌*◌, ◌%◌, ◌^◌, ◌<◌, ◌≤◌}
use Rattle.std.proofs.Common.{true, false, sym, ap, ◌∙◌, arith, lit≤, if◌then◌else◌}
use Rattle.std.specs.Prelude.{neg_ℤ}
use Rattle.std.proofs.lemmas.Int.{ints, to_z-of_z}
use Rattle.std.proofs.lemmas.Nat.{pow_pos}
use Rattle.std.proofs.Math.Nat.{pow-le-pow_right, mod-eq_of_lt}
use Rattle.fx_model.specs.Fraction.{neg_ℚ, ◌*ℚ◌}
use Rattle.fx_model.proofs.Fraction.{mul-one}
use Rattle.fx_model.specs.Powers.{scaled, one-whole, scaled-shift, scaled-zero}
use Rattle.fx_model.specs.Grid.{signed, scaled-neg}
use Rattle.fx_model.specs.Expression.{literal_value}
use Rattle.fixprog.specs.declared.format.Format.{Format}
use Rattle.fixprog.specs.Formats.{least, word_value}

pub plain_value : (n : ℕ) (t : ℤ) → literal_value (record { num = n; two = t; ten = pos 0 })
    ≡ scaled (pos n) t
plain_value n t = ap (λ x. scaled (pos n) t *ℚ x) (sym one-whole) ∙ mul-one (scaled (pos n) t)

pub zero_same : (n : ℕ) (s t : ℤ) → n ≡ 0 → scaled (pos n) s ≡ scaled (pos n) t
zero_same n s t h = ap (λ k. scaled (pos k) s) h ∙ scaled-zero s ∙ sym (scaled-zero t)
    ∙ ap (λ k. scaled (pos k) t) (sym h)

-- ---- powers of two in 64 bits

power_is : (k : ℕ) → k ≤ 60 → 1 * 2 ^ k % 18446744073709551616 ≡ 2 ^ k
power_is k h = let p : 2 ^ k ≤ 2 ^ 60 = pow-le-pow_right {n = 2} (lit≤ tt) {i = k} {j = 60} h in
    mod-eq_of_lt (omega arith) ∙ omega arith

odd_below : (k : ℕ) → 0 < 2 ^ k - 1 → (2 ^ k - 1) % 2 ≡ 1
odd_below zero h = absurd (omega arith)
odd_below (suc k) h = let p = pow_pos k in let e : 2 ^ suc k ≡ 2 * 2 ^ k = omega arith in
    omega arith

pub ones_are_odd : (k : ℕ) → k ≤ 60 → 0 < 1 * 2 ^ k % 18446744073709551616 - 1
    → (1 * 2 ^ k % 18446744073709551616 - 1) % 2 ≡ 1
ones_are_odd k h l = let e = power_is k h in ap (λ n. (n - 1) % 2) e ∙ odd_below k (omega arith)

pub ones_are_short : (k : ℕ) → k ≤ 60 → 1 * 2 ^ k % 18446744073709551616 - 1 < 1152921504606846976
ones_are_short k h =
    let e = power_is k h in
    let p : 2 ^ k ≤ 2 ^ 60 = pow-le-pow_right {n = 2} (lit≤ tt) {i = k} {j = 60} h in
    let q = pow_pos k in
    omega arith

-- ---- the least word

pub least_value : (f : Format) (t : ℤ) → f.signed ≡ true → 0 < f.width → t
    ≡ neg_ℤ (pos f.places) +ℤ pos (f.width - 1) → signed true (scaled (pos 1) t)
    ≡ word_value f (least f)
least_value f t s w e =
    let m = 2 ^ (f.width - 1) in
    let one : pos 1 *ℤ pos m ≡ pos m = omega (arith, ints) in
    ap neg_ℚ (ap (scaled (pos 1)) e ∙ scaled-shift (pos 1) (neg_ℤ (pos f.places)) (f.width - 1)
    ∙ ap (λ n. scaled n (neg_ℤ (pos f.places))) one)
    ∙ sym (scaled-neg (pos m) (neg_ℤ (pos f.places)))
    ∙ ap (λ b. scaled (if b then neg_ℤ (pos m) else pos 0) (neg_ℤ (pos f.places))) (sym s)

pub least_is_zero : (f : Format) (t : ℤ) → f.signed ≡ false → signed false (scaled (pos 0) t)
    ≡ word_value f (least f)
least_is_zero f t s =
    scaled-zero t ∙ sym (scaled-zero (neg_ℤ (pos f.places)))
    ∙ ap (λ b. scaled (if b then neg_ℤ (pos (2 ^ (f.width - 1))) else pos 0)
    (neg_ℤ (pos f.places))) (sym s)

-- a number of 32 bits is itself as its bits
pub kept : (z : ℤ) → mag z < 2147483648 → to_z w32 (of_z w32 z) ≡ z
kept z h = to_z-of_z w32 z (record { sfits = h })
