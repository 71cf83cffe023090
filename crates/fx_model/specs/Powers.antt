-- Whole numbers and powers of two as fractions.
use borrow.Author.Differences.{up, down, sum_is_lem, product_is, neg_is}
use lib.IntN.{neg_ℤ}
use mathlib.Core.Quot.{sound}
use Rattle.std.specs.Prelude.{◌≡◌, ℕ, ℤ, pos, ◌+ℤ◌, ◌*ℤ◌, ◌≤ℤ◌, ◌<ℤ◌, ◌*◌, ◌+◌, ◌^◌, refl}
use Rattle.std.proofs.Common.{arith, sym, ap, ◌∙◌, lit<, subst}
use Rattle.std.proofs.lemmas.Nat.{pow_pos, pow-add}
use Rattle.std.proofs.lemmas.Int.{ints, by_lt_z}
use Rattle.fx_model.specs.Fraction.{Ratio, Same, Fraction, ◌+ℚ◌, ◌*ℚ◌, neg_ℚ, ◌≤ℚ◌, of_ratio}
use Rattle.fx_model.specs.Fraction.{zero_ℚ, one_ℚ, le_in, le_out, add_ratio, mul_ratio, neg_ratio}
use Rattle.fx_model.specs.Fraction.{add-mk, mul-mk, neg-mk, ◌<ℚ◌, lt_by, lt_not, lt_le, mul_comm}
use Rattle.fx_model.specs.Fraction.{mul_assoc, mul-le, mul-le_cancel, zero-mul, by_ratio, Le-prop}
use Rattle.fx_model.specs.Fraction.{Lt-prop, le_trans, floor_ℚ, floor_law, le_refl}

-- The whole number z.
pub whole : ℤ → Fraction
whole z = of_ratio (record { plus = up z; minus = down z; den = 1; positive = lit< tt })

-- 2^k.
pub two_to : ℤ → Fraction
two_to k =
    of_ratio (record { plus = 2 ^ up k; minus = 0; den = 2 ^ down k; positive = pow_pos (down k) })

-- how they are written
abbrev pub whole_ratio : ℤ → Ratio
whole_ratio z = record { plus = up z; minus = down z; den = 1; positive = lit< tt }

-- 2^k
abbrev pub two_to_ratio : ℤ → Ratio
two_to_ratio k =
    record { plus = 2 ^ up k; minus = 0; den = 2 ^ down k; positive = pow_pos (down k) }

pub whole-mk : (z : ℤ) → whole z ≡ of_ratio (whole_ratio z)
unfolding whole
whole-mk z = refl

pub two_to-mk : (k : ℤ) → two_to k ≡ of_ratio (two_to_ratio k)
unfolding two_to
two_to-mk k = refl

-- m * 2^e.
abbrev pub scaled : ℤ → ℤ → Fraction
scaled m e = whole m *ℚ two_to e

-- x is a whole multiple of 2^k.
abbrev pub IsMultiple : ℤ → Fraction → Type 0
IsMultiple k x = (m : ℤ) × (x ≡ scaled m k)

pub whole-add : (a b : ℤ) → whole (a +ℤ b) ≡ whole a +ℚ whole b
unfolding whole
whole-add a b = sound {r = Same} {b =
    add_ratio (record { plus = up a; minus = down a; den = 1; positive = lit< tt })
    (record { plus = up b; minus = down b; den = 1; positive = lit< tt })}
    (omega (arith, sum_is_lem a b)) ∙ sym (add-mk _ _)

pub whole-mul : (a b : ℤ) → whole (a *ℤ b) ≡ whole a *ℚ whole b
unfolding whole
whole-mul a b = sound {r = Same} {b =
    mul_ratio (record { plus = up a; minus = down a; den = 1; positive = lit< tt })
    (record { plus = up b; minus = down b; den = 1; positive = lit< tt })}
    (omega (arith, product_is a b)) ∙ sym (mul-mk _ _)

pub whole-neg : (a : ℤ) → whole (neg_ℤ a) ≡ neg_ℚ (whole a)
unfolding whole
whole-neg a = sound {r = Same} {b =
    neg_ratio (record { plus = up a; minus = down a; den = 1; positive = lit< tt })}
    (omega (arith, neg_is a)) ∙ sym (neg-mk _)

-- 2^(j + k) = 2^j * 2^k: the exponents balance, and one power law gives the products
exponents : (a b c d e f : ℕ) → a + d + f ≡ b + c + e
    → 2 ^ a * (2 ^ d * 2 ^ f) ≡ 2 ^ c * 2 ^ e * 2 ^ b
exponents a b c d e f h =
    rw (← pow-add 2 d f, ← pow-add 2 a (d + f), ← pow-add 2 c e, ← pow-add 2 (c + e) b)
    (ap (λ n. 2 ^ n) (omega arith))

pub two_to-add : (j k : ℤ) → two_to (j +ℤ k) ≡ two_to j *ℚ two_to k
unfolding two_to
two_to-add j k = sound {r = Same} {b =
    mul_ratio (record { plus = 2 ^ up j; minus = 0; den = 2 ^ down j; positive = pow_pos (down j) })
    (record { plus = 2 ^ up k; minus = 0; den = 2 ^ down k; positive = pow_pos (down k) })} (omega (
      arith,
      exponents (up (j +ℤ k)) (down (j +ℤ k)) (up j) (down j) (up k) (down k)
          (omega (arith, sum_is_lem j k)),
    )) ∙ sym (mul-mk _ _)

pub whole-le : (a b : ℤ) → a ≤ℤ b → whole a ≤ℚ whole b
unfolding whole
whole-le a b h = le_in _ _ (omega (arith, ints))

pub whole-le_out : (a b : ℤ) → whole a ≤ℚ whole b → a ≤ℤ b
unfolding whole
whole-le_out a b h = let p = le_out _ _ h in omega (arith, ints)

pub whole-lt : (a b : ℤ) → a <ℤ b → whole a <ℚ whole b
whole-lt a b h =
    lt_by (whole a) (whole b) (λ k. let p = whole-le_out b a k in absurd (omega (arith, ints)))

pub zero-whole : zero_ℚ ≡ whole (pos 0)
unfolding zero_ℚ whole
zero-whole = sound {r = Same} refl

pub one-whole : one_ℚ ≡ whole (pos 1)
unfolding one_ℚ whole
one-whole = sound {r = Same} refl

pub two_to-positive : (k : ℤ) → zero_ℚ <ℚ two_to k
unfolding zero_ℚ two_to
two_to-positive k =
    lt_by zero_ℚ (two_to k) (λ h. let p = le_out _ _ h in absurd (omega (arith, pow_pos (up k))))

pub two_to-pos : (k : ℕ) → two_to (pos k) ≡ whole (pos (2 ^ k))
unfolding two_to whole
two_to-pos k = sound {r = Same} (omega arith)

pub scaled-le : (m n e : ℤ) → m ≤ℤ n → scaled m e ≤ℚ scaled n e
scaled-le m n e h = rw (mul_comm (whole m) (two_to e), mul_comm (whole n) (two_to e)) (mul-le
    (two_to e) (whole m) (whole n) (lt_le zero_ℚ (two_to e) (two_to-positive e)) (whole-le m n h))

pub scaled-le_out : (m n e : ℤ) → scaled m e ≤ℚ scaled n e → m ≤ℤ n
scaled-le_out m n e h = whole-le_out m n (mul-le_cancel (two_to e) (whole m) (whole n)
    (two_to-positive e) (rw (mul_comm (whole m) (two_to e), mul_comm (whole n) (two_to e)) at h))

pub scaled-lt_out : (m n e : ℤ) → scaled m e <ℚ scaled n e → m <ℤ n
scaled-lt_out m n e h =
    by_lt_z m n (λ l. l) (λ l. absurd (lt_not (scaled m e) (scaled n e) h (scaled-le n m e l)))

pub scaled-lt : (m n e : ℤ) → m <ℤ n → scaled m e <ℚ scaled n e
scaled-lt m n e h = lt_by (scaled m e) (scaled n e) (λ k. let p = scaled-le_out n m e k in
    absurd (omega (arith, ints)))

-- m * 2^(e + k) is (m * 2^k) * 2^e
pub scaled-shift : (m e : ℤ) (k : ℕ) → scaled m (e +ℤ pos k) ≡ scaled (m *ℤ pos (2 ^ k)) e
scaled-shift m e k = rw (
  two_to-add e (pos k),
  mul_comm (two_to e) (two_to (pos k)),
  two_to-pos k,
  whole-mul m (pos (2 ^ k)),
) (sym (mul_assoc (whole m) (whole (pos (2 ^ k))) (two_to e)))

pub scaled-zero : (e : ℤ) → scaled (pos 0) e ≡ zero_ℚ
scaled-zero e = ap (λ x. x *ℚ two_to e) (sym zero-whole) ∙ zero-mul (two_to e)

-- ---- the floor: whole (floor x) <= x < whole (floor x + 1), and nothing else has this
pub floor_low : (x : Fraction) → whole (floor_ℚ x) ≤ℚ x
unfolding whole
floor_low = by_ratio (λ x. whole (floor_ℚ x) ≤ℚ x)
    (λ x. Le-prop (whole (floor_ℚ x)) x) (λ a. le_in (record {
      plus = up (floor_ℚ (of_ratio a));
      minus = down (floor_ℚ (of_ratio a));
      den = 1;
      positive = lit< tt;
    }) a (let f = floor_law a in omega (arith, f.0)))

pub floor_high : (x : Fraction) → x <ℚ whole (floor_ℚ x +ℤ pos 1)
unfolding whole
floor_high =
    by_ratio (λ x. x <ℚ whole (floor_ℚ x +ℤ pos 1)) (λ x. Lt-prop x (whole (floor_ℚ x +ℤ pos 1)))
    (λ a. lt_by (of_ratio a) (whole (floor_ℚ (of_ratio a) +ℤ pos 1)) (λ k. let p = le_out (record {
      plus = up (floor_ℚ (of_ratio a) +ℤ pos 1);
      minus = down (floor_ℚ (of_ratio a) +ℤ pos 1);
      den = 1;
      positive = lit< tt;
    }) a k in let f = floor_law a in
    absurd (omega (
      arith,
      p,
      f.1,
      ap (λ n. n * a.den) (sum_is_lem (floor_ℚ (of_ratio a)) (pos 1)),
    ))))

pub floor_unique : (x : Fraction) (z : ℤ) → whole z ≤ℚ x → x <ℚ whole (z +ℤ pos 1) → floor_ℚ x ≡ z
floor_unique x z h k =
    let a : floor_ℚ x <ℤ (z +ℤ pos 1) = by_lt_z (floor_ℚ x) (z +ℤ pos 1)
    (λ l. l) (λ l. absurd (lt_not x (whole (z +ℤ pos 1)) k (le_trans (whole (z +ℤ pos 1))
    (whole (floor_ℚ x)) x (whole-le (z +ℤ pos 1) (floor_ℚ x) l) (floor_low x)))) in
    let b : z <ℤ (floor_ℚ x +ℤ pos 1) = by_lt_z z (floor_ℚ x +ℤ pos 1)
    (λ l. l) (λ l. absurd (lt_not x (whole (floor_ℚ x +ℤ pos 1)) (floor_high x)
    (le_trans (whole (floor_ℚ x +ℤ pos 1)) (whole z) x (whole-le (floor_ℚ x +ℤ pos 1) z l) h))) in
    omega (arith, ints)

-- ---- sums and equal numbers
pub scaled-same : (m n e : ℤ) → scaled m e ≡ scaled n e → m ≡ n
scaled-same m n e p =
    let a : m ≤ℤ n = scaled-le_out m n e (subst (λ y. scaled m e ≤ℚ y) p (le_refl (scaled m e))) in
    let b : n ≤ℤ m = scaled-le_out n m e (subst (λ y. y ≤ℚ scaled m e) p (le_refl (scaled m e))) in
    omega (arith, ints)
