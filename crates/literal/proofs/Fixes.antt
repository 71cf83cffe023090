-- The powers of two that divide a normal literal.
use Rattle.std.proofs.Common.{◌≡◌, ◌⊎◌, ℕ, ◌+◌, ◌*◌, ◌/◌, ◌%◌, ◌^◌, ◌<◌, ◌≤◌, ℤ, pos, negsuc, ◌+ℤ◌}
use Rattle.std.proofs.Common.{◌-ℤ◌, ◌≤ℤ◌, ◌<ℤ◌, true, false, true≢false, sym, ap, subst, ◌∙◌, arith}
use Rattle.std.proofs.Common.{⊎_elim, inl, inr, lit<}
use Rattle.std.specs.Int.RustNames.{unsigned_abs}
use Rattle.std.proofs.lemmas.Int.{ints}
use Rattle.std.specs.Int.{trailing_zeros, w128}
use Rattle.std.proofs.lemmas.Nat.{div-add-mod'}
use Rattle.std.proofs.lemmas.Nat.Bits.{bit_at-trailing_zeros}
use Rattle.std.proofs.lemmas.Bool.{cases_lt}
use Rattle.std.proofs.Math.Nat.{pow-le-pow_right}
use Rattle.fx_model.specs.Powers.{scaled-zero, IsMultiple}
use Rattle.fx_model.specs.Expression.{literal_value}
use Rattle.fx_model.specs.declared.Literal.{Literal}
use Rattle.literal.specs.Normal.{HasFives, IsCapped, IsNormal, IsFix, HasNoFix}
use Rattle.literal.proofs.Limits.{bounded}
use Rattle.literal.proofs.Tens.{zero_value}
use Rattle.literal.proofs.Numbers.{twos_are}
use Rattle.literal.proofs.Multiples.{fix_is, odd_mul, five_odd, odd_divides, value_whole}
use Rattle.literal.proofs.Multiples.{value_part, multiple_by_five}

-- ---- zero
pub fix_zero : (l : Literal) → l.num ≡ 0 → IsFix l (pos 512)
fix_zero l h = record {
  within = (omega (arith, ints), omega (arith, ints));
  multiple = (pos 0, zero_value l h ∙ sym (scaled-zero (pos 512)));
  greatest = λ j k m. k;
}

-- ---- the others
odd_factor : (p o : ℕ) → p % 2 ≡ 1 → (p * o) % 2 ≡ 1 → o % 2 ≡ 1
odd_factor p o h k = ⊎_elim (λ t. absurd (even t)) (λ t. omega arith) (cases_lt (o % 2) 1)
  where
    twice : (p q : ℕ) → p * (2 * q) ≡ 2 * (p * q)
    twice p q = omega arith

    even : o % 2 < 1 → ⊥
    even t =
        let a : o ≡ 2 * (o / 2) = omega arith in
        let b : p * o ≡ 2 * (p * (o / 2)) = ap (λ n. p * n) a ∙ twice p (o / 2) in
        omega arith

module _ (num t : ℕ) (whole : num ≡ num / 2 ^ t * 2 ^ t) (odd : num / 2 ^ t % 2 ≡ 1) where
  -- the odd part, with the factors of five taken out
  five_out : (d s : ℕ) → num ≡ 5 ^ d * s → (o : ℕ) × (o % 2 ≡ 1) × (num ≡ (o * 5 ^ d) * 2 ^ t)
  five_out d s e =
      let q = odd_divides t (5 ^ d) (num / 2 ^ t) s (five_odd d) (sym whole ∙ e) in (
        q.0,
        odd_factor (5 ^ d) q.0 (five_odd d) (ap (λ n. n % 2) (sym q.1) ∙ odd),
        whole ∙ ap (λ n. n * 2 ^ t) (q.1 ∙ turned (5 ^ d) q.0),
      )
    where
      turned : (a b : ℕ) → a * b ≡ b * a
      turned a b = omega arith

  pub fix_at : (two ten r : ℤ) → (ten ≡ pos 0) ⊎ (two ≡ pos 0)
      → negsuc 600 ≤ℤ two → negsuc 60 ≤ℤ ten → (ten <ℤ pos 0 → num % 5 ^ unsigned_abs ten ≡ 0)
      → IsCapped ((pos t +ℤ two) +ℤ ten) r → IsFix (record { num = num; two = two; ten = ten }) r
  fix_at two (pos d) r a low lowten f c =
      let k : (pos t +ℤ two) +ℤ pos d ≡ two +ℤ pos (t + d) = omega (arith, ints) in
      fix_is (record { num = num; two = two; ten = pos d }) (num / 2 ^ t * 5 ^ d)
      (two +ℤ pos (t + d)) r (odd_mul (num / 2 ^ t) (5 ^ d) odd (five_odd d)) (value_whole num
      (num / 2 ^ t) t d two whole) (omega (arith, ints)) (subst (λ z. IsCapped z r) k c)
  fix_at two (negsuc d) r (inl e) low lowten f c = absurd (omega (arith, ints))
  fix_at two (negsuc d) r (inr e) low lowten f c =
      let g : num % 5 ^ (d + 1) ≡ 0 = ap (λ n. num % 5 ^ n) (counted d) ∙ f (omega (arith, ints)) in
      let s : num ≡ 5 ^ (d + 1) * (num / 5 ^ (d + 1)) =
      omega (arith, div-add-mod' num (5 ^ (d + 1))) in
      let o = five_out (d + 1) (num / 5 ^ (d + 1)) s in
      let k : (pos t +ℤ two) +ℤ negsuc d ≡ pos t -ℤ pos (d + 1) = omega (arith, ints) in
      subst (λ z. IsFix (record { num = num; two = z; ten = negsuc d }) r) (sym e)
      (fix_is (record { num = num; two = pos 0; ten = negsuc d }) o.0 (pos t -ℤ pos (d + 1)) r o.1
      (value_part num d o.0 t o.2) (omega (arith, ints)) (subst (λ z. IsCapped z r) k c))
    where
      counted : (d : ℕ) → d + 1 ≡ unsigned_abs (negsuc d)
      counted d = omega (arith, ints)

pub no_fix_at : (num : ℕ) (two ten : ℤ) → (ten ≡ pos 0) ⊎ (two ≡ pos 0) → ten <ℤ pos 0
    → (num % 5 ^ unsigned_abs ten ≡ 0 → ⊥) → HasNoFix (record { num = num; two = two; ten = ten })
no_fix_at num two (pos d) a h n = absurd (omega (arith, ints))
no_fix_at num two (negsuc d) (inl e) h n = absurd (omega (arith, ints))
no_fix_at num two (negsuc d) (inr e) h n =
    λ k low m. n (ap (λ i. num % 5 ^ i) (counted d) ∙ multiple_by_five num d k
    (subst (λ z. IsMultiple k (literal_value (record { num = num; two = z; ten = negsuc d }))) e m))
  where
    counted : (d : ℕ) → unsigned_abs (negsuc d) ≡ d + 1
    counted d = omega (arith, ints)

pub five_fits : (n : ℕ) → n ≤ 30 → 5 ^ n < 2 ^ 128
five_fits n h = let b : 5 ^ n ≤ 5 ^ 30 = pow-le-pow_right {n = 5} (lit< tt) h in omega arith

-- an answer is given, so there is one
pub is_some : (l : Literal) (r : ℤ) (X : Type 0) → IsFix l r
    → (true ≡ false → X) × (HasNoFix l → true ≡ false)
is_some l r X f = (λ e. absurd (true≢false e), λ n. absurd (n r f.within.0 f.multiple))

pub fix_found : (l : Literal) → IsNormal l → 0 < l.num → l.num < 2 ^ 128 → HasFives l.num l.ten
    → (place r : ℤ) → place ≡ (pos (trailing_zeros w128 l.num) +ℤ l.two) +ℤ l.ten
    → IsCapped place r → IsFix l r
fix_found l n h k f place r e c =
    let b = bounded l n in
    let t = bit_at-trailing_zeros w128 l.num h k in
    let low = b.two_low in
    let lowten = b.ten_low in
    fix_at l.num (trailing_zeros w128 l.num)
    (twos_are l.num (trailing_zeros w128 l.num) t.2) t.1 l.two l.ten r b.apart (omega (arith, ints))
    (omega (arith, ints)) f (subst (λ z. IsCapped z r) e c)

-- no fives, no power
apart_at : (num : ℕ) (two ten : ℤ) → (ten ≡ pos 0) ⊎ (two ≡ pos 0) → ¬ HasFives num ten
    → HasNoFix (record { num = num; two = two; ten = ten })
apart_at num two (pos d) a n = absurd (n (λ h. absurd (omega (arith, ints))))
apart_at num two (negsuc d) a n =
    no_fix_at num two (negsuc d) a (omega (arith, ints)) (λ e. n (λ h. e))

pub no_fix : (l : Literal) → IsNormal l → 0 < l.num → ¬ HasFives l.num l.ten → HasNoFix l
no_fix l n h f = apart_at l.num l.two l.ten (bounded l n).apart f

pub fives_of_whole : (num : ℕ) (ten : ℤ) → pos 0 ≤ℤ ten → HasFives num ten
fives_of_whole num ten h = λ k. absurd (omega (arith, ints))
