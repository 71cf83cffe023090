-- Which powers of two divide a number.
use Rattle.std.proofs.Common.{◌≡◌, ℕ, zero, suc, ◌+◌, ◌*◌, ◌/◌, ◌%◌, ◌^◌, ◌<◌, ℤ, pos, negsuc, ◌+ℤ◌}
use Rattle.std.proofs.Common.{◌-ℤ◌, ◌*ℤ◌, ◌≤ℤ◌, refl, sym, ap, ap₂, subst, ◌∙◌, arith, ⊎_elim}
use Rattle.std.proofs.lemmas.Int.{ints, by_lt_z}
use Rattle.std.proofs.Math.Nat.{pow-succ'}
use Rattle.std.proofs.lemmas.Nat.{pow-add, mul-pow, mul-mod, mod-mul-add}
use Rattle.fx_model.specs.Fraction.{◌*ℚ◌, ◌<ℚ◌, zero_ℚ, inverse_ℚ, mul-inverse, mul_comm, mul_assoc}
use Rattle.fx_model.proofs.Fraction.{mul_cancel, mul-one}
use Rattle.fx_model.specs.Powers.{whole, two_to, scaled, scaled-shift, whole-mul, IsMultiple}
use Rattle.fx_model.specs.Powers.{scaled-same}
use Rattle.fx_model.specs.Expression.{literal_value}
use Rattle.fx_model.specs.Cut.Gaps.{gap_le}
use Rattle.fx_model.specs.declared.Literal.{Literal}
use Rattle.literal.specs.Normal.{IsFix, IsCapped}
use Rattle.literal.proofs.Tens.{whole_positive, pow_positive, not_zero}

-- ---- an odd number times 2^k is a multiple of 2^j where j is at most k, and of no other
no_half : (o : ℕ) (z : ℤ) → pos o ≡ z *ℤ pos 2 → o % 2 ≡ 1 → ⊥
no_half o (pos n) h k = let e : o ≡ n * 2 = cc in omega arith
no_half o (negsuc n) h k = omega (arith, ints)

pub multiple_least : (o : ℕ) (k j m : ℤ) → o % 2 ≡ 1 → scaled (pos o) k ≡ scaled m j → j ≤ℤ k
multiple_least o k j m odd h =
    by_lt_z k j (λ l. absurd (above (gap_le (k +ℤ pos 1) j (omega (arith, ints))))) (λ l. l)
  where
    above : ((s : ℕ) × (j ≡ (k +ℤ pos 1) +ℤ pos s)) → ⊥
    above g = no_half o (m *ℤ pos (2 ^ g.0))
        (scaled-same (pos o) ((m *ℤ pos (2 ^ g.0)) *ℤ pos 2) k (h ∙ ap (scaled m) g.1
        ∙ scaled-shift m (k +ℤ pos 1) g.0 ∙ scaled-shift (m *ℤ pos (2 ^ g.0)) k 1)) odd

pub multiple_below : (o : ℕ) (k j : ℤ) → j ≤ℤ k → IsMultiple j (scaled (pos o) k)
multiple_below o k j h = let g = gap_le j k h in
    (pos o *ℤ pos (2 ^ g.0), ap (scaled (pos o)) g.1 ∙ scaled-shift (pos o) j g.0)

pub fix_is : (l : Literal) (o : ℕ) (k r : ℤ) → o % 2 ≡ 1 → literal_value l ≡ scaled (pos o) k
    → negsuc 1023 ≤ℤ k → IsCapped k r → IsFix l r
fix_is l o k r odd v low c = record {
  within = ⊎_elim (λ a. let p = a.0 in let q = a.1 in (omega (arith, ints), omega (arith, ints)))
      (λ a. let p = a.0 in (omega (arith, ints), omega (arith, ints))) c;
  multiple = subst (IsMultiple r) (sym v) (multiple_below o k r (⊎_elim (λ a. let p = a.0 in
      omega (arith, ints)) (λ a. let p = a.0 in let q = a.1 in omega (arith, ints)) c));
  greatest = λ j h m. let t : j ≤ℤ k = multiple_least o k j m.0 odd (sym v ∙ m.1) in
      ⊎_elim (λ a. let p = a.0 in omega (arith, ints)) (λ a. let p = a.0 in omega (arith, ints)) c;
}

-- ---- odd numbers
pub odd_mul : (a b : ℕ) → a % 2 ≡ 1 → b % 2 ≡ 1 → (a * b) % 2 ≡ 1
odd_mul a b h k = mul-mod a b 2 ∙ ap₂ (λ (x y : ℕ). (x * y) % 2) h k

pub five_odd : (d : ℕ) → 5 ^ d % 2 ≡ 1
five_odd zero = omega arith
five_odd (suc d) = let e : 5 ^ suc d ≡ 5 * 5 ^ d = pow-succ' 5 d in
    ap (λ n. n % 2) e ∙ odd_mul 5 (5 ^ d) refl (five_odd d)

halved : (p h n q q' r : ℕ) → p ≡ 2 * h + 1 → q ≡ 2 * q' + r → r < 2 → n * 2 ≡ p * q → n ≡ p * q'
halved p h n q q' zero a b c e =
    let f : p * q ≡ p * (2 * q') = ap (λ z. p * z) (b ∙ z q') in omega arith
  where
    z : (q' : ℕ) → 2 * q' + 0 ≡ 2 * q'
    z q' = omega arith
halved p h n q q' (suc zero) a b c e =
    let f : p * q ≡ (2 * h + 1) * (2 * q' + 1) = ap₂ (λ (x y : ℕ). x * y) a b in
    absurd (omega arith)
halved p h n q q' (suc (suc r)) a b c e = absurd (omega arith)

-- an odd divisor of n * 2^b divides n
pub odd_divides : (b p n q : ℕ) → p % 2 ≡ 1 → n * 2 ^ b ≡ p * q → (s : ℕ) × (n ≡ p * s)
odd_divides zero p n q h e = (q, omega arith)
odd_divides (suc b) p n q h e =
    let t : (n * 2) * 2 ^ b ≡ p * q = twice ∙ e in
    let i = odd_divides b p (n * 2) q h t in (
      i.0 / 2,
      halved p (p / 2) n i.0 (i.0 / 2) (i.0 % 2) (omega arith) (omega arith) (omega arith) i.1,
    )
  where
    twice : (n * 2) * 2 ^ b ≡ n * 2 ^ suc b
    twice = omega (arith, ap (λ m. n * m) (pow-succ' 2 b))

pub divided : (p s : ℕ) → 0 < p → (p * s) % p ≡ 0
divided p s h = ap (λ n. n % p) (turn p s) ∙ mod-mul-add s p 0 h
  where
    turn : (p s : ℕ) → p * s ≡ s * p + 0
    turn p s = omega arith

-- ---- the value, with no power of ten below zero
pub value_whole : (num o t d : ℕ) (two : ℤ)
    → num ≡ o * 2 ^ t → literal_value (record { num = num; two = two; ten = pos d })
    ≡ scaled (pos (o * 5 ^ d)) (two +ℤ pos (t + d))
value_whole num o t d two h = joined ∙ ap (λ n. scaled (pos n) two) (numbers num o t d h)
    ∙ sym (scaled-shift (pos (o * 5 ^ d)) two (t + d))
  where
    joined : (whole (pos num) *ℚ two_to two) *ℚ whole (pos (10 ^ d))
        ≡ scaled (pos (num * 10 ^ d)) two
    joined = mul_assoc (whole (pos num)) (two_to two) (whole (pos (10 ^ d)))
        ∙ ap (λ y. whole (pos num) *ℚ y) (mul_comm (two_to two) (whole (pos (10 ^ d))))
        ∙ sym (mul_assoc (whole (pos num)) (whole (pos (10 ^ d))) (two_to two))
        ∙ ap (λ y. y *ℚ two_to two) (sym (whole-mul (pos num) (pos (10 ^ d))))

    turned : (a b c d : ℕ) → (a * b) * (c * d) ≡ (a * c) * (b * d)
    turned a b c d = omega arith

    numbers : (num o t d : ℕ) → num ≡ o * 2 ^ t → num * 10 ^ d ≡ (o * 5 ^ d) * 2 ^ (t + d)
    numbers num o t d h =
        let a : 10 ^ d ≡ 5 ^ d * 2 ^ d = mul-pow 5 2 d in
        let b : 2 ^ (t + d) ≡ 2 ^ t * 2 ^ d = pow-add 2 t d in
        ap₂ (λ (x y : ℕ). x * y) h a ∙ turned o (2 ^ t) (5 ^ d) (2 ^ d)
        ∙ ap (λ x. (o * 5 ^ d) * x) (sym b)

-- ---- with one: 10^d times the value is the number
module _ (num d : ℕ) where
  abbrev part : Literal
  part = record { num = num; two = pos 0; ten = negsuc d }

  power_positive : zero_ℚ <ℚ whole (pos (10 ^ (d + 1)))
  power_positive = whole_positive (10 ^ (d + 1)) (pow_positive 10 (d + 1) (omega arith))

  pub part_times : whole (pos (10 ^ (d + 1))) *ℚ literal_value part ≡ scaled (pos num) (pos 0)
  part_times = mul_comm (whole (pos (10 ^ (d + 1)))) (literal_value part)
      ∙ mul_assoc (scaled (pos num) (pos 0)) (inverse_ℚ (whole (pos (10 ^ (d + 1)))))
      (whole (pos (10 ^ (d + 1))))
      ∙ ap (λ y. scaled (pos num) (pos 0) *ℚ y) (mul_comm (inverse_ℚ (whole (pos (10 ^ (d + 1)))))
      (whole (pos (10 ^ (d + 1)))) ∙ mul-inverse (whole (pos (10 ^ (d + 1))))
      (not_zero (whole (pos (10 ^ (d + 1)))) power_positive)) ∙ mul-one (scaled (pos num) (pos 0))

  times : (m k : ℤ) → whole (pos (10 ^ (d + 1))) *ℚ scaled m k ≡ scaled (pos (10 ^ (d + 1)) *ℤ m) k
  times m k = sym (mul_assoc (whole (pos (10 ^ (d + 1)))) (whole m) (two_to k))
      ∙ ap (λ y. y *ℚ two_to k) (sym (whole-mul (pos (10 ^ (d + 1))) m))

  pub value_part : (o t : ℕ) → num ≡ (o * 5 ^ (d + 1)) * 2 ^ t
      → literal_value part ≡ scaled (pos o) (pos t -ℤ pos (d + 1))
  value_part o t h = mul_cancel (whole (pos (10 ^ (d + 1)))) (literal_value part)
      (scaled (pos o) (pos t -ℤ pos (d + 1))) power_positive (part_times ∙ sym right)
    where
      numbers : 10 ^ (d + 1) * o ≡ (o * 5 ^ (d + 1)) * 2 ^ (d + 1)
      numbers = ap (λ n. n * o) (mul-pow 5 2 (d + 1)) ∙ turned (5 ^ (d + 1)) (2 ^ (d + 1)) o
        where
          turned : (a b c : ℕ) → (a * b) * c ≡ (c * a) * b
          turned a b c = omega arith

      raised : (pos t -ℤ pos (d + 1)) +ℤ pos (d + 1) ≡ pos 0 +ℤ pos t
      raised = omega (arith, ints)

      right : whole (pos (10 ^ (d + 1))) *ℚ scaled (pos o) (pos t -ℤ pos (d + 1))
          ≡ scaled (pos num) (pos 0)
      right = times (pos o) (pos t -ℤ pos (d + 1))
          ∙ ap (λ n. scaled (pos n) (pos t -ℤ pos (d + 1))) numbers
          ∙ sym (scaled-shift (pos (o * 5 ^ (d + 1))) (pos t -ℤ pos (d + 1)) (d + 1))
          ∙ ap (scaled (pos (o * 5 ^ (d + 1)))) raised ∙ scaled-shift (pos (o * 5 ^ (d + 1)))
          (pos 0) t ∙ ap (λ n. scaled (pos n) (pos 0)) (sym h)

  -- a multiple of a power of two has all factors of five in its number
  by_five : (b : ℕ) (z : ℤ) → pos (num * 2 ^ b) ≡ pos (10 ^ (d + 1)) *ℤ z → num % 5 ^ (d + 1) ≡ 0
  by_five b (negsuc n) h =
      let a : 0 < 10 ^ (d + 1) * suc n = grind (arith, pow_positive 10 (d + 1)) in
      absurd (omega (arith, ints))
  by_five b (pos n) h =
      let e : num * 2 ^ b ≡ 10 ^ (d + 1) * n = cc in
      let f : num * 2 ^ b ≡ 5 ^ (d + 1) * (2 ^ (d + 1) * n) =
      e ∙ ap (λ m. m * n) (mul-pow 5 2 (d + 1)) ∙ grouped (5 ^ (d + 1)) (2 ^ (d + 1)) n in
      let s = odd_divides b (5 ^ (d + 1)) num (2 ^ (d + 1) * n) (five_odd (d + 1)) f in
      ap (λ m. m % 5 ^ (d + 1)) s.1
      ∙ divided (5 ^ (d + 1)) s.0 (pow_positive 5 (d + 1) (omega arith))
    where
      grouped : (a b c : ℕ) → (a * b) * c ≡ a * (b * c)
      grouped a b c = omega arith

  level : (m k : ℤ) → literal_value part ≡ scaled m k
      → scaled (pos num) (pos 0) ≡ scaled (pos (10 ^ (d + 1)) *ℤ m) k
  level m k h = sym part_times ∙ ap (λ y. whole (pos (10 ^ (d + 1))) *ℚ y) h ∙ times m k

  pub multiple_by_five : (k : ℤ) → IsMultiple k (literal_value part) → num % 5 ^ (d + 1) ≡ 0
  multiple_by_five (pos a) m =
      let z : pos a ≡ pos 0 +ℤ pos a = omega (arith, ints) in
      let v : literal_value part ≡ scaled (m.0 *ℤ pos (2 ^ a)) (pos 0) =
      m.1 ∙ ap (scaled m.0) z ∙ scaled-shift m.0 (pos 0) a in
      by_five 0 (m.0 *ℤ pos (2 ^ a)) (one num ∙ scaled-same (pos num)
      (pos (10 ^ (d + 1)) *ℤ (m.0 *ℤ pos (2 ^ a))) (pos 0) (level (m.0 *ℤ pos (2 ^ a)) (pos 0) v))
    where
      one : (n : ℕ) → pos (n * 2 ^ 0) ≡ pos n
      one n = ap pos (omega arith)
  multiple_by_five (negsuc b) m =
      let z : pos 0 ≡ negsuc b +ℤ pos (b + 1) = omega (arith, ints) in
      by_five (b + 1) m.0 (scaled-same (pos (num * 2 ^ (b + 1))) (pos (10 ^ (d + 1)) *ℤ m.0)
      (negsuc b) (sym (scaled-shift (pos num) (negsuc b) (b + 1)) ∙ ap (scaled (pos num)) (sym z)
      ∙ level m.0 (negsuc b) m.1))
