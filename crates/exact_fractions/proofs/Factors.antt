-- Products in lowest terms: each numerator without its common divisor with the other denominator.
use mathlib.Core.Quot.{sound}
use lib.IntN.{neg_ℤ}
use borrow.Author.Differences.{up, down, neg_is, product_is, same_in}
use Rattle.std.specs.Prelude.{◌≡◌, ℕ, ℤ, pos, negsuc, int_lt, ◌*ℤ◌, ◌≤ℤ◌, ◌+◌, ◌≤◌, ◌*◌, ◌/◌, ◌<◌}
use Rattle.std.specs.Prelude.{Bool, true, false, refl}
use Rattle.std.specs.Int.{IsGcd, ◌∣◌}
use Rattle.std.specs.Int.RustNames.{unsigned_abs}
use Rattle.std.proofs.Common.{arith, sym, ap, ◌∙◌, subst, suc, zero}
use Rattle.std.proofs.lemmas.Int.{ints, unsigned_abs-mul}
use Rattle.std.proofs.lemmas.Nat.Gcd.{dvd_trans, IsGcd-swap}
use Rattle.std.proofs.Math.Nat.{div-mul_cancel, dvd-mul_right, mul-pos, one-dvd, mul-le-mul_right}
use Rattle.fx_model.specs.Fraction.{Same, Fraction, of_ratio, ◌*ℚ◌, inverse_ℚ, neg_ℚ, zero_ℚ, one_ℚ}
use Rattle.fx_model.specs.Fraction.{mul_ratio, mul-mk, mul_comm, mul_assoc, one-mul, mul-inverse}
use Rattle.fx_model.specs.Fraction.{neg-mul, zero-mul, le_refl, ◌≤ℚ◌, abs_ℚ, abs-from, abs-below}
use Rattle.fx_model.specs.Fraction.{le_in, lt_by}
use Rattle.fx_model.specs.Powers.{whole, whole-neg, zero-whole}
use Rattle.exact_fractions.specs.declared.exact.Exact.{Exact}
use Rattle.exact_fractions.specs.Divisors.{gcd, gcd_is, gcd_positive, AreCoprime, divides_other}
use Rattle.exact_fractions.specs.Divisors.{cofactors}
use Rattle.exact_fractions.proofs.Divisors.{gcd_of}
use Rattle.exact_fractions.specs.Reduced.{numerator, denominator, over, signed_number, cofactor}
use Rattle.exact_fractions.specs.Reduced.{IsLowest, IsSmall}
use Rattle.exact_fractions.proofs.Lowest.{lowest_ratio, over-mk, numerator-over, denominator-over}
use Rattle.exact_fractions.proofs.Lowest.{quotient_positive, unsigned_abs-signed, reduced_small}
use Rattle.exact_fractions.proofs.Lowest.{over_reduced}
use Rattle.exact_fractions.specs.Exact.{value_of}
use Rattle.exact_fractions.proofs.Numbers.{over-cancel, over-le_out, num_is, den_is}

-- ---- no common divisor but 1
pub coprime_parts : (a b p q : ℕ) → AreCoprime a b → p ∣ a → q ∣ b → AreCoprime p q
coprime_parts a b p q h i j =
    (one-dvd p, one-dvd q, (λ c k l. h.2 c (dvd_trans c k i) (dvd_trans c l j)))

pub coprime_product : (a b c : ℕ) → AreCoprime a c → AreCoprime b c → AreCoprime (a * b) c
coprime_product a b c h k = (
  one-dvd (a * b),
  one-dvd c,
  (λ d i j.
      k.2 d (divides_other a b d
      (coprime_parts a c a d h (subst (λ n. a ∣ n) (by_one a) (dvd-mul_right a 1)) j) i) j),
)
  where
    by_one : (n : ℕ) → n * 1 ≡ n
    by_one n = omega arith

coprime_products : (a b c d : ℕ) → AreCoprime a c → AreCoprime a d → AreCoprime b c → AreCoprime b d
    → AreCoprime (a * b) (c * d)
coprime_products a b c d p q r s =
    IsGcd-swap (c * d) (a * b) 1
    (coprime_product c d (a * b) (IsGcd-swap (a * b) c 1 (coprime_product a b c p r))
    (IsGcd-swap (a * b) d 1 (coprime_product a b d q s)))

part_divides : (n g : ℕ) → g ∣ n → n / g ∣ n
part_divides n g h = subst (λ m. n / g ∣ m) (div-mul_cancel g h) (dvd-mul_right (n / g) g)

pub of_gcd : (a b : ℕ) → gcd a b ≡ 1 → AreCoprime a b
of_gcd a b e = subst (λ k. IsGcd a b k) e (gcd_is a b)

-- ---- whole numbers without a divisor
pub cofactor_size : (n : ℤ) (g : ℕ) → unsigned_abs (cofactor n g) ≡ unsigned_abs n / g
cofactor_size n g = unsigned_abs-signed (int_lt n (pos 0)) (unsigned_abs n / g)

cofactor_times : (n : ℤ) (g : ℕ) → g ∣ unsigned_abs n → cofactor n g *ℤ pos g ≡ n
cofactor_times (pos k) g h = by (int_lt (pos k) (pos 0)) (from k)
  where
    from : (k : ℕ) → int_lt (pos k) (pos 0) ≡ false
    from k = grind (arith, ints)

    by : (t : Bool) → t ≡ false → signed_number t (k / g) *ℤ pos g ≡ pos k
    by false e = ap pos (div-mul_cancel g h)
    by true e = absurd (cc)
cofactor_times (negsuc k) g h = by (int_lt (negsuc k) (pos 0)) (under k)
  where
    under : (k : ℕ) → int_lt (negsuc k) (pos 0) ≡ true
    under k = grind (arith, ints)

    by : (t : Bool) → t ≡ true → signed_number t (suc k / g) *ℤ pos g ≡ negsuc k
    by false e = absurd (cc)
    by true e = let m = neg_is (pos (suc k / g)) in let p =
        product_is (neg_ℤ (pos (suc k / g))) (pos g) in let q = div-mul_cancel g h in
        same_in (neg_ℤ (pos (suc k / g)) *ℤ pos g) (negsuc k)
        (rw (p.0, p.1, m.0, m.1) (omega (arith, q)))

-- ---- products
pub over_mul : (n m : ℤ) (d e : ℕ) → 0 < d → 0 < e → over n d *ℚ over m e ≡ over (n *ℤ m) (d * e)
over_mul n m d e p q = ap (λ x. x *ℚ over m e) (over-mk n d p)
    ∙ ap (λ y. of_ratio (lowest_ratio n d p) *ℚ y) (over-mk m e q)
    ∙ mul-mk (lowest_ratio n d p) (lowest_ratio m e q)
    ∙ sound {r = Same} {a = mul_ratio (lowest_ratio n d p) (lowest_ratio m e q)} {b =
    lowest_ratio (n *ℤ m) (d * e) (mul-pos p q)} (let r = product_is n m in
    rw (r.0, r.1) (omega arith)) ∙ sym (over-mk (n *ℤ m) (d * e) (mul-pos p q))

factors_out : (a b : ℤ) (g h : ℕ) → (a *ℤ pos g) *ℤ (b *ℤ pos h) ≡ (a *ℤ b) *ℤ pos (g * h)
factors_out a b g h =
    let p = product_is a (pos g) in let q = product_is b (pos h) in let r =
    product_is (a *ℤ pos g) (b *ℤ pos h) in let s = product_is a b in let t =
    product_is (a *ℤ b) (pos (g * h)) in
    same_in ((a *ℤ pos g) *ℤ (b *ℤ pos h)) ((a *ℤ b) *ℤ pos (g * h))
    (rw (r.0, r.1, t.0, t.1, p.0, p.1, q.0, q.1, s.0, s.1) (omega arith))

-- the numbers of n / d times m / e
abbrev top : (n m : ℤ) (d e : ℕ) → ℤ
top n m d e = cofactor n (gcd (unsigned_abs n) e) *ℤ cofactor m (gcd (unsigned_abs m) d)

abbrev bottom : (n m : ℤ) (d e : ℕ) → ℕ
bottom n m d e = (d / gcd (unsigned_abs m) d) * (e / gcd (unsigned_abs n) e)

product_lowest : (n m : ℤ) (d e : ℕ) → 0 < d → 0 < e → gcd (unsigned_abs n) d ≡ 1
    → gcd (unsigned_abs m) e ≡ 1 → IsLowest (top n m d e) (bottom n m d e)
product_lowest n m d e p q c f =
    let g : ℕ = gcd (unsigned_abs n) e in
    let h : ℕ = gcd (unsigned_abs m) d in
    let i = gcd_is (unsigned_abs n) e in
    let j = gcd_is (unsigned_abs m) d in
    record {
      positive = mul-pos (quotient_positive d h j.1 p) (quotient_positive e g i.1 q);
      coprime = ap (λ k. gcd k (bottom n m d e)) (unsigned_abs-mul (cofactor n g) (cofactor m h)
          ∙ ap (λ k. k * unsigned_abs (cofactor m h)) (cofactor_size n g)
          ∙ ap (λ k. (unsigned_abs n / g) * k) (cofactor_size m h))
          ∙ gcd_of ((unsigned_abs n / g) * (unsigned_abs m / h)) (bottom n m d e) 1
          (coprime_products (unsigned_abs n / g) (unsigned_abs m / h) (d / h) (e / g)
          (coprime_parts (unsigned_abs n) d (unsigned_abs n / g) (d / h)
          (of_gcd (unsigned_abs n) d c) (part_divides (unsigned_abs n) g i.0)
          (part_divides d h j.1))
          (cofactors (unsigned_abs n) e g (gcd_positive (unsigned_abs n) e q) i)
          (cofactors (unsigned_abs m) d h (gcd_positive (unsigned_abs m) d p) j)
          (coprime_parts (unsigned_abs m) e (unsigned_abs m / h) (e / g)
          (of_gcd (unsigned_abs m) e f) (part_divides (unsigned_abs m) h j.0)
          (part_divides e g i.1)));
    }

product_over : (n m : ℤ) (d e : ℕ) → 0 < d → 0 < e → over (top n m d e) (bottom n m d e)
    ≡ over n d *ℚ over m e
product_over n m d e p q =
    let g : ℕ = gcd (unsigned_abs n) e in
    let h : ℕ = gcd (unsigned_abs m) d in
    let i = gcd_is (unsigned_abs n) e in
    let j = gcd_is (unsigned_abs m) d in
    let u = gcd_positive (unsigned_abs n) e q in
    let v = gcd_positive (unsigned_abs m) d p in
    sym (over-cancel (top n m d e) (bottom n m d e) (g * h)
    (mul-pos (quotient_positive d h j.1 p) (quotient_positive e g i.1 q)) (mul-pos u v))
    ∙ ap (λ z. over z (bottom n m d e * (g * h)))
    (sym (factors_out (cofactor n g) (cofactor m h) g h)
    ∙ ap (λ z. z *ℤ (cofactor m h *ℤ pos h)) (cofactor_times n g i.0)
    ∙ ap (λ z. n *ℤ z) (cofactor_times m h j.0))
    ∙ ap (over (n *ℤ m)) (regroup (d / h) (e / g) g h
    ∙ ap (λ k. k * ((e / g) * g)) (div-mul_cancel h j.1)
    ∙ ap (λ k. d * k) (div-mul_cancel g i.1)) ∙ sym (over_mul n m d e p q)
  where
    regroup : (a b g h : ℕ) → (a * b) * (g * h) ≡ (a * h) * (b * g)
    regroup a b g h = omega arith

pub product_value : (x y : Exact)
    → over (top x.num y.num x.den y.den) (bottom x.num y.num x.den y.den) ≡ value_of x *ℚ value_of y
product_value x y = product_over x.num y.num x.den y.den x.small.lowest.positive
    y.small.lowest.positive

pub product_is_lowest : (x y : Exact)
    → IsLowest (top x.num y.num x.den y.den) (bottom x.num y.num x.den y.den)
product_is_lowest x y = product_lowest x.num y.num x.den y.den x.small.lowest.positive
    y.small.lowest.positive x.small.lowest.coprime y.small.lowest.coprime

pub product_top : (x y : Exact) → numerator (value_of x *ℚ value_of y) ≡ top x.num y.num x.den y.den
product_top x y = ap numerator (sym (product_value x y))
    ∙ numerator-over (top x.num y.num x.den y.den) (bottom x.num y.num x.den y.den)
    (product_is_lowest x y)

pub product_bottom : (x y : Exact) → denominator (value_of x *ℚ value_of y)
    ≡ bottom x.num y.num x.den y.den
product_bottom x y = ap denominator (sym (product_value x y))
    ∙ denominator-over (top x.num y.num x.den y.den) (bottom x.num y.num x.den y.den)
    (product_is_lowest x y)

-- ---- negatives and inverses
negative_size : (n : ℤ) → unsigned_abs (neg_ℤ n) ≡ unsigned_abs n
negative_size n = omega (arith, ints)

pub negative_small : (n : ℤ) (d : ℕ) → IsSmall n d → IsSmall (neg_ℤ n) d
negative_small n d s = record {
  lowest = record {
    positive = s.lowest.positive;
    coprime = ap (λ k. gcd k d) (negative_size n)
        ∙ s.lowest.coprime;
  };
  num = rw (negative_size n) s.num;
  den = s.den;
}

pub negative_value : (n : ℤ) (d : ℕ) → over (neg_ℤ n) d ≡ neg_ℚ (over n d)
negative_value n d = ap (λ w. w *ℚ inverse_ℚ (whole (pos d))) (whole-neg n)
    ∙ neg-mul (whole n) (inverse_ℚ (whole (pos d)))

-- what gives 1 with x is the inverse of x
inverse_by : (x y : Fraction) → ¬ (x ≡ zero_ℚ) → x *ℚ y ≡ one_ℚ → y ≡ inverse_ℚ x
inverse_by x y n h = sym (one-mul y)
    ∙ ap (λ z. z *ℚ y) (sym (mul_comm (inverse_ℚ x) x ∙ mul-inverse x n))
    ∙ mul_assoc (inverse_ℚ x) x y ∙ ap (λ z. inverse_ℚ x *ℚ z) h ∙ mul_comm (inverse_ℚ x) one_ℚ
    ∙ one-mul (inverse_ℚ x)

size_positive : (n : ℤ) → ¬ (n ≡ pos 0) → 0 < unsigned_abs n
size_positive (pos zero) h = absurd (h refl)
size_positive (pos (suc k)) h = omega arith
size_positive (negsuc k) h = omega arith

pub inverse_small : (n : ℤ) (d : ℕ) → ¬ (n ≡ pos 0) → IsSmall n d
    → IsSmall (signed_number (int_lt n (pos 0)) d) (unsigned_abs n)
inverse_small n d h s = record {
  lowest = record {
    positive = size_positive n h;
    coprime =
        ap (λ k. gcd k (unsigned_abs n)) (unsigned_abs-signed (int_lt n (pos 0)) d)
        ∙ gcd_of d (unsigned_abs n) 1
        (IsGcd-swap (unsigned_abs n) d 1 (of_gcd (unsigned_abs n) d s.lowest.coprime));
  };
  num = rw (unsigned_abs-signed (int_lt n (pos 0)) d) s.den;
  den = s.num;
}

-- n times d with the sign of n
signed_times : (n : ℤ) (d : ℕ) → n *ℤ signed_number (int_lt n (pos 0)) d ≡ pos (unsigned_abs n * d)
signed_times (pos k) d = by (int_lt (pos k) (pos 0)) (from k)
  where
    from : (k : ℕ) → int_lt (pos k) (pos 0) ≡ false
    from k = grind (arith, ints)

    by : (t : Bool) → t ≡ false → pos k *ℤ signed_number t d ≡ pos (k * d)
    by false e = refl
    by true e = absurd (cc)
signed_times (negsuc k) d = by (int_lt (negsuc k) (pos 0)) (under k)
  where
    under : (k : ℕ) → int_lt (negsuc k) (pos 0) ≡ true
    under k = grind (arith, ints)

    by : (t : Bool) → t ≡ true → negsuc k *ℤ signed_number t d ≡ pos (suc k * d)
    by false e = absurd (cc)
    by true e = let m = neg_is (pos d) in let p = product_is (negsuc k) (neg_ℤ (pos d)) in
        same_in (negsuc k *ℤ neg_ℤ (pos d)) (pos (suc k * d))
        (rw (p.0, p.1, m.0, m.1) (omega arith))

over_one : (k : ℕ) → 0 < k → over (pos k) k ≡ one_ℚ
unfolding one_ℚ
over_one k p = over-mk (pos k) k p ∙ sound {r = Same} {a = lowest_ratio (pos k) k p} (omega arith)

pub over_zero : (d : ℕ) → over (pos 0) d ≡ zero_ℚ
over_zero d = ap (λ w. w *ℚ inverse_ℚ (whole (pos d))) (sym zero-whole)
    ∙ zero-mul (inverse_ℚ (whole (pos d)))

same_le : (x y : Fraction) → x ≡ y → x ≤ℚ y
same_le x y e = subst (λ z. x ≤ℚ z) e (le_refl x)

pub zero_over : (n : ℤ) (d : ℕ) → 0 < d → over n d ≡ zero_ℚ → n ≡ pos 0
zero_over n d p e =
    let s : over n d ≡ over (pos 0) d = e ∙ sym (over_zero d) in
    let a = over-le_out n (pos 0) d p (same_le (over n d) (over (pos 0) d) s) in
    let b = over-le_out (pos 0) n d p (same_le (over (pos 0) d) (over n d) (sym s)) in
    omega (arith, ints)

pub inverse_value : (n : ℤ) (d : ℕ) → 0 < d → ¬ (n ≡ pos 0)
    → over (signed_number (int_lt n (pos 0)) d) (unsigned_abs n) ≡ inverse_ℚ (over n d)
inverse_value n d p h =
    inverse_by (over n d) (over (signed_number (int_lt n (pos 0)) d) (unsigned_abs n))
    (λ e. h (zero_over n d p e))
    (over_mul n (signed_number (int_lt n (pos 0)) d) d (unsigned_abs n) p (size_positive n h)
    ∙ ap (λ z. over z (d * unsigned_abs n)) (signed_times n d
    ∙ ap pos (swap (unsigned_abs n) d))
    ∙ over_one (d * unsigned_abs n) (mul-pos p (size_positive n h)))
  where
    swap : (a b : ℕ) → a * b ≡ b * a
    swap a b = omega arith

-- ---- signs
pub over-le : (m n : ℤ) (d : ℕ) → 0 < d → m ≤ℤ n → over m d ≤ℚ over n d
over-le m n d p h =
    rw (over-mk m d p, over-mk n d p) (le_in (lowest_ratio m d p) (lowest_ratio n d p) (let k :
    up m + down n ≤ up n + down m = omega (arith, ints) in omega (arith, mul-le-mul_right d k)))

pub abs_from : (n : ℤ) (d : ℕ) → 0 < d → int_lt n (pos 0) ≡ false → abs_ℚ (over n d) ≡ over n d
abs_from n d p e =
    abs-from (over n d)
    (subst (λ z. z ≤ℚ over n d) (over_zero d) (over-le (pos 0) n d p (from n e)))
  where
    from : (n : ℤ) → int_lt n (pos 0) ≡ false → pos 0 ≤ℤ n
    from n e = grind (arith, ints)

pub abs_below : (n : ℤ) (d : ℕ) → 0 < d → int_lt n (pos 0) ≡ true
    → abs_ℚ (over n d) ≡ neg_ℚ (over n d)
abs_below n d p e =
    abs-below (over n d)
    (lt_by (over n d) zero_ℚ
    (λ h. absurd (let k =
    over-le_out (pos 0) n d p (subst (λ z. z ≤ℚ over n d) (sym (over_zero d)) h) in past n e k)))
  where
    past : (n : ℤ) → int_lt n (pos 0) ≡ true → pos 0 ≤ℤ n → ⊥
    past n e k = grind (arith, ints)

pub same_num : (x y : Exact) → value_of x ≡ value_of y → x.num ≡ y.num
same_num x y e = sym (num_is x) ∙ ap numerator e ∙ num_is y

pub same_den : (x y : Exact) → value_of x ≡ value_of y → x.den ≡ y.den
same_den x y e = sym (den_is x) ∙ ap denominator e ∙ den_is y

pub same_value : (x y : Exact) → x.num ≡ y.num → x.den ≡ y.den → value_of x ≡ value_of y
same_value x y p q = ap (λ n. over n x.den) p ∙ ap (over y.num) q

-- the numbers of a fraction are its own
pub ruleset same_numbers = (same_num, same_den, same_value)

-- a fraction without its greatest common divisor
pub ruleset reducing = (reduced_small, over_reduced, gcd_positive)
