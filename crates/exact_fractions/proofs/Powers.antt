-- Products with powers of two, in lowest terms.
use mathlib.Core.Quot.{sound}
use lib.IntN.{neg_ℤ}
use borrow.Author.Differences.{neg_is, product_is, same_in}
use Rattle.std.specs.Prelude.{◌≡◌, ◌≢◌, ◌⊎◌, ℕ, ℤ, pos, negsuc, int_lt, nat_lt, ◌*ℤ◌, ◌+◌, ◌≤◌, ◌*◌}
use Rattle.std.specs.Prelude.{◌/◌, ◌%◌, ◌<◌, ◌^◌, ◌&&◌, Bool, true, false, refl}
use Rattle.std.specs.Int.{◌∣◌}
use Rattle.std.specs.Int.RustNames.{unsigned_abs}
use Rattle.std.proofs.Common.{arith, sym, ap, ◌∙◌, subst, suc, zero, ⊎_elim, lit<}
use Rattle.std.proofs.lemmas.Int.{ints, unsigned_abs-mul}
use Rattle.std.proofs.lemmas.Nat.{pow_pos, pow-add, pow_below}
use Rattle.std.proofs.lemmas.Nat.Gcd.{dvd_refl, IsGcd-swap, mod-eq-zero_of_dvd}
use Rattle.std.proofs.lemmas.Bool.{le-ltb, lt-ltb, ltb-true}
use Rattle.std.proofs.Math.Nat.{dvd-mul_right, mul-pos, one-dvd, mul-le-mul_right, mul-le-mul_left}
use Rattle.std.proofs.Math.Nat.{eq-zero_of_zero-dvd, le_of_dvd}
use Rattle.std.proofs.Math.Pow.{pow_mono}
use Rattle.fx_model.specs.Fraction.{Same, Fraction, ◌*ℚ◌, zero_ℚ, one_ℚ}
use Rattle.fx_model.specs.Powers.{whole, whole-mk, two_to, two_to_ratio, two_to-mk, two_to-pos}
use Rattle.fx_model.specs.Powers.{zero-whole, one-whole}
use Rattle.exact_fractions.specs.declared.exact.Exact.{Exact}
use Rattle.exact_fractions.specs.Divisors.{gcd, AreCoprime}
use Rattle.exact_fractions.proofs.Divisors.{gcd_of}
use Rattle.exact_fractions.specs.Narrow.{is_narrow}
use Rattle.exact_fractions.specs.Reduced.{numerator, denominator, over, signed_number, IsLowest}
use Rattle.exact_fractions.specs.Reduced.{IsSmall}
use Rattle.exact_fractions.proofs.Lowest.{lowest_ratio, over-mk, numerator-over, denominator-over}
use Rattle.exact_fractions.proofs.Lowest.{unsigned_abs-signed}
use Rattle.exact_fractions.specs.Exact.{value_of}
use Rattle.exact_fractions.specs.Wide.{are_narrow, numbers_of}
use Rattle.exact_fractions.specs.Twos.{LosesTwos}
use Rattle.exact_fractions.proofs.Numbers.{over-cancel}
use Rattle.exact_fractions.proofs.Factors.{over_mul, coprime_parts, coprime_product, of_gcd}

-- ---- whole numbers
pub whole_small : (n : ℤ) → unsigned_abs n < 2 ^ 127 → IsSmall n 1
whole_small n h = record {
  lowest = record {
    positive = lit< tt;
    coprime =
        gcd_of (unsigned_abs n) 1 1 (one-dvd (unsigned_abs n), dvd_refl 1, (λ d i j. j));
  };
  num = h;
  den = lit< tt;
}

pub over_one_is : (n : ℤ) → over n 1 ≡ whole n
over_one_is n = over-mk n 1 (lit< tt) ∙ sym (whole-mk n)

pub zero_is : (x : Fraction) → x ≡ whole (pos 0) → x ≡ zero_ℚ
zero_is x e = e ∙ sym zero-whole

pub one_is : (x : Fraction) → x ≡ whole (pos 1) → x ≡ one_ℚ
one_is x e = e ∙ sym one-whole

-- ---- powers of two below the denominator
pub two_to-below : (k : ℕ) → two_to (neg_ℤ (pos k)) ≡ over (pos 1) (2 ^ k)
two_to-below k = two_to-mk (neg_ℤ (pos k)) ∙ sound {r = Same} {a = two_to_ratio (neg_ℤ (pos k))}
    {b = lowest_ratio (pos 1) (2 ^ k) (pow_pos k)} (let m = neg_is (pos k) in
    rw (m.0, m.1) (omega arith)) ∙ sym (over-mk (pos 1) (2 ^ k) (pow_pos k))

-- ---- odd numbers and powers of two
odd_coprime : (m : ℕ) → m % 2 ≢ 0 → AreCoprime 2 m
odd_coprime m h = (one-dvd 2, one-dvd m, by)
  where
    by : (d : ℕ) → d ∣ 2 → d ∣ m → d ∣ 1
    by zero i j = absurd (let e : 2 ≡ zero = eq-zero_of_zero-dvd i in omega arith)
    by (suc zero) i j = dvd_refl 1
    by (suc (suc zero)) i j = absurd (h (mod-eq-zero_of_dvd 2 j))
    by (suc (suc (suc d))) i j = absurd (let l = le_of_dvd (lit< tt) i in omega arith)

power_coprime : (k m : ℕ) → AreCoprime 2 m → AreCoprime (2 ^ k) m
power_coprime zero m h = (one-dvd (2 ^ zero), one-dvd m, (λ d i j. i))
power_coprime (suc k) m h = subst (λ n. AreCoprime n m) (let e = pow-add 2 1 k in
    omega arith) (coprime_product 2 (2 ^ k) m h (power_coprime k m h))

left_coprime : (j m : ℕ) → (j ≡ 0) ⊎ (m % 2 ≢ 0) → AreCoprime (2 ^ j) m
left_coprime j m d =
    ⊎_elim (λ z. subst (λ j. AreCoprime (2 ^ j) m) (sym z) (one-dvd 1, one-dvd m, (λ d i k. i)))
    (λ o. power_coprime j m (odd_coprime m o)) d

-- ---- a fraction of these numbers, which are in lowest terms
pub record HasParts (x : Fraction) (n : ℤ) (d : ℕ) : Type 0 where
  pub top : numerator x ≡ n
  pub bottom : denominator x ≡ d
  pub lowest : IsLowest n d
  pub value : over n d ≡ x

parts_of : (x : Fraction) (n : ℤ) (d : ℕ) → IsLowest n d → over n d ≡ x → HasParts x n d
parts_of x n d l v = record {
  top = ap numerator (sym v) ∙ numerator-over n d l;
  bottom =
      ap denominator (sym v) ∙ denominator-over n d l;
  lowest = l;
  value = v;
}

pub wide_top : (x : Fraction) (n : ℤ) (d : ℕ) → HasParts x n d → is_narrow n ≡ false
    → are_narrow (numbers_of x) ≡ false
wide_top x n d p h = ap (λ b. b && (is_narrow (pos (denominator x)) && true)) (ap is_narrow p.top
    ∙ h)

pub wide_bottom : (x : Fraction) (n : ℤ) (d : ℕ) → HasParts x n d → is_narrow (pos d) ≡ false
    → are_narrow (numbers_of x) ≡ false
wide_bottom x n d p h =
    ap (λ b. is_narrow (numerator x) && (b && true)) (ap (λ d. is_narrow (pos d)) p.bottom ∙ h)
    ∙ none (is_narrow (numerator x))
  where
    none : (b : Bool) → (b && false) ≡ false
    none true = refl
    none false = refl

pub narrow_parts : (x : Fraction) (n : ℤ) (d : ℕ) → HasParts x n d → is_narrow n ≡ true
    → is_narrow (pos d) ≡ true → are_narrow (numbers_of x) ≡ true
narrow_parts x n d p h k = ap (λ b. b && (is_narrow (pos (denominator x)) && true))
    (ap is_narrow p.top ∙ h) ∙ ap (λ b. b && true) (ap (λ d. is_narrow (pos d)) p.bottom ∙ k)

pub below_limit : (n : ℕ) → nat_lt n (2 ^ 127) ≡ true → n < 2 ^ 127
below_limit n h = ltb-true n (2 ^ 127) h

pub narrow_size : (n : ℕ) → n < 2 ^ 127 → is_narrow (pos n) ≡ true
narrow_size n h = lt-ltb n (2 ^ 127) h

-- ---- a power of two more, and one less
times_twice : (n : ℤ) (a b : ℕ) → (n *ℤ pos a) *ℤ pos b ≡ n *ℤ pos (a * b)
times_twice n a b = let p = product_is n (pos a) in let q = product_is (n *ℤ pos a) (pos b) in
    let r = product_is n (pos (a * b)) in
    same_in ((n *ℤ pos a) *ℤ pos b) (n *ℤ pos (a * b))
    (rw (q.0, q.1, r.0, r.1, p.0, p.1) (omega arith))

times_one : (n : ℤ) → n *ℤ pos 1 ≡ n
times_one n = omega (arith, ints)

rest_positive : (n k m j : ℕ) → 0 < n → LosesTwos n k m j → 0 < m
rest_positive n k zero j p t = absurd (let e = t.number in omega arith)
rest_positive n k (suc m) j p t = omega arith

rest_divides : (n k m j : ℕ) → LosesTwos n k m j → m ∣ n
rest_divides n k m j t = subst (λ a. m ∣ a) (sym t.number) (dvd-mul_right m (2 ^ t.lost))

pub rest_below : (n k m j : ℕ) → LosesTwos n k m j → n < 2 ^ 127 → m < 2 ^ 127
rest_below n k m j t h = let e = t.number in let l = mul-le-mul_left m (pow_pos t.lost) in
    omega arith

powers : (n k m j : ℕ) (t : LosesTwos n k m j) → 2 ^ j * 2 ^ t.lost ≡ 2 ^ k
powers n k m j t = sym (pow-add 2 j t.lost) ∙ ap (λ a. 2 ^ a) (sym t.power)

raised_value : (n : ℤ) (d k m j : ℕ) → 0 < d → LosesTwos d k m j → over (n *ℤ pos (2 ^ j)) m
    ≡ over n d *ℚ two_to (pos k)
raised_value n d k m j p t =
    sym (over-cancel (n *ℤ pos (2 ^ j)) m (2 ^ t.lost) (rest_positive d k m j p t) (pow_pos t.lost))
    ∙ ap (λ a. over a (m * 2 ^ t.lost)) (times_twice n (2 ^ j) (2 ^ t.lost)
    ∙ ap (λ a. n *ℤ pos a) (powers d k m j t))
    ∙ ap (over (n *ℤ pos (2 ^ k))) (sym t.number ∙ once d)
    ∙ sym (over_mul n (pos (2 ^ k)) d 1 p (lit< tt))
    ∙ ap (λ y. over n d *ℚ y) (over_one_is (pos (2 ^ k)) ∙ sym (two_to-pos k))
  where
    once : (d : ℕ) → d ≡ d * 1
    once d = omega arith

raised_lowest : (n : ℤ) (d k m j : ℕ) → IsLowest n d → LosesTwos d k m j
    → IsLowest (n *ℤ pos (2 ^ j)) m
raised_lowest n d k m j l t = record {
  positive = rest_positive d k m j l.positive t;
  coprime = ap (λ a. gcd a m) (unsigned_abs-mul n (pos (2 ^ j)))
      ∙ gcd_of (unsigned_abs n * 2 ^ j) m 1 (coprime_product (unsigned_abs n) (2 ^ j) m
      (coprime_parts (unsigned_abs n) d (unsigned_abs n) m (of_gcd (unsigned_abs n) d l.coprime)
      (dvd_refl (unsigned_abs n)) (rest_divides d k m j t)) (left_coprime j m t.done));
}

-- x * 2^k
pub raised_parts : (x : Exact) (k m j : ℕ) → LosesTwos x.den k m j
    → HasParts (value_of x *ℚ two_to (pos k)) (x.num *ℤ pos (2 ^ j)) m
raised_parts x k m j t = parts_of (value_of x *ℚ two_to (pos k)) (x.num *ℤ pos (2 ^ j)) m
    (raised_lowest x.num x.den k m j x.small.lowest t)
    (raised_value x.num x.den k m j x.small.lowest.positive t)

-- a number with the sign of n, times what n is a multiple of
signed_rest : (n : ℤ) (m a : ℕ) → unsigned_abs n ≡ m * a → 0 < a
    → signed_number (int_lt n (pos 0)) m *ℤ pos a ≡ n
signed_rest (pos k) m a e p = by (int_lt (pos k) (pos 0)) (from k)
  where
    from : (k : ℕ) → int_lt (pos k) (pos 0) ≡ false
    from k = grind (arith, ints)

    by : (t : Bool) → t ≡ false → signed_number t m *ℤ pos a ≡ pos k
    by false h = ap pos (sym e)
    by true h = absurd (cc)
signed_rest (negsuc k) m a e p = by (int_lt (negsuc k) (pos 0)) (under k)
  where
    under : (k : ℕ) → int_lt (negsuc k) (pos 0) ≡ true
    under k = grind (arith, ints)

    by : (t : Bool) → t ≡ true → signed_number t m *ℤ pos a ≡ negsuc k
    by false h = absurd (cc)
    by true h = let i = neg_is (pos m) in let q = product_is (neg_ℤ (pos m)) (pos a) in
        same_in (neg_ℤ (pos m) *ℤ pos a) (negsuc k) (rw (q.0, q.1, i.0, i.1) (omega (arith, e)))

lowered_value : (n : ℤ) (d k m j : ℕ) → 0 < d → LosesTwos (unsigned_abs n) k m j
    → over (signed_number (int_lt n (pos 0)) m) (d * 2 ^ j) ≡ over n d *ℚ two_to (neg_ℤ (pos k))
lowered_value n d k m j p t =
    let s : ℤ = signed_number (int_lt n (pos 0)) m in
    sym (over-cancel s (d * 2 ^ j) (2 ^ t.lost) (mul-pos p (pow_pos j)) (pow_pos t.lost))
    ∙ ap (λ a. over a (d * 2 ^ j * 2 ^ t.lost))
    (signed_rest n m (2 ^ t.lost) t.number (pow_pos t.lost) ∙ sym (times_one n))
    ∙ ap (over (n *ℤ pos 1)) (grouped d (2 ^ j) (2 ^ t.lost)
    ∙ ap (λ a. d * a) (powers (unsigned_abs n) k m j t))
    ∙ sym (over_mul n (pos 1) d (2 ^ k) p (pow_pos k))
    ∙ ap (λ y. over n d *ℚ y) (sym (two_to-below k))
  where
    grouped : (d a b : ℕ) → d * a * b ≡ d * (a * b)
    grouped d a b = omega arith

lowered_lowest : (n : ℤ) (d k m j : ℕ) → IsLowest n d → LosesTwos (unsigned_abs n) k m j
    → IsLowest (signed_number (int_lt n (pos 0)) m) (d * 2 ^ j)
lowered_lowest n d k m j l t = record {
  positive = mul-pos l.positive (pow_pos j);
  coprime = ap (λ a. gcd a (d * 2 ^ j)) (unsigned_abs-signed (int_lt n (pos 0)) m)
      ∙ gcd_of m (d * 2 ^ j) 1 (IsGcd-swap (d * 2 ^ j) m 1 (coprime_product d (2 ^ j) m
      (coprime_parts d (unsigned_abs n) d m
      (IsGcd-swap (unsigned_abs n) d 1 (of_gcd (unsigned_abs n) d l.coprime)) (dvd_refl d)
      (rest_divides (unsigned_abs n) k m j t)) (left_coprime j m t.done)));
}

-- x / 2^k
pub lowered_parts : (x : Exact) (k m j : ℕ) → LosesTwos (unsigned_abs x.num) k m j
    → HasParts (value_of x *ℚ two_to (neg_ℤ (pos k))) (signed_number (int_lt x.num (pos 0)) m)
    (x.den * 2 ^ j)
lowered_parts x k m j t =
    parts_of (value_of x *ℚ two_to (neg_ℤ (pos k))) (signed_number (int_lt x.num (pos 0)) m)
    (x.den * 2 ^ j) (lowered_lowest x.num x.den k m j x.small.lowest t)
    (lowered_value x.num x.den k m j x.small.lowest.positive t)

-- ---- past the limit
pub far_raised : (n k : ℕ) → 0 < n → 127 ≤ k → is_narrow (pos (n * 2 ^ k)) ≡ false
far_raised n k p h = le-ltb (n * 2 ^ k) (2 ^ 127) (let l = pow_mono h in let m =
    mul-le-mul_right (2 ^ k) p in omega arith)

pub far_number : (n : ℤ) (k : ℕ) → n ≢ pos 0 → 127 ≤ k → is_narrow (n *ℤ pos (2 ^ k)) ≡ false
far_number n k p h = ap (λ a. nat_lt a (2 ^ 127)) (unsigned_abs-mul n (pos (2 ^ k)))
    ∙ far_raised (unsigned_abs n) k (some n p) h
  where
    some : (n : ℤ) → n ≢ pos 0 → 0 < unsigned_abs n
    some (pos zero) h = absurd (h refl)
    some (pos (suc k)) h = omega arith
    some (negsuc k) h = omega arith

-- ---- below the limit
pub power_small : (k : ℕ) → k < 127 → 2 ^ k < 2 ^ 127
power_small k h = pow_below k 127 h

pub power_kept : (k : ℕ) → k < 127 → 1 * 2 ^ k % 340282366920938463463374607431768211456 ≡ 2 ^ k
power_kept k h = let l = power_small k h in kept (2 ^ k) l
  where
    kept : (n : ℕ) → n < 2 ^ 127 → 1 * n % 340282366920938463463374607431768211456 ≡ n
    kept n h = omega arith

-- a loop's step
pub halved_again : (n r lost : ℕ) → n ≡ r * 2 ^ lost → r % 2 ≡ 0 → n ≡ r / 2 * 2 ^ (lost + 1)
halved_again n r lost e h = let p = pow-add 2 lost 1 in
    rw p (let d : r / 2 * 2 ≡ r = omega arith in e ∙ ap (λ a. a * 2 ^ lost) (sym d)
    ∙ grouped (r / 2) (2 ^ lost))
  where
    grouped : (a b : ℕ) → a * 2 * b ≡ a * (b * 2 ^ 1)
    grouped a b = omega arith

-- ---- a fraction of numbers below the limit
narrow_below : (n : ℤ) → is_narrow n ≡ true → unsigned_abs n < 2 ^ 127
narrow_below n h = ltb-true (unsigned_abs n) (2 ^ 127) h

pub parts_small : (x : Fraction) (n : ℤ) (d : ℕ) → HasParts x n d → is_narrow n ≡ true
    → is_narrow (pos d) ≡ true → IsSmall n d
parts_small x n d p h k = record {
  lowest = p.lowest;
  num = narrow_below n h;
  den = narrow_below (pos d) k;
}

pub parts_give : (x : Fraction) (n : ℤ) (d : ℕ) → HasParts x n d → is_narrow n ≡ true
    → is_narrow (pos d) ≡ true → (are_narrow (numbers_of x) ≡ true) × (over n d ≡ x)
parts_give x n d p h k = (narrow_parts x n d p h k, p.value)

pub rest_narrow : (n k m j : ℕ) → LosesTwos n k m j → n < 2 ^ 127 → is_narrow (pos m) ≡ true
rest_narrow n k m j t h = narrow_size m (rest_below n k m j t h)

-- what is answered, by the numbers of the answer
pub record IsGiven (x : Fraction) (n : ℤ) (d : ℕ) : Type 0 where
  pub small : IsSmall n d
  pub narrow : are_narrow (numbers_of x) ≡ true
  pub value : over n d ≡ x

given_by : (x : Fraction) (n m : ℤ) (d e : ℕ) → n ≡ m → d ≡ e → HasParts x m e → is_narrow m ≡ true
    → is_narrow (pos e) ≡ true → IsGiven x n d
given_by x n m d e p q parts h k =
    rw (p, q) (record {
      small = parts_small x m e parts h k;
      narrow = narrow_parts x m e parts h k;
      value = parts.value;
    })

pub doubled_given : (x : Exact) (k m j d : ℕ) (n z : ℤ) → d ≡ x.den → n ≡ x.num → LosesTwos d k m j
    → is_narrow (n *ℤ pos (2 ^ j)) ≡ true → z ≡ n *ℤ pos (2 ^ j)
    → IsGiven (value_of x *ℚ two_to (pos k)) z m
doubled_given x k m j d n z e f t h g =
    by (subst (λ d. LosesTwos d k m j) e t) (subst (λ n. is_narrow (n *ℤ pos (2 ^ j)) ≡ true) f h)
    (g ∙ ap (λ n. n *ℤ pos (2 ^ j)) f)
  where
    by : LosesTwos x.den k m j → is_narrow (x.num *ℤ pos (2 ^ j)) ≡ true → z ≡ x.num *ℤ pos (2 ^ j)
        → IsGiven (value_of x *ℚ two_to (pos k)) z m
    by t h g = given_by (value_of x *ℚ two_to (pos k)) z (x.num *ℤ pos (2 ^ j)) m m g refl
        (raised_parts x k m j t) h (rest_narrow x.den k m j t x.small.den)

pub doubled_wide : (x : Exact) (k m j d : ℕ) (n : ℤ) → d ≡ x.den → n ≡ x.num → LosesTwos d k m j
    → is_narrow (n *ℤ pos (2 ^ j)) ≡ false → are_narrow (numbers_of (value_of x *ℚ two_to (pos k)))
    ≡ false
doubled_wide x k m j d n e f t h = wide_top (value_of x *ℚ two_to (pos k)) (x.num *ℤ pos (2 ^ j)) m
    (raised_parts x k m j (subst (λ d. LosesTwos d k m j) e t))
    (subst (λ n. is_narrow (n *ℤ pos (2 ^ j)) ≡ false) f h)

pub halved_given : (x : Exact) (k m j a b d : ℕ) (z : ℤ) → a ≡ unsigned_abs x.num → b ≡ x.den
    → LosesTwos a k m j → is_narrow (pos (b * 2 ^ j)) ≡ true → d ≡ b * 2 ^ j
    → z ≡ signed_number (int_lt x.num (pos 0)) m
    → IsGiven (value_of x *ℚ two_to (neg_ℤ (pos k))) z d
halved_given x k m j a b d z e f t h g s =
    by (subst (λ a. LosesTwos a k m j) e t) (subst (λ b. is_narrow (pos (b * 2 ^ j)) ≡ true) f h) (g
    ∙ ap (λ b. b * 2 ^ j) f)
  where
    by : LosesTwos (unsigned_abs x.num) k m j → is_narrow (pos (x.den * 2 ^ j)) ≡ true
        → d ≡ x.den * 2 ^ j → IsGiven (value_of x *ℚ two_to (neg_ℤ (pos k))) z d
    by t h g =
        given_by (value_of x *ℚ two_to (neg_ℤ (pos k))) z (signed_number (int_lt x.num (pos 0)) m) d
        (x.den * 2 ^ j) s g (lowered_parts x k m j t)
        (ap (λ a. nat_lt a (2 ^ 127)) (unsigned_abs-signed (int_lt x.num (pos 0)) m)
        ∙ rest_narrow (unsigned_abs x.num) k m j t x.small.num) h

pub halved_wide : (x : Exact) (k m j a b : ℕ) → a ≡ unsigned_abs x.num → b ≡ x.den
    → LosesTwos a k m j → is_narrow (pos (b * 2 ^ j)) ≡ false
    → are_narrow (numbers_of (value_of x *ℚ two_to (neg_ℤ (pos k)))) ≡ false
halved_wide x k m j a b e f t h =
    wide_bottom (value_of x *ℚ two_to (neg_ℤ (pos k))) (signed_number (int_lt x.num (pos 0)) m)
    (x.den * 2 ^ j) (lowered_parts x k m j (subst (λ a. LosesTwos a k m j) e t))
    (subst (λ b. is_narrow (pos (b * 2 ^ j)) ≡ false) f h)
