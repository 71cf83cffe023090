-- Each fraction is its numerator over its denominator, and a fraction in lowest terms has these.
use mathlib.Core.Quot.{sound}
use borrow.Author.Differences.{up, down, neg_is}
use Rattle.std.specs.Prelude.{◌≡◌, ℕ, ℤ, pos, negsuc, ◌+◌, ◌-◌, ◌*◌, ◌/◌, ◌^◌, ◌<◌, ◌≤◌, nat_lt}
use Rattle.std.specs.Prelude.{Bool, true, false, refl}
use Rattle.std.specs.Int.{◌∣◌}
use Rattle.std.specs.Int.RustNames.{unsigned_abs, int_lt}
use Rattle.std.proofs.lemmas.Int.{ints}
use Rattle.std.proofs.Common.{arith, sym, ap, ◌∙◌, subst, zero, suc}
use Rattle.std.proofs.Math.Nat.{ℕ_set, div-mul_cancel, one-dvd, div-le_self}
use Rattle.std.proofs.lemmas.Bool.{ltb-true, ltb-false, le-ltb, lt-ltb}
use Rattle.std.specs.Coded.{le_prop}
use Rattle.fx_model.specs.Fraction.{Ratio, Same, Fraction, of_ratio, by_ratio, Fraction-set}
use Rattle.fx_model.specs.Fraction.{mul_ratio, mul-mk, inverse_ratio, inverse-mk, ◌*ℚ◌, ◌/ℚ◌}
use Rattle.fx_model.specs.Fraction.{inverse_ℚ}
use Rattle.fx_model.specs.Powers.{whole, whole_ratio, whole-mk}
use Rattle.exact_fractions.specs.Divisors.{gcd, gcd_is, gcd_positive, cofactors}
use Rattle.exact_fractions.proofs.Divisors.{gcd_of}
use Rattle.exact_fractions.specs.Reduced.{size, divisor, signed_number, numerator, denominator}
use Rattle.exact_fractions.specs.Reduced.{numerator_ratio, denominator_ratio, numerator-mk}
use Rattle.exact_fractions.specs.Reduced.{denominator-mk, over, IsLowest, IsSmall}

-- how n / d is written
abbrev pub lowest_ratio : (n : ℤ) (d : ℕ) → 0 < d → Ratio
lowest_ratio n d p = record { plus = up n; minus = down n; den = d; positive = p }

whole_inverse : (u v d : ℕ) → 0 < d → (u * (1 * (d - 0)) + v * (1 * (0 - d))) * d + v
    * (1 * ((d - 0) * (d - 0) + (0 - d) * (0 - d) + (1 - ((d - 0) + (0 - d)))))
    ≡ u * (1 * ((d - 0) * (d - 0) + (0 - d) * (0 - d) + (1 - ((d - 0) + (0 - d)))))
    + (u * (1 * (0 - d)) + v * (1 * (d - 0))) * d
whole_inverse u v d p = let a : 0 - d ≡ 0 = omega arith in let b : d - 0 ≡ d = omega arith in
    let c : 1 - (d + 0) ≡ 0 = omega arith in rw (a, b, c) (omega arith)

pub over-mk : (n : ℤ) (d : ℕ) (p : 0 < d) → over n d ≡ of_ratio (lowest_ratio n d p)
over-mk n d p = ap (λ x. x /ℚ whole (pos d)) (whole-mk n)
    ∙ ap (λ y. of_ratio (whole_ratio n) *ℚ inverse_ℚ y) (whole-mk (pos d))
    ∙ ap (λ y. of_ratio (whole_ratio n) *ℚ y) (inverse-mk (whole_ratio (pos d)))
    ∙ mul-mk (whole_ratio n) (inverse_ratio (whole_ratio (pos d)))
    ∙ sound {r = Same} {a = mul_ratio (whole_ratio n) (inverse_ratio (whole_ratio (pos d)))}
    {b = lowest_ratio n d p} (whole_inverse (up n) (down n) d p)

-- ---- a fraction in lowest terms
size_is : (n : ℤ) (d : ℕ) (p : 0 < d) → size (lowest_ratio n d p) ≡ unsigned_abs n
size_is (pos k) d p = omega arith
size_is (negsuc k) d p = omega arith

signed_again : (n : ℤ) → signed_number (nat_lt (up n) (down n)) (unsigned_abs n) ≡ n
signed_again (pos k) = ap (λ t. signed_number t k) (le-ltb k 0 (omega arith))
signed_again (negsuc k) = ap (λ t. signed_number t (suc k)) (lt-ltb 0 (suc k) (omega arith))

divisor_is : (n : ℤ) (d : ℕ) (l : IsLowest n d) → divisor (lowest_ratio n d l.positive) ≡ 1
divisor_is n d l = ap (λ s. gcd s d) (size_is n d l.positive) ∙ l.coprime

by_one : (n : ℕ) → n / 1 ≡ n
by_one n = let e = div-mul_cancel 1 (one-dvd n) in omega arith

pub numerator-over : (n : ℤ) (d : ℕ) → IsLowest n d → numerator (over n d) ≡ n
numerator-over n d l = ap numerator (over-mk n d l.positive)
    ∙ numerator-mk (lowest_ratio n d l.positive)
    ∙ ap (λ g. signed_number (nat_lt (up n) (down n)) (size (lowest_ratio n d l.positive) / g))
    (divisor_is n d l)
    ∙ ap (signed_number (nat_lt (up n) (down n))) (by_one (size (lowest_ratio n d l.positive))
    ∙ size_is n d l.positive) ∙ signed_again n

pub denominator-over : (n : ℤ) (d : ℕ) → IsLowest n d → denominator (over n d) ≡ d
denominator-over n d l = ap denominator (over-mk n d l.positive)
    ∙ denominator-mk (lowest_ratio n d l.positive) ∙ ap (λ g. d / g) (divisor_is n d l) ∙ by_one d

-- ---- each fraction
pub quotient_positive : (d g : ℕ) → g ∣ d → 0 < d → 0 < d / g
quotient_positive d g h l = by (d / g) (div-mul_cancel g h)
  where
    by : (n : ℕ) → n * g ≡ d → 0 < n
    by zero e = absurd (omega arith)
    by (suc n) e = omega arith

denominator_ratio-positive : (a : Ratio) → 0 < denominator_ratio a
denominator_ratio-positive a = quotient_positive a.den (divisor a) (gcd_is (size a) a.den).1
    a.positive

pub denominator-positive : (x : Fraction) → 0 < denominator x
denominator-positive = by_ratio (λ x. 0 < denominator x) (λ x. hlevel le_prop)
    (λ a. subst (λ d. 0 < d) (sym (denominator-mk a)) (denominator_ratio-positive a))

pub unsigned_abs-signed : (t : Bool) (n : ℕ) → unsigned_abs (signed_number t n) ≡ n
unsigned_abs-signed true zero = refl
unsigned_abs-signed true (suc n) = refl
unsigned_abs-signed false n = refl

coprime_ratio : (a : Ratio) → gcd (unsigned_abs (numerator_ratio a)) (denominator_ratio a) ≡ 1
coprime_ratio a =
    ap (λ n. gcd n (denominator_ratio a))
    (unsigned_abs-signed (nat_lt a.plus a.minus) (size a / divisor a))
    ∙ gcd_of (size a / divisor a) (denominator_ratio a) 1
    (cofactors (size a) a.den (divisor a) (gcd_positive (size a) a.den a.positive)
    (gcd_is (size a) a.den))

pub coprime : (x : Fraction) → gcd (unsigned_abs (numerator x)) (denominator x) ≡ 1
coprime = by_ratio (λ x. gcd (unsigned_abs (numerator x)) (denominator x) ≡ 1)
    (λ x. ℕ_set (gcd (unsigned_abs (numerator x)) (denominator x)) 1)
    (λ a. ap (λ n. gcd (unsigned_abs n) (denominator (of_ratio a))) (numerator-mk a)
    ∙ ap (gcd (unsigned_abs (numerator_ratio a))) (denominator-mk a) ∙ coprime_ratio a)

-- The numerator and the denominator are in lowest terms.
pub lowest : (x : Fraction) → IsLowest (numerator x) (denominator x)
lowest x = record { positive = denominator-positive x; coprime = coprime x }

parts_cross : (a : Ratio) (t : Bool) → nat_lt a.plus a.minus ≡ t
    → Same (lowest_ratio (signed_number t (size a / divisor a)) (denominator_ratio a)
    (denominator_ratio-positive a)) a
parts_cross a true e =
    let g = gcd_is (size a) a.den in
    let l = ltb-true a.plus a.minus e in
    let s : size a + a.plus ≡ a.minus = omega arith in
    let n = neg_is (pos (size a / divisor a)) in
    rw (n.0, n.1) (over_below (size a / divisor a) (a.den / divisor a) (divisor a) (size a) a.plus
    a.minus a.den (div-mul_cancel (divisor a) g.0) (div-mul_cancel (divisor a) g.1) s)
  where
    over_below : (q d g s p m e : ℕ) → q * g ≡ s → d * g ≡ e → s + p ≡ m → 0 * e + m * d ≡ p * d + q
        * e
    over_below q d g s p m e a b c = omega (
      arith,
      ap (λ n. n * d) a,
      ap (λ n. q * n) b,
      ap (λ n. n * d) c,
    )
parts_cross a false e =
    let g = gcd_is (size a) a.den in
    let l = ltb-false a.plus a.minus e in
    let s : size a + a.minus ≡ a.plus = omega arith in
    over_above (size a / divisor a) (a.den / divisor a) (divisor a) (size a) a.plus a.minus a.den
    (div-mul_cancel (divisor a) g.0) (div-mul_cancel (divisor a) g.1) s
  where
    over_above : (q d g s p m e : ℕ) → q * g ≡ s → d * g ≡ e → s + m ≡ p → q * e + m * d ≡ p * d + 0
        * e
    over_above q d g s p m e a b c = omega (
      arith,
      ap (λ n. n * d) a,
      ap (λ n. q * n) b,
      ap (λ n. n * d) c,
    )

-- A fraction is its numerator over its denominator.
pub over_parts : (x : Fraction) → over (numerator x) (denominator x) ≡ x
over_parts = by_ratio (λ x. over (numerator x) (denominator x) ≡ x)
    (λ x. Fraction-set (over (numerator x) (denominator x)) x)
    (λ a. ap (λ n. over n (denominator (of_ratio a))) (numerator-mk a)
    ∙ ap (over (numerator_ratio a)) (denominator-mk a)
    ∙ over-mk (numerator_ratio a) (denominator_ratio a) (denominator_ratio-positive a)
    ∙ sound {r = Same} {a = lowest_ratio (numerator_ratio a) (denominator_ratio a)
    (denominator_ratio-positive a)} {b = a} (parts_cross a (nat_lt a.plus a.minus) refl))

-- ---- n / d, whether or not it is in lowest terms
below_zero : (n : ℤ) → nat_lt (up n) (down n) ≡ int_lt n (pos 0)
below_zero (pos k) = le-ltb k 0 (omega arith) ∙ sym (above k)
  where
    above : (k : ℕ) → int_lt (pos k) (pos 0) ≡ false
    above k = grind (arith, ints)
below_zero (negsuc k) = lt-ltb 0 (suc k) (omega arith) ∙ sym (under k)
  where
    under : (k : ℕ) → int_lt (negsuc k) (pos 0) ≡ true
    under k = grind (arith, ints)

pub numerator-reduced : (n : ℤ) (d : ℕ) → 0 < d → numerator (over n d)
    ≡ signed_number (int_lt n (pos 0)) (unsigned_abs n / gcd (unsigned_abs n) d)
numerator-reduced n d p = ap numerator (over-mk n d p) ∙ numerator-mk (lowest_ratio n d p)
    ∙ ap (λ s. signed_number (nat_lt (up n) (down n)) (s / gcd s d)) (size_is n d p)
    ∙ ap (λ t. signed_number t (unsigned_abs n / gcd (unsigned_abs n) d)) (below_zero n)

pub denominator-reduced : (n : ℤ) (d : ℕ) → 0 < d → denominator (over n d)
    ≡ d / gcd (unsigned_abs n) d
denominator-reduced n d p = ap denominator (over-mk n d p) ∙ denominator-mk (lowest_ratio n d p)
    ∙ ap (λ s. d / gcd s d) (size_is n d p)

less : (n g : ℕ) → n / g ≤ n
less n g = div-le_self n g

-- Reduced, it is in lowest terms, with no greater numbers, and the same fraction.
pub reduced_small : (n : ℤ) (d : ℕ) → 0 < d → unsigned_abs n < 2 ^ 127 → d < 2 ^ 127
    → IsSmall (signed_number (int_lt n (pos 0)) (unsigned_abs n / gcd (unsigned_abs n) d))
    (d / gcd (unsigned_abs n) d)
reduced_small n d p l m =
    let q = less (unsigned_abs n) (gcd (unsigned_abs n) d) in
    let r = less d (gcd (unsigned_abs n) d) in
    record {
      lowest = rw (← numerator-reduced n d p, ← denominator-reduced n d p) (lowest (over n d));
      num = rw (unsigned_abs-signed (int_lt n (pos 0)) (unsigned_abs n / gcd (unsigned_abs n) d))
          (omega arith);
      den = omega arith;
    }

pub over_reduced : (n : ℤ) (d : ℕ) → 0 < d
    → over (signed_number (int_lt n (pos 0)) (unsigned_abs n / gcd (unsigned_abs n) d))
    (d / gcd (unsigned_abs n) d) ≡ over n d
over_reduced n d p = rw (← numerator-reduced n d p, ← denominator-reduced n d p)
    (over_parts (over n d))

-- a fraction whose numbers are small
pub parts_small : (x : Fraction) → unsigned_abs (numerator x) < 2 ^ 127 → denominator x < 2 ^ 127
    → IsSmall (numerator x) (denominator x)
parts_small x h k = record { lowest = lowest x; num = h; den = k }
