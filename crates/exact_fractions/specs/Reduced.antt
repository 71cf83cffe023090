-- Fractions in lowest terms: the numerator and the denominator of a fraction.
use mathlib.Core.Quot.{lift}
use lib.IntN.{neg_ℤ, ℤ_set}
use Rattle.std.specs.Prelude.{◌≡◌, ℕ, ℤ, pos, ◌+◌, ◌-◌, ◌*◌, ◌/◌, ◌^◌, ◌<◌, nat_lt, Bool, true}
use Rattle.std.specs.Prelude.{false, if◌then◌else◌, refl}
use Rattle.std.specs.Int.{◌∣◌}
use Rattle.std.proofs.Common.{arith, sym, ap, ◌∙◌, subst, zero, suc, ⊎_elim}
use Rattle.std.proofs.Math.Nat.{ℕ_set, mul-pos, dvd-mul_left, div-mul_cancel, mul-le-mul_right}
use Rattle.std.proofs.lemmas.Bool.{cases_lt, ltb-true, ltb-false}
use Rattle.std.proofs.lemmas.Nat.Gcd.{dvd_antisymm}
use Rattle.std.specs.Coded.{le_prop}
use Rattle.std.specs.Int.RustNames.{unsigned_abs, int_lt}
use Rattle.fx_model.specs.Powers.{whole}
use Rattle.fx_model.specs.Fraction.{Ratio, Same, Fraction, ◌/ℚ◌, of_ratio}
use Rattle.exact_fractions.specs.Divisors.{gcd, gcd_is, gcd_positive, AreCoprime, divides_other}
use Rattle.exact_fractions.specs.Divisors.{cofactors}

-- ---- as it is written: |plus - minus|, and its greatest common divisor with what it stands over
abbrev pub size : Ratio → ℕ
size a = (a.plus - a.minus) + (a.minus - a.plus)

-- The number by which a fraction as written is reduced: the greatest that divides its numerator's
-- size and its denominator.
abbrev pub divisor : Ratio → ℕ
divisor a = gcd (size a) a.den

-- The number of this size, below 0 where the flag is true; 0 has no sign.
abbrev pub signed_number : Bool → ℕ → ℤ
signed_number negative n = if negative then neg_ℤ (pos n) else pos n

-- The numerator in lowest terms of a fraction as it is written, with the fraction's sign.
abbrev pub numerator_ratio : Ratio → ℤ
numerator_ratio a = signed_number (nat_lt a.plus a.minus) (size a / divisor a)

-- The denominator in lowest terms of a fraction as it is written, which has no sign.
abbrev pub denominator_ratio : Ratio → ℕ
denominator_ratio a = a.den / divisor a

-- ---- it is one whatever the fraction is written as
cross : (p n d q m e : ℕ) → p * n ≡ 0 → q * m ≡ 0 → p * e + m * d ≡ q * d + n * e
    → (p + n) * e ≡ (q + m) * d
cross zero n d zero m e a b h = omega arith
cross zero n d (suc q) zero e a b h = omega arith
cross zero n d (suc q) (suc m) e a b h = absurd (omega arith)
cross (suc p) zero d zero m e a b h = omega arith
cross (suc p) zero d (suc q) zero e a b h = omega arith
cross (suc p) zero d (suc q) (suc m) e a b h = absurd (omega arith)
cross (suc p) (suc n) d q m e a b h = absurd (omega arith)

times_sub : (k a b : ℕ) → (a - b) * k + b * k ≡ a * k + (b - a) * k
times_sub k a b = let e : (a - b) + b ≡ a + (b - a) = omega arith in
    omega (arith, ap (λ n. n * k) e)

one_side : (a b : ℕ) → (a - b) * (b - a) ≡ 0
one_side a b = ⊎_elim (λ l. let z : a - b ≡ 0 = omega arith in ap (λ n. n * (b - a)) z
    ∙ none (b - a)) (λ l. let z : b - a ≡ 0 = omega arith in ap (λ n. (a - b) * n) z
    ∙ nought (a - b)) (cases_lt a b)
  where
    none : (n : ℕ) → 0 * n ≡ 0
    none n = omega arith

    nought : (n : ℕ) → n * 0 ≡ 0
    nought n = omega arith

sizes_cross : (x y : Ratio) → Same x y → size x * y.den ≡ size y * x.den
sizes_cross x y h = cross (x.plus - x.minus) (x.minus - x.plus) x.den (y.plus - y.minus)
    (y.minus - y.plus) y.den (one_side x.plus x.minus) (one_side y.plus y.minus)
    (omega (arith, h, times_sub y.den x.plus x.minus, times_sub x.den y.plus y.minus))

-- a / d = b / e in lowest terms
lowest_divides : (a d b e : ℕ) → AreCoprime a d → a * e ≡ b * d → d ∣ e
lowest_divides a d b e c h = divides_other a e d c (subst (λ n. d ∣ n) (sym h) (dvd-mul_left d b))

pub lowest_same : (a d b e : ℕ) → 0 < d → AreCoprime a d → AreCoprime b e → a * e ≡ b * d
    → (a ≡ b) × (d ≡ e)
lowest_same a d b e p c f h =
    let s : d ≡ e = dvd_antisymm (lowest_divides a d b e c h) (lowest_divides b e a d f (sym h)) in
    (cancel a b d p (ap (λ n. a * n) s ∙ h), s)
  where
    cancel : (m n k : ℕ) → 0 < k → m * k ≡ n * k → m ≡ n
    cancel m n k l q = grind arith

-- the parts without their greatest common divisors still cross
cofactors_cross : (a d g b e k : ℕ) → 0 < g → 0 < k → g ∣ a → g ∣ d → k ∣ b → k ∣ e → a * e ≡ b * d
    → (a / g) * (e / k) ≡ (b / k) * (d / g)
cofactors_cross a d g b e k p q ga gd kb ke h =
    cancel ((a / g) * (e / k)) ((b / k) * (d / g)) (g * k) (mul-pos p q)
    (regroup (a / g) (e / k) g k ∙ ap (λ n. n * ((e / k) * k)) (div-mul_cancel g ga)
    ∙ ap (λ n. a * n) (div-mul_cancel k ke) ∙ h
    ∙ sym (ap (λ n. n * ((d / g) * g)) (div-mul_cancel k kb)
    ∙ ap (λ n. b * n) (div-mul_cancel g gd)) ∙ sym (regroup_other (b / k) (d / g) g k))
  where
    cancel : (m n c : ℕ) → 0 < c → m * c ≡ n * c → m ≡ n
    cancel m n c l r = grind arith

    regroup : (x y u v : ℕ) → (x * y) * (u * v) ≡ (x * u) * (y * v)
    regroup x y u v = omega arith

    regroup_other : (x y u v : ℕ) → (x * y) * (u * v) ≡ (x * v) * (y * u)
    regroup_other x y u v = omega arith

parts_same : (x y : Ratio) → Same x y → (size x / divisor x ≡ size y / divisor y)
    × (denominator_ratio x ≡ denominator_ratio y)
parts_same x y h =
    let g = gcd_is (size x) x.den in
    let k = gcd_is (size y) y.den in
    let p = gcd_positive (size x) x.den x.positive in
    let q = gcd_positive (size y) y.den y.positive in
    lowest_same (size x / divisor x) (x.den / divisor x) (size y / divisor y) (y.den / divisor y)
    (quotient_positive x.den (divisor x) p g.1 x.positive)
    (cofactors (size x) x.den (divisor x) p g) (cofactors (size y) y.den (divisor y) q k)
    (cofactors_cross (size x) x.den (divisor x) (size y) y.den (divisor y) p q g.0 g.1 k.0 k.1
    (sizes_cross x y h))
  where
    quotient_positive : (d g : ℕ) → 0 < g → g ∣ d → 0 < d → 0 < d / g
    quotient_positive d g p h l = by (d / g) (div-mul_cancel g h)
      where
        by : (n : ℕ) → n * g ≡ d → 0 < n
        by zero e = absurd (omega arith)
        by (suc n) e = omega arith

below_over : (x y : Ratio) → Same x y → x.plus < x.minus → y.plus < y.minus
below_over x y h l =
    ⊎_elim (λ t. t) (λ t. absurd (let p = y.positive in
    omega (arith, h, mul-le-mul_right y.den l, mul-le-mul_right x.den t))) (cases_lt y.plus y.minus)

signs_same : (x y : Ratio) → Same x y → nat_lt x.plus x.minus ≡ nat_lt y.plus y.minus
signs_same x y h = by (nat_lt x.plus x.minus) (nat_lt y.plus y.minus) refl refl
  where
    by : (s t : Bool) → nat_lt x.plus x.minus ≡ s → nat_lt y.plus y.minus ≡ t → s ≡ t
    by true true e f = refl
    by true false e f = absurd (let a = below_over x y h (ltb-true x.plus x.minus e) in let b =
        ltb-false y.plus y.minus f in omega arith)
    by false true e f = absurd (let a = below_over y x (sym h) (ltb-true y.plus y.minus f) in
        let b = ltb-false x.plus x.minus e in omega arith)
    by false false e f = refl

numerators_same : (x y : Ratio) → Same x y → numerator_ratio x ≡ numerator_ratio y
numerators_same x y h = ap (λ t. signed_number t (size x / divisor x)) (signs_same x y h)
    ∙ ap (signed_number (nat_lt y.plus y.minus)) (parts_same x y h).0

-- ---- The fraction x is numerator x / denominator x, with the denominator above 0 and no common
-- divisor but 1.
pub numerator : Fraction → ℤ
numerator x = lift ℤ_set numerator_ratio numerators_same x

pub denominator : Fraction → ℕ
denominator x = lift ℕ_set denominator_ratio (λ x y h. (parts_same x y h).1) x

-- ---- laws
pub numerator-mk : (a : Ratio) → numerator (of_ratio a) ≡ numerator_ratio a
unfolding numerator
numerator-mk a = refl

pub denominator-mk : (a : Ratio) → denominator (of_ratio a) ≡ denominator_ratio a
unfolding denominator
denominator-mk a = refl

-- the fraction n / d
abbrev pub over : ℤ → ℕ → Fraction
over n d = whole n /ℚ whole (pos d)

-- a whole number over a divisor of it
abbrev pub cofactor : ℤ → ℕ → ℤ
cofactor n g = signed_number (int_lt n (pos 0)) (unsigned_abs n / g)

-- Lowest terms, and nothing else.
pub record IsLowest (n : ℤ) (d : ℕ) : Type 0 where
  pub positive : 0 < d
  pub coprime : gcd (unsigned_abs n) d ≡ 1

pub IsLowest-prop : (n : ℤ) (d : ℕ) → IsProp (IsLowest n d)
IsLowest-prop n d = hlevel (ℕ_set, le_prop)

-- such, with both numbers below 2^127
pub record IsSmall (n : ℤ) (d : ℕ) : Type 0 where
  pub lowest : IsLowest n d
  pub num : unsigned_abs n < 2 ^ 127
  pub den : d < 2 ^ 127

pub IsSmall-prop : (n : ℤ) (d : ℕ) → IsProp (IsSmall n d)
IsSmall-prop n d = hlevel (IsLowest-prop, le_prop)
