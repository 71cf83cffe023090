-- Powers of ten and of two may stand in the whole number or in the exponent.
use Rattle.std.proofs.Common.{◌≡◌, ℕ, zero, suc, ◌+◌, ◌*◌, ◌^◌, ◌<◌, ◌≤◌, List, length, lit<, ℤ}
use Rattle.std.proofs.Common.{pos, negsuc, ◌+ℤ◌, sym, ap, subst, ◌∙◌, arith}
use Rattle.std.proofs.lemmas.Int.{ints}
use Rattle.std.proofs.Math.Nat.{one-le-pow, pow-succ', pow-le-pow_right}
use Rattle.std.proofs.lemmas.Int.Digits.{digits_value-lt}
use Rattle.std.specs.Str.Parse.{AllDigits, digits_value}
use Rattle.fx_model.specs.Fraction.{Fraction, ◌*ℚ◌, ◌<ℚ◌, zero_ℚ, one_ℚ, ◌≤ℚ◌, inverse_ℚ}
use Rattle.fx_model.specs.Fraction.{mul-inverse, mul_comm, mul_assoc, zero-mul, lt_not, le_refl}
use Rattle.fx_model.proofs.Fraction.{mul_cancel, mul-one}
use Rattle.fx_model.specs.Powers.{whole, two_to, scaled-shift, whole-mul, whole-lt, zero-whole}
use Rattle.fx_model.specs.Powers.{one-whole}
use Rattle.fx_model.specs.Expression.{ten_to, literal_value}
use Rattle.fx_model.specs.declared.Literal.{Literal}

pub pow_positive : (b k : ℕ) → 0 < b → 0 < b ^ k
pow_positive b k h = one-le-pow k b h

pub whole_positive : (n : ℕ) → 0 < n → zero_ℚ <ℚ whole (pos n)
whole_positive n h = subst (λ z. z <ℚ whole (pos n)) (sym zero-whole)
    (whole-lt (pos 0) (pos n) (omega (arith, ints)))

pub not_zero : (x : Fraction) → zero_ℚ <ℚ x → x ≡ zero_ℚ → ⊥
not_zero x h e = lt_not zero_ℚ x h (subst (λ y. y ≤ℚ zero_ℚ) (sym e) (le_refl zero_ℚ))

-- 1 / b is a * (1 / (a * b))
inverse_times : (a b c : Fraction) → c ≡ a *ℚ b → zero_ℚ <ℚ b → zero_ℚ <ℚ c
    → inverse_ℚ b ≡ a *ℚ inverse_ℚ c
inverse_times a b c e h k = mul_cancel c (inverse_ℚ b) (a *ℚ inverse_ℚ c) k (left ∙ sym right)
  where
    left : c *ℚ inverse_ℚ b ≡ a
    left = ap (λ y. y *ℚ inverse_ℚ b) e ∙ mul_assoc a b (inverse_ℚ b)
        ∙ ap (λ y. a *ℚ y) (mul-inverse b (not_zero b h)) ∙ mul-one a

    right : c *ℚ (a *ℚ inverse_ℚ c) ≡ a
    right = sym (mul_assoc c a (inverse_ℚ c)) ∙ ap (λ y. y *ℚ inverse_ℚ c) (mul_comm c a)
        ∙ mul_assoc a c (inverse_ℚ c) ∙ ap (λ y. a *ℚ y) (mul-inverse c (not_zero c k)) ∙ mul-one a

pub pow_step : (b k : ℕ) → b ^ (k + 1) ≡ b * b ^ k
pow_step b k = let e : k + 1 ≡ suc k = omega arith in ap (λ n. b ^ n) e ∙ pow-succ' b k

whole_step : (k : ℕ) → whole (pos (10 ^ (k + 1))) ≡ whole (pos 10) *ℚ whole (pos (10 ^ k))
whole_step k = ap (λ n. whole (pos n)) (pow_step 10 k) ∙ whole-mul (pos 10) (pos (10 ^ k))

ten_positive : (k : ℕ) → zero_ℚ <ℚ whole (pos (10 ^ k))
ten_positive k = whole_positive (10 ^ k) (pow_positive 10 k (omega arith))

pub ten_step : (z : ℤ) → ten_to (z +ℤ pos 1) ≡ whole (pos 10) *ℚ ten_to z
ten_step (pos k) = whole_step k
ten_step (negsuc zero) = one ∙ sym (mul-inverse (whole (pos 10))
    (not_zero (whole (pos 10)) (whole_positive 10 (omega arith))))
  where
    one : whole (pos 1) ≡ one_ℚ
    one = sym one-whole
ten_step (negsuc (suc k)) =
    let e : suc k + 1 ≡ (k + 1) + 1 = omega arith in
    let z : negsuc (suc k) +ℤ pos 1 ≡ negsuc k = omega (arith, ints) in
    ap ten_to z ∙ inverse_times (whole (pos 10))
    (whole (pos (10 ^ (k + 1)))) (whole (pos (10 ^ (suc k + 1)))) (ap (λ n. whole (pos (10 ^ n))) e
    ∙ whole_step (k + 1)) (ten_positive (k + 1)) (ten_positive (suc k + 1))

-- n * 10^e
abbrev pub decimal : ℕ → ℤ → Literal
decimal n e = record { num = n; two = pos 0; ten = e }

-- n * 2^e
abbrev pub binary : ℕ → ℤ → Literal
binary n e = record { num = n; two = e; ten = pos 0 }

turn : (w t x y : Fraction) → ((w *ℚ x) *ℚ t) *ℚ y ≡ (w *ℚ t) *ℚ (x *ℚ y)
turn w t x y = ap (λ u. u *ℚ y) (mul_assoc w x t ∙ ap (λ u. w *ℚ u) (mul_comm x t)
    ∙ sym (mul_assoc w t x)) ∙ mul_assoc (w *ℚ t) x y

one_ten : (n : ℕ) (e : ℤ)
    → literal_value (decimal (n * 10) e) ≡ literal_value (decimal n (e +ℤ pos 1))
one_ten n e = ap (λ u. (u *ℚ two_to (pos 0)) *ℚ ten_to e) (whole-mul (pos n) (pos 10))
    ∙ turn (whole (pos n)) (two_to (pos 0)) (whole (pos 10)) (ten_to e)
    ∙ ap (λ u. (whole (pos n) *ℚ two_to (pos 0)) *ℚ u) (sym (ten_step e))

-- a factor 10^lost moves into the exponent
pub tens_moved : (lost n : ℕ) (e : ℤ)
    → literal_value (decimal (n * 10 ^ lost) e) ≡ literal_value (decimal n (e +ℤ pos lost))
tens_moved zero n e =
    let a : n * 10 ^ 0 ≡ n = omega arith in
    let b : e ≡ e +ℤ pos 0 = omega (arith, ints) in
    ap (λ m. literal_value (decimal m e)) a ∙ ap (λ f. literal_value (decimal n f)) b
tens_moved (suc k) n e =
    let a : n * 10 ^ suc k ≡ (n * 10) * 10 ^ k = omega (arith, ap (λ m. n * m) (pow-succ' 10 k)) in
    let b : (e +ℤ pos k) +ℤ pos 1 ≡ e +ℤ pos (suc k) = omega (arith, ints) in
    ap (λ m. literal_value (decimal m e)) a ∙ tens_moved k (n * 10) e ∙ one_ten n (e +ℤ pos k)
    ∙ ap (λ f. literal_value (decimal n f)) b

pub twos_moved : (lost n : ℕ) (e : ℤ)
    → literal_value (binary (n * 2 ^ lost) e) ≡ literal_value (binary n (e +ℤ pos lost))
twos_moved lost n e = ap (λ u. u *ℚ ten_to (pos 0)) (sym (scaled-shift (pos n) e lost))

-- with no digits but zeros the value is 0
pub zero_value : (l : Literal) → l.num ≡ 0 → literal_value l ≡ zero_ℚ
zero_value l h = ap (λ n. (whole (pos n) *ℚ two_to l.two) *ℚ ten_to l.ten) h
    ∙ ap (λ y. (y *ℚ two_to l.two) *ℚ ten_to l.ten) (sym zero-whole)
    ∙ ap (λ y. y *ℚ ten_to l.ten) (zero-mul (two_to l.two)) ∙ zero-mul (ten_to l.ten)

-- 30 digits write a number below 10^30
pub few_digits : (w : List ℕ) → AllDigits 10 w → length w ≤ 30 → digits_value 10 w < 10 ^ 30
few_digits w d h =
    let a : digits_value 10 w < 10 ^ length w = digits_value-lt 10 w d in
    let b : 10 ^ length w ≤ 10 ^ 30 = pow-le-pow_right {n = 10} (lit< tt) h in
    omega arith
