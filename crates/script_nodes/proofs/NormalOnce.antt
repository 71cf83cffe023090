-- A number has one normal form.
use Rattle.std.proofs.Common.{◌≡◌, ◌≢◌, ◌⊎◌, ℕ, zero, suc, ◌+◌, ◌*◌, ◌/◌, ◌%◌, ◌^◌, ◌<◌, ◌==◌, ℤ}
use Rattle.std.proofs.Common.{pos, negsuc, ◌+ℤ◌, ◌≤ℤ◌, List, Bool, true, false, refl, sym, ap}
use Rattle.std.proofs.Common.{subst, ◌∙◌, arith, ⊎_elim, inl, inr, lit<, if◌then◌else◌, eqb-true}
use Rattle.std.proofs.Common.{eq-eqb, true≢false, Option}
use Rattle.std.proofs.lemmas.Int.{ints, by_lt_z}
use Rattle.std.proofs.Math.Nat.{pow-succ'}
use Rattle.std.specs.Str.Parse.{IsNumeral, digits_value}
use Rattle.fx_model.specs.Fraction.{Fraction, ◌*ℚ◌, ◌≤ℚ◌, ◌<ℚ◌, zero_ℚ, le_refl, mul_comm, lt_by}
use Rattle.fx_model.specs.Fraction.{lt_not, lt_le, inverse_ℚ, mul-inverse, mul-le, zero-mul, one_ℚ}
use Rattle.fx_model.proofs.Fraction.{mul_cancel}
use Rattle.fx_model.specs.Powers.{whole, two_to, whole-le_out, two_to-positive, one-whole}
use Rattle.fx_model.specs.Cut.Gaps.{gap_le}
use Rattle.fx_model.specs.Expression.{literal_value, ten_to}
use Rattle.fx_model.specs.declared.Literal.{Literal}
use Rattle.literal.specs.declared.scan.Form.{Form}
use Rattle.literal.specs.declared.scan.Form.TheVariants.{Decimal, Binary, Hexadecimal}
use Rattle.literal.specs.Spelling.{Exponent, base, is_hexadecimal, written_as, IsWithinAs}
use Rattle.literal.specs.Normal.{nought, IsReduced, IsNormalOf}
use Rattle.literal.proofs.Tens.{decimal, binary, tens_moved, twos_moved, whole_positive, not_zero}
use Rattle.literal.proofs.Tens.{pow_positive, few_digits, zero_value}
use Rattle.script_nodes.specs.Literals.{tens_out, twos_out, normal_of}

-- ---- powers of ten aren't 0
inverse_positive : (x : Fraction) → zero_ℚ <ℚ x → zero_ℚ <ℚ inverse_ℚ x
inverse_positive x h = lt_by zero_ℚ (inverse_ℚ x) (λ k. lt_not zero_ℚ one_ℚ one_positive
    (subst (λ y. y ≤ℚ zero_ℚ) (mul-inverse x (not_zero x h)) (subst (λ y. x *ℚ inverse_ℚ x ≤ℚ y)
    (mul_comm x zero_ℚ ∙ zero-mul x) (mul-le x (inverse_ℚ x) zero_ℚ (lt_le zero_ℚ x h) k))))
  where
    one_positive : zero_ℚ <ℚ one_ℚ
    one_positive = subst (λ y. zero_ℚ <ℚ y) (sym one-whole) (whole_positive 1 (lit< tt))

ten_positive : (z : ℤ) → zero_ℚ <ℚ ten_to z
ten_positive (pos k) = whole_positive (10 ^ k) (pow_positive 10 k (lit< tt))
ten_positive (negsuc k) = inverse_positive (whole (pos (10 ^ (k + 1))))
    (whole_positive (10 ^ (k + 1)) (pow_positive 10 (k + 1) (lit< tt)))

-- numbers of one value with the same exponents are one
whole_once : (n m : ℕ) → whole (pos n) ≡ whole (pos m) → n ≡ m
whole_once n m e =
    let a : pos n ≤ℤ pos m =
    whole-le_out (pos n) (pos m) (subst (λ y. whole (pos n) ≤ℚ y) e (le_refl (whole (pos n)))) in
    let b : pos m ≤ℤ pos n =
    whole-le_out (pos m) (pos n) (subst (λ y. y ≤ℚ whole (pos n)) e (le_refl (whole (pos n)))) in
    omega (arith, ints)

number_once : (n m : ℕ) (two ten : ℤ) → literal_value (record { num = n; two = two; ten = ten })
    ≡ literal_value (record { num = m; two = two; ten = ten }) → n ≡ m
number_once n m two ten e =
    let out : (x y : Fraction) → x *ℚ ten_to ten ≡ y *ℚ ten_to ten
    → x ≡ y = λ x y h. mul_cancel (ten_to ten) x y (ten_positive ten) (mul_comm (ten_to ten) x ∙ h
    ∙ mul_comm y (ten_to ten)) in
    let within : (x y : Fraction) → x *ℚ two_to two ≡ y *ℚ two_to two
    → x ≡ y = λ x y h. mul_cancel (two_to two) x y (two_to-positive two) (mul_comm (two_to two) x
    ∙ h ∙ mul_comm y (two_to two)) in
    whole_once n m (within (whole (pos n)) (whole (pos m))
    (out (whole (pos n) *ℚ two_to two) (whole (pos m) *ℚ two_to two) e))

-- ---- reduced numbers of one value are one

-- a factor that is left over shows
no_factor : (b n m k : ℕ) → n * b ^ k ≡ m → (b ≡ 10) ⊎ (b ≡ 2) → m % b ≢ 0 → k ≡ 0
no_factor b n m zero e p h = refl
no_factor b n m (suc k) e (inl t) h = absurd (h (ap (λ c. m % c) t ∙ by_ten))
  where
    by_ten : m % 10 ≡ 0
    by_ten = let f : 10 ^ suc k ≡ 10 * 10 ^ k = pow-succ' 10 k in
        let g : n * 10 ^ suc k ≡ m = ap (λ c. n * c ^ suc k) (sym t) ∙ e in
        let u : n * 10 ^ suc k ≡ n * (10 * 10 ^ k) = ap (λ c. n * c) f in omega (arith, u, g)
no_factor b n m (suc k) e (inr t) h = absurd (h (ap (λ c. m % c) t ∙ by_two))
  where
    by_two : m % 2 ≡ 0
    by_two = let f : 2 ^ suc k ≡ 2 * 2 ^ k = pow-succ' 2 k in
        let g : n * 2 ^ suc k ≡ m = ap (λ c. n * c ^ suc k) (sym t) ∙ e in
        let u : n * 2 ^ suc k ≡ n * (2 * 2 ^ k) = ap (λ c. n * c) f in omega (arith, u, g)

decimal_shift : (n m k : ℕ) (f : ℤ)
    → literal_value (decimal n (f +ℤ pos k)) ≡ literal_value (decimal m f) → m % 10 ≢ 0
    → decimal n (f +ℤ pos k) ≡ decimal m f
decimal_shift n m k f e h =
    let same : n * 10 ^ k ≡ m = number_once (n * 10 ^ k) m (pos 0) f (tens_moved k n f ∙ e) in
    let none : k ≡ 0 = no_factor 10 n m k same (inl refl) h in
    let number : n ≡ m = omega (arith, ap (λ j. n * 10 ^ j) none) in
    let exponent : f +ℤ pos k ≡ f = omega (arith, ints) in
    λ i. decimal (number i) (exponent i)

binary_shift : (n m k : ℕ) (f : ℤ)
    → literal_value (binary n (f +ℤ pos k)) ≡ literal_value (binary m f) → m % 2 ≢ 0
    → binary n (f +ℤ pos k) ≡ binary m f
binary_shift n m k f e h =
    let same : n * 2 ^ k ≡ m = number_once (n * 2 ^ k) m f (pos 0) (twos_moved k n f ∙ e) in
    let none : k ≡ 0 = no_factor 2 n m k same (inr refl) h in
    let number : n ≡ m = omega (arith, ap (λ j. n * 2 ^ j) none) in
    let exponent : f +ℤ pos k ≡ f = omega (arith, ints) in
    λ i. binary (number i) (exponent i)

-- the one exponent is above the other by some number
apart_by : (e f : ℤ) → ((k : ℕ) × (e ≡ f +ℤ pos k)) ⊎ ((k : ℕ) × (f ≡ e +ℤ pos k))
apart_by e f = by_lt_z e f (λ h. inr (gap_le e f (omega (arith, ints)))) (λ h. inl (gap_le f e h))

decimals_once : (n m : ℕ) (e f : ℤ) → literal_value (decimal n e) ≡ literal_value (decimal m f)
    → n % 10 ≢ 0 → m % 10 ≢ 0 → decimal n e ≡ decimal m f
decimals_once n m e f v h k = ⊎_elim
    (λ s. let x : decimal n e ≡ decimal n (f +ℤ pos s.0) = ap (decimal n) s.1 in
    x ∙ decimal_shift n m s.0 f (ap literal_value (sym x) ∙ v) k)
    (λ s. let x : decimal m f ≡ decimal m (e +ℤ pos s.0) = ap (decimal m) s.1 in
    sym (x ∙ decimal_shift m n s.0 e (ap literal_value (sym x) ∙ sym v) h))
    (apart_by e f)

binaries_once : (n m : ℕ) (e f : ℤ) → literal_value (binary n e) ≡ literal_value (binary m f)
    → n % 2 ≢ 0 → m % 2 ≢ 0 → binary n e ≡ binary m f
binaries_once n m e f v h k = ⊎_elim
    (λ s. let x : binary n e ≡ binary n (f +ℤ pos s.0) = ap (binary n) s.1 in
    x ∙ binary_shift n m s.0 f (ap literal_value (sym x) ∙ v) k)
    (λ s. let x : binary m f ≡ binary m (e +ℤ pos s.0) = ap (binary m) s.1 in
    sym (x ∙ binary_shift m n s.0 e (ap literal_value (sym x) ∙ sym v) h))
    (apart_by e f)

-- ---- what taking factors out gives: a number of the same value, and reduced

record IsTensOut (n : ℕ) (e : ℤ) (r : Literal) : Type 0 where
  value : literal_value r ≡ literal_value (decimal n e)
  reduced : r.num % 10 ≢ 0
  two : r.two ≡ pos 0

tens_step : (b : Bool) (n : ℕ) (e : ℤ) (more : Literal) → (n % 10 == 0) ≡ b → (n % 10 ≡ 0
    → IsTensOut (n / 10) (e +ℤ pos 1) more) → IsTensOut n e (if b then more else decimal n e)
tens_step true n e more h t =
    let z : n % 10 ≡ 0 = eqb-true (n % 10) 0 h in
    let m : n / 10 * 10 ^ 1 ≡ n = omega arith in
    record {
      value = (t z).value ∙ sym (tens_moved 1 (n / 10) e) ∙ ap (λ j. literal_value (decimal j e)) m;
      reduced = (t z).reduced;
      two = (t z).two;
    }
tens_step false n e more h t =
    record { value = refl; reduced = λ z. true≢false (sym (eq-eqb (n % 10) 0 z) ∙ h); two = refl }

tens_are_out : (k n : ℕ) (e : ℤ) → 0 < n → n < 10 ^ k → IsTensOut n e (tens_out k n e)
unfolding tens_out
tens_are_out zero n e h l = absurd (omega arith)
tens_are_out (suc k) n e h l = tens_step (n % 10 == 0) n e (tens_out k (n / 10) (e +ℤ pos 1)) refl
    (λ z. let p : 10 ^ suc k ≡ 10 * 10 ^ k = pow-succ' 10 k in
    tens_are_out k (n / 10) (e +ℤ pos 1) (omega arith) (omega arith))

record IsTwosOut (n : ℕ) (e : ℤ) (r : Literal) : Type 0 where
  value : literal_value r ≡ literal_value (binary n e)
  reduced : r.num % 2 ≢ 0
  ten : r.ten ≡ pos 0

twos_step : (b : Bool) (n : ℕ) (e : ℤ) (more : Literal) → (n % 2 == 0) ≡ b → (n % 2 ≡ 0
    → IsTwosOut (n / 2) (e +ℤ pos 1) more) → IsTwosOut n e (if b then more else binary n e)
twos_step true n e more h t =
    let z : n % 2 ≡ 0 = eqb-true (n % 2) 0 h in
    let m : n / 2 * 2 ^ 1 ≡ n = omega arith in
    record {
      value = (t z).value ∙ sym (twos_moved 1 (n / 2) e) ∙ ap (λ j. literal_value (binary j e)) m;
      reduced = (t z).reduced;
      ten = (t z).ten;
    }
twos_step false n e more h t =
    record { value = refl; reduced = λ z. true≢false (sym (eq-eqb (n % 2) 0 z) ∙ h); ten = refl }

twos_are_out : (k n : ℕ) (e : ℤ) → 0 < n → n < 2 ^ k → IsTwosOut n e (twos_out k n e)
unfolding twos_out
twos_are_out zero n e h l = absurd (omega arith)
twos_are_out (suc k) n e h l = twos_step (n % 2 == 0) n e
    (twos_out k (n / 2) (e +ℤ pos 1)) refl (λ z. let p : 2 ^ suc k ≡ 2 * 2 ^ k = pow-succ' 2 k in
    twos_are_out k (n / 2) (e +ℤ pos 1) (omega arith) (omega arith))

-- ---- the normal form

is_zero : (l m : Literal) → m.num ≡ 0 → literal_value l ≡ literal_value m → l.num ≡ 0
is_zero l m h v = number_once l.num 0 l.two l.ten (v ∙ zero_value m h
    ∙ sym (zero_value (record { num = 0; two = l.two; ten = l.ten }) refl))

-- zero, reduced to nothing
zero_once : (b : ℕ) (l m : Literal) → 0 % b ≡ 0 → m.num ≡ 0 → literal_value l ≡ literal_value m
    → (l ≡ nought) ⊎ (l.num % b ≢ 0) → nought ≡ l
zero_once b l m z h v (inl e) = sym e
zero_once b l m z h v (inr r) = absurd (r (ap (λ n. n % b) (is_zero l m h v) ∙ z))

not_nought : (b : ℕ) (l r : Literal) → 0 % b ≡ 0 → literal_value r ≡ literal_value l
    → r.num % b ≢ 0 → l ≡ nought → ⊥
not_nought b l r z v h e = h (ap (λ n. n % b) (is_zero r l (ap (λ (m : Literal). m.num) e) v) ∙ z)

same_decimal : (l r : Literal) → (l ≡ nought) ⊎ IsReduced Decimal l
    → literal_value r ≡ literal_value l → r.num % 10 ≢ 0 → r.two ≡ pos 0 → r ≡ l
same_decimal l r (inl e) v h t = absurd (not_nought 10 l r refl v h e)
same_decimal l r (inr d) v h t =
    let x : r ≡ decimal r.num r.ten = (λ i. record { num = r.num; two = t i; ten = r.ten }) in
    let y : l ≡ decimal l.num l.ten = (λ i. record { num = l.num; two = d.1 i; ten = l.ten }) in
    x ∙ decimals_once r.num l.num r.ten l.ten (ap literal_value (sym x) ∙ v
    ∙ ap literal_value y) h d.0 ∙ sym y

same_binary : (l r : Literal) → (l ≡ nought) ⊎ IsReduced Binary l
    → literal_value r ≡ literal_value l → r.num % 2 ≢ 0 → r.ten ≡ pos 0 → r ≡ l
same_binary l r (inl e) v h t = absurd (not_nought 2 l r refl v h e)
same_binary l r (inr d) v h t =
    let x : r ≡ binary r.num r.two = (λ i. record { num = r.num; two = r.two; ten = t i }) in
    let y : l ≡ binary l.num l.two = (λ i. record { num = l.num; two = l.two; ten = d.1 i }) in
    x ∙ binaries_once r.num l.num r.two l.two (ap literal_value (sym x) ∙ v
    ∙ ap literal_value y) h d.0 ∙ sym y

some : (n : ℕ) → n ≢ 0 → 0 < n
some zero h = absurd (h refl)
some (suc n) h = omega arith

first : {A B C : Type 0} → A ⊎ (B × C) → A ⊎ B
first (inl a) = inl a
first (inr p) = inr p.0

normal_decimal : (b : Bool) (n : ℕ) (e : ℤ) (l : Literal) → (n == 0) ≡ b → n < 10 ^ 30
    → literal_value l ≡ literal_value (decimal n e) → (l ≡ nought) ⊎ IsReduced Decimal l
    → (if b then nought else tens_out 30 n e) ≡ l
normal_decimal true n e l t h v r = zero_once 10 l (decimal n e) refl (eqb-true n 0 t) v (first r)
normal_decimal false n e l t h v r =
    let o = tens_are_out 30 n e (some n (λ z. true≢false (sym (eq-eqb n 0 z) ∙ t))) h in
    same_decimal l (tens_out 30 n e) r (o.value ∙ sym v) o.reduced o.two

normal_binary : (b : Bool) (n : ℕ) (e : ℤ) (l : Literal) → (n == 0) ≡ b
    → n < 2 ^ 100 → literal_value l ≡ literal_value (binary n e) → (l ≡ nought) ⊎ IsReduced Binary l
    → (if b then nought else twos_out 100 n e) ≡ l
normal_binary true n e l t h v r = zero_once 2 l (binary n e) refl (eqb-true n 0 t) v (first r)
normal_binary false n e l t h v r =
    let o = twos_are_out 100 n e (some n (λ z. true≢false (sym (eq-eqb n 0 z) ∙ t))) h in
    same_binary l (twos_out 100 n e) r (o.value ∙ sym v) o.reduced o.ten

-- The number of a literal within its limits has the one normal form.
pub normal_is : (f : Form) (w p : List ℕ) (e : Option Exponent) (l : Literal)
    → IsNumeral (base (is_hexadecimal f)) w → IsWithinAs f w (written_as f w p e)
    → IsNormalOf f (written_as f w p e) l → normal_of f (written_as f w p e) ≡ l
normal_is Decimal w p e l d h n = normal_decimal _ _ _ l refl h.0 n.value n.reduced
normal_is Binary w p e l d h n =
    let few : digits_value 10 w < 10 ^ 30 = few_digits w d.1 h.0 in
    normal_binary _ _ _ l refl (omega arith) n.value n.reduced
normal_is Hexadecimal w p e l d h n =
    normal_binary _ _ _ l refl (omega (arith, h.0)) n.value n.reduced

-- ---- and it is one
zero_normal : (n : ℕ) (l : Literal) → l.num ≡ n → (n == 0) ≡ true
    → literal_value nought ≡ literal_value l
zero_normal n l h t = zero_value nought refl ∙ sym (zero_value l (h ∙ eqb-true n 0 t))

decimal_normal : (b : Bool) (n : ℕ) (e : ℤ) → (n == 0) ≡ b → n < 10 ^ 30
    → IsNormalOf Decimal (decimal n e) (if b then nought else tens_out 30 n e)
decimal_normal true n e t h =
    record { value = zero_normal n (decimal n e) refl t; reduced = inl refl }
decimal_normal false n e t h =
    let o = tens_are_out 30 n e (some n (λ z. true≢false (sym (eq-eqb n 0 z) ∙ t))) h in
    record { value = o.value; reduced = inr (o.reduced, o.two) }

binary_normal : (b : Bool) (n : ℕ) (e : ℤ) → (n == 0) ≡ b → n < 2 ^ 100
    → IsNormalOf Binary (binary n e) (if b then nought else twos_out 100 n e)
binary_normal true n e t h =
    record { value = zero_normal n (binary n e) refl t; reduced = inl refl }
binary_normal false n e t h =
    let o = twos_are_out 100 n e (some n (λ z. true≢false (sym (eq-eqb n 0 z) ∙ t))) h in
    record { value = o.value; reduced = inr (o.reduced, o.ten) }

pub normal_form : (f : Form) (w p : List ℕ) (e : Option Exponent)
    → IsNumeral (base (is_hexadecimal f)) w → IsWithinAs f w (written_as f w p e)
    → IsNormalOf f (written_as f w p e) (normal_of f (written_as f w p e))
normal_form Decimal w p e d h = decimal_normal _ _ _ refl h.0
normal_form Binary w p e d h =
    let few : digits_value 10 w < 10 ^ 30 = few_digits w d.1 h.0 in
    binary_normal _ _ _ refl (omega arith)
normal_form Hexadecimal w p e d h = let n = binary_normal _ _ _ refl (omega (arith, h.0)) in
    record { value = n.value; reduced = n.reduced }
