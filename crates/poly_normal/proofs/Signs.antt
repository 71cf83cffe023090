-- Literals as fractions, by the sign of their exponents.
use borrow.Author.Differences.{up, down}
use Rattle.std.specs.Prelude.{◌≡◌, ◌≢◌, ℕ, ℤ, pos, negsuc, ◌≤ℤ◌, ◌<ℤ◌, ◌*◌, ◌/◌, ◌%◌, ◌^◌, ◌<◌, ◌≤◌}
use Rattle.std.specs.Prelude.{unsigned_abs, Option, Some, None, refl}
use Rattle.std.proofs.Common.{arith, sym, ap, ◌∙◌, subst, inl, inr, lit<}
use Rattle.std.proofs.lemmas.Int.{ints}
use Rattle.std.proofs.Math.Nat.{pow-le-pow_right, div-one, one-le-pow, mul-le-mul_left}
use Rattle.fx_model.specs.declared.Literal.{Literal}
use Rattle.poly_normal.specs.Form.{common_divisor_to, literal_top, literal_bottom}
use Rattle.poly_normal.specs.Ratio.{IsPlain, IsRatio, reduced_top, reduced_bottom}
use Rattle.poly_normal.specs.declared.literals.Ratio.{Ratio}
use Rattle.poly_normal.proofs.Divisors.{odd_divisor, divisor-one}

no_powers : (n a b : ℕ) → a ≡ 0 → b ≡ 0 → (n * 2 ^ a) * 10 ^ b ≡ n
no_powers n a b e f = ap (λ x. (n * 2 ^ x) * 10 ^ b) e ∙ ap (λ x. (n * 2 ^ 0) * 10 ^ x) f
    ∙ (let s : (n * 2 ^ 0) * 10 ^ 0 ≡ n = omega arith in s)

tens_alone : (a b k : ℕ) → a ≡ 0 → b ≡ k → 2 ^ a * 10 ^ b ≡ 10 ^ k
tens_alone a b k e f = ap (λ x. 2 ^ x * 10 ^ b) e ∙ ap (λ x. 2 ^ 0 * 10 ^ x) f
    ∙ (let s : 2 ^ 0 * 10 ^ k ≡ 10 ^ k = omega arith in s)

twos_alone : (a b k : ℕ) → a ≡ k → b ≡ 0 → 2 ^ a * 10 ^ b ≡ 2 ^ k
twos_alone a b k e f = ap (λ x. 2 ^ x * 10 ^ b) e ∙ ap (λ x. 2 ^ k * 10 ^ x) f
    ∙ (let s : 2 ^ k * 10 ^ 0 ≡ 2 ^ k = omega arith in s)

-- ---- parts of an exponent
up_below : (z : ℤ) → z <ℤ pos 0 → up z ≡ 0
up_below (pos n) h = absurd (omega (arith, ints))
up_below (negsuc n) h = refl

down_below : (z : ℤ) → z <ℤ pos 0 → down z ≡ unsigned_abs z
down_below (pos n) h = absurd (omega (arith, ints))
down_below (negsuc n) h = refl

up_above : (z : ℤ) → pos 0 ≤ℤ z → up z ≡ unsigned_abs z
up_above (pos n) h = refl
up_above (negsuc n) h = absurd (omega (arith, ints))

down_above : (z : ℤ) → pos 0 ≤ℤ z → down z ≡ 0
down_above (pos n) h = refl
down_above (negsuc n) h = absurd (omega (arith, ints))

up_zero : (z : ℤ) → z ≡ pos 0 → up z ≡ 0
up_zero z e = ap up e

down_zero : (z : ℤ) → z ≡ pos 0 → down z ≡ 0
down_zero z e = ap down e

-- the reduced fraction, from the two numbers
ratio_of : (l : Literal) (t b : ℕ) (r : Option Ratio) → literal_top l ≡ t
    → literal_bottom l ≡ b → IsRatio (t / common_divisor_to b t b) (b / common_divisor_to b t b) r
    → IsRatio (reduced_top l) (reduced_bottom l) r
ratio_of l t b r e f h =
    subst (λ x. IsRatio (x / common_divisor_to (literal_bottom l) x (literal_bottom l))
    (literal_bottom l / common_divisor_to (literal_bottom l) x (literal_bottom l)) r) (sym e)
    (subst (λ y. IsRatio (t / common_divisor_to y t y) (y / common_divisor_to y t y) r) (sym f) h)

-- ---- a negative power of ten
no_twos : (l : Literal) → IsPlain l → l.ten <ℤ pos 0 → (l.two ≡ pos 0) × (negsuc 37 ≤ℤ l.ten)
no_twos l p h = elim p [ inl q ↦ q | inr q ↦ absurd (let e = q.0 in omega (arith, ints)) ]

pub negative_ten_small : (l : Literal) (k : ℕ) → IsPlain l → l.ten <ℤ pos 0 → k ≡ unsigned_abs l.ten
    → 2 ^ 127 ≤ 1 * 10 ^ k → ⊥
negative_ten_small l k p h e large =
    let q = no_twos l p h in let low = q.1 in
    let few : k ≤ 38 = omega (arith, ints) in
    let most : 10 ^ k ≤ 10 ^ 38 = pow-le-pow_right (omega arith) few in
    let less : 10 ^ 38 < 2 ^ 127 = lit< tt in omega arith

pub negative_ten_ratio : (l : Literal) (k b : ℕ) (r : Option Ratio)
    → IsPlain l → l.ten <ℤ pos 0 → k ≡ unsigned_abs l.ten → b ≡ 1 * 10 ^ k
    → IsRatio (l.num / common_divisor_to b l.num b) (b / common_divisor_to b l.num b) r
    → IsRatio (reduced_top l) (reduced_bottom l) r
negative_ten_ratio l k b r p h e f s =
    let q = no_twos l p h in
    ratio_of l l.num b r (no_powers l.num (up l.two) (up l.ten) (up_zero l.two q.0)
    (up_below l.ten h)) (tens_alone (down l.two) (down l.ten) k (down_zero l.two q.0)
    (down_below l.ten h ∙ sym e) ∙ (let g : 10 ^ k ≡ b = omega arith in g)) s

-- ---- a negative power of two
no_tens : (l : Literal) → IsPlain l → l.two <ℤ pos 0 → (l.ten ≡ pos 0) × (l.num % 2 ≢ 0)
no_tens l p h = elim p [ inl q ↦ absurd (let e = q.0 in omega (arith, ints)) | inr q ↦ q ]

pub negative_two_ratio : (l : Literal) (k b : ℕ) (r : Option Ratio)
    → IsPlain l → l.two <ℤ pos 0 → k ≡ unsigned_abs l.two → b ≡ 1 * 2 ^ k
    → IsRatio (l.num / common_divisor_to b l.num b) (b / common_divisor_to b l.num b) r
    → IsRatio (reduced_top l) (reduced_bottom l) r
negative_two_ratio l k b r p h e f s =
    let q = no_tens l p h in
    ratio_of l l.num b r (no_powers l.num (up l.two) (up l.ten) (up_below l.two h)
    (up_zero l.ten q.0)) (twos_alone (down l.two) (down l.ten) k (down_below l.two h ∙ sym e)
    (down_zero l.ten q.0) ∙ (let g : 2 ^ k ≡ b = omega arith in g)) s

pub negative_two_large : (l : Literal) (k : ℕ) → IsPlain l → l.two <ℤ pos 0 → k ≡ unsigned_abs l.two
    → 2 ^ 127 ≤ 1 * 2 ^ k → IsRatio (reduced_top l) (reduced_bottom l) None
negative_two_large l k p h e large =
    negative_two_ratio l k (2 ^ k) None p h e (let g : 2 ^ k ≡ 1 * 2 ^ k = omega arith in g)
    (inr (subst (λ d. 2 ^ 127 ≤ 2 ^ k / d) (sym (odd_divisor l.num k (no_tens l p h).1))
    (subst (λ n. 2 ^ 127 ≤ n) (sym (div-one (2 ^ k))) (omega arith))))

-- ---- no negative power
whole_top : (l : Literal) (j k m n : ℕ) → pos 0 ≤ℤ l.ten → pos 0 ≤ℤ l.two → j ≡ unsigned_abs l.two
    → k ≡ unsigned_abs l.ten → m ≡ l.num * 2 ^ j → n ≡ m * 10 ^ k → literal_top l ≡ n
whole_top l j k m n s t e f g h =
    let a : up l.two ≡ j = up_above l.two t ∙ sym e in
    let b : up l.ten ≡ k = up_above l.ten s ∙ sym f in
    ap (λ x. (l.num * 2 ^ x) * 10 ^ up l.ten) a ∙ ap (λ x. (l.num * 2 ^ j) * 10 ^ x) b
    ∙ ap (λ x. x * 10 ^ k) (sym g) ∙ sym h

whole_bottom : (l : Literal) → pos 0 ≤ℤ l.ten → pos 0 ≤ℤ l.two → literal_bottom l ≡ 1
whole_bottom l s t =
    tens_alone (down l.two) (down l.ten) 0 (down_above l.two t) (down_above l.ten s)

whole_by : (l : Literal) (n : ℕ) (r : Option Ratio) → pos 0 ≤ℤ l.ten → pos 0 ≤ℤ l.two
    → literal_top l ≡ n → IsRatio n 1 r → IsRatio (reduced_top l) (reduced_bottom l) r
whole_by l n r s t e h = ratio_of l n 1 r e (whole_bottom l s t)
    (subst (λ d. IsRatio (n / d) (1 / d) r) (sym (divisor-one n)) (subst (λ x. IsRatio x (1 / 1) r)
    (sym (div-one n)) (subst (λ x. IsRatio n x r) (sym (div-one 1)) h)))

pub whole_ratio : (l : Literal) (j k m n : ℕ) (r : Ratio) → pos 0 ≤ℤ l.ten → pos 0 ≤ℤ l.two
    → j ≡ unsigned_abs l.two → k ≡ unsigned_abs l.ten → m ≡ l.num * 2 ^ j → n ≡ m * 10 ^ k
    → n < 2 ^ 127 → r.top ≡ n → r.bottom ≡ 1 → IsRatio (reduced_top l) (reduced_bottom l) (Some r)
whole_ratio l j k m n r s t e f g h below top bottom =
    whole_by l n (Some r) s t (whole_top l j k m n s t e f g h) (top, bottom, below, lit< tt)

pub whole_large : (l : Literal) (j k m : ℕ) → pos 0 ≤ℤ l.ten → pos 0 ≤ℤ l.two
    → j ≡ unsigned_abs l.two → k ≡ unsigned_abs l.ten → m ≡ l.num * 2 ^ j → 2 ^ 127 ≤ m * 10 ^ k
    → IsRatio (reduced_top l) (reduced_bottom l) None
whole_large l j k m s t e f g h =
    whole_by l (m * 10 ^ k) None s t (whole_top l j k m (m * 10 ^ k) s t e f g refl) (inl h)

pub whole_larger : (l : Literal) (j : ℕ) → pos 0 ≤ℤ l.ten → pos 0 ≤ℤ l.two → j ≡ unsigned_abs l.two
    → 2 ^ 127 ≤ l.num * 2 ^ j → IsRatio (reduced_top l) (reduced_bottom l) None
whole_larger l j s t e h = whole_large l j (unsigned_abs l.ten)
    (l.num * 2 ^ j) s t e refl refl (grown (l.num * 2 ^ j) (unsigned_abs l.ten) h)
  where
    grown : (m k : ℕ) → 2 ^ 127 ≤ m → 2 ^ 127 ≤ m * 10 ^ k
    grown m k h = let p : 1 ≤ 10 ^ k = one-le-pow k 10 (omega arith) in
        let q = mul-le-mul_left m p in omega arith

pub power_above : (base k b : ℕ) → 0 < base → b ≡ 1 * base ^ k → 0 < b
power_above base k b h e = let p : 1 ≤ base ^ k = one-le-pow k base h in omega arith
