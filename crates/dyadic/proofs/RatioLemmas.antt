-- Quotients of whole numbers of 64 bits.
use lib.Count.{count_leading_zeros}
use lib.IntN.{neg_ℤ}
use Rattle.std.proofs.Common.{◌≡◌, ℕ, suc, ℤ, pos, negsuc, ◌+ℤ◌, ◌*ℤ◌, ◌≤ℤ◌, ◌<◌, ◌≤◌, ◌*◌, ◌+◌}
use Rattle.std.proofs.Common.{◌-◌, ◌%◌, ◌^◌, Bool, true, false, nat_lt, arith, ap, sym, subst, ◌∙◌}
use Rattle.std.proofs.Common.{refl, inl, inr, ⊎_elim}
use Rattle.std.proofs.Math.Nat.{mul-le-mul_right}
use Rattle.std.proofs.lemmas.Nat.{leading_top, shl_whole, pow-add}
use Rattle.std.proofs.lemmas.Bool.{cases_lt, ltb-true, ltb-false}
use Rattle.std.proofs.lemmas.Int.{ints}
use Rattle.fx_model.specs.Fraction.{Fraction, ◌*ℚ◌, ◌≤ℚ◌, ◌<ℚ◌, neg_ℚ, zero_ℚ, inverse_ℚ, neg-neg}
use Rattle.fx_model.specs.Fraction.{le_refl, lt_le, lt_not, mul_assoc, one-mul, mul-inverse}
use Rattle.fx_model.proofs.Fraction.{neg-lt}
use Rattle.fx_model.specs.Powers.{whole, whole-mul, whole-lt, zero-whole, two_to-pos, scaled}
use Rattle.fx_model.specs.Powers.{scaled-shift, scaled-zero}
use Rattle.fx_model.specs.Grid.{signed, scaled-neg}
use Rattle.fx_model.proofs.Grid.{signed-signed}
use Rattle.fx_model.specs.Cut.{Cuts}
use Rattle.fx_model.proofs.Cut.{quotient_is}
use Rattle.dyadic.specs.Floors.{Floored, IsFloor}
use Rattle.dyadic.specs.declared.floor.Floor.{Floor}
use Rattle.dyadic.proofs.GridLemmas.{same_scaled}
use Rattle.dyadic.proofs.ProductLemmas.{mul-signed}
use Rattle.dyadic.proofs.QuotientLemmas.{raised}

-- ---- a number without the zeros before its first digit
pub lifted_facts : (n : ℕ) → 0 < n → n < 18446744073709551616
    → (count_leading_zeros 64 n < 64) × ((n * 2 ^ count_leading_zeros 64 n) % 18446744073709551616
    ≡ n * 2 ^ count_leading_zeros 64 n) × (9223372036854775808 ≤ n * 2 ^ count_leading_zeros 64 n)
lifted_facts n p h =
    let l = leading_top 64 n p h in
    let s = count_leading_zeros 64 n in
    let few : l.0 + s ≡ 63 = (let a = l.1 in omega arith) in
    let long : 2 ^ l.0 * 2 ^ s ≤ n * 2 ^ s = mul-le-mul_right (2 ^ s) l.2 in
    let top : 2 ^ l.0 * 2 ^ s ≡ 2 ^ 63 = sym (pow-add 2 l.0 s) ∙ ap (λ m. 2 ^ m) few in
    (omega arith, shl_whole n (suc l.0) s 64 l.3 (omega arith), omega arith)

-- ---- what a guess of a quotient leaves wraps where the guess is too high, and is then more than
-- the whole
pub guess_is_right : (whole product rest : ℕ) → rest ≡ (whole
    + (340282366920938463463374607431768211456 - product)) % 340282366920938463463374607431768211456
    → whole < 340282366920938463463374607431768211456
    → product < 340282366920938463463374607431768211456 → rest ≤ whole → product + rest ≡ whole
guess_is_right whole product rest e h k l =
    ⊎_elim (λ t. absurd (omega arith)) (λ t. omega arith) (cases_lt whole product)

-- the quotient of two numbers of 64 bits, with 61 places more, has 61 or 62 bits
module _ (n d q r : ℕ) (value : q * d + r ≡ n * 2305843009213693952)
    (rest : r < d) (n_long : 9223372036854775808 ≤ n) (n_few : n < 18446744073709551616)
    (d_long : 9223372036854775808 ≤ d) (d_few : d < 18446744073709551616) where
  pub quotient_long : 1152921504606846976 ≤ q
  quotient_long = ⊎_elim (λ l. let p : (q + 1) * d ≤ 1152921504606846976 * d = mul-le-mul_right d
      (omega arith) in absurd (omega arith)) (λ l. l) (cases_lt q 1152921504606846976)

  pub quotient_few : q < 4611686018427387904
  quotient_few =
      ⊎_elim (λ l. l) (λ l. let p : 4611686018427387904 * d ≤ q * d = mul-le-mul_right d l in
      absurd (omega arith)) (cases_lt q 4611686018427387904)

-- ---- n * 2^t / d by the quotient of both without the zeros before their first digits
pub ratio_cuts : (n d l r top bottom q rest : ℕ) (t place : ℤ) (x : Fraction) → top ≡ n * 2 ^ l
    → bottom ≡ d * 2 ^ r → rest < bottom → q * bottom + rest ≡ top * 2305843009213693952
    → (place +ℤ pos 61) +ℤ pos l ≡ t +ℤ pos r → whole (pos d) *ℚ x ≡ scaled (pos n) t
    → Cuts x q place (nat_lt 0 rest)
ratio_cuts n d l r top bottom q rest t place x is_top is_bottom small value at h =
    quotient_is q rest bottom place x small (scaled (pos (q * bottom + rest)) place)
    (left ∙ right) false refl
  where
    longer : pos bottom ≡ (pos (2 ^ r) *ℤ pos d)
    longer = ap pos is_bottom ∙ omega (arith, ints)

    left : whole (pos bottom) *ℚ x ≡ scaled (pos n) (t +ℤ pos r)
    left = ap (λ w. w *ℚ x) (ap whole longer ∙ whole-mul (pos (2 ^ r)) (pos d))
        ∙ mul_assoc (whole (pos (2 ^ r))) (whole (pos d)) x
        ∙ ap (λ y. whole (pos (2 ^ r)) *ℚ y) h
        ∙ ap (λ w. w *ℚ scaled (pos n) t) (sym (two_to-pos r)) ∙ raised (pos n) t (pos r)

    right : scaled (pos n) (t +ℤ pos r) ≡ scaled (pos (q * bottom + rest)) place
    right = ap (scaled (pos n)) (sym at) ∙ scaled-shift (pos n) (place +ℤ pos 61) l
        ∙ ap (λ m. scaled (pos m) (place +ℤ pos 61)) (sym is_top)
        ∙ scaled-shift (pos top) place 61 ∙ ap (λ m. scaled (pos m) place) (sym value)

-- a quotient of 0
pub zero_ratio : (s : Bool) (d : ℕ) (two : ℤ) (x : Fraction) → 0 < d
    → whole (pos d) *ℚ signed s x ≡ scaled (pos 0) two → x ≡ scaled (pos 0) (pos 0)
zero_ratio s d two x p h =
    let none : 0 * d + 0 ≡ 0 = omega arith in
    let size : signed s x ≡ scaled (pos 0) two = quotient_is 0 0 d two (signed s x) p
    (scaled (pos 0) two) h false (ap (λ m. scaled (pos m) two) (sym none)) in
    sym (signed-signed s x) ∙ ap (signed s) size ∙ by s ∙ scaled-zero two
    ∙ sym (scaled-zero (pos 0))
  where
    by : (s : Bool) → signed s (scaled (pos 0) two) ≡ scaled (pos 0) two
    by true = sym (scaled-neg (pos 0) two)
    by false = refl

-- ---- a cut with its sign, rounded down
module _ (x : Fraction) (q r : ℕ) (k two : ℤ) (long : 1152921504606846976 ≤ q) where
  above : (i : Bool) → Cuts x q two i → k ≡ pos q → Floored x k two
  above false c z = inl (c ∙ ap (λ m. scaled m two) (sym z))
  above true c z = let next : pos (q + 1) ≡ k +ℤ pos 1 = omega (arith, ints) in inr (
    omega (arith, ints),
    subst (λ m. scaled m two ≤ℚ x) (sym z) (lt_le (scaled (pos q) two) x c.0),
    subst (λ m. x <ℚ scaled m two) next c.1,
  )

  below_exact : neg_ℚ x ≡ scaled (pos q) two → k ≡ neg_ℤ (pos q) → Floored x k two
  below_exact c z = inl (sym (neg-neg x) ∙ ap neg_ℚ c ∙ sym (scaled-neg (pos q) two)
      ∙ ap (λ m. scaled m two) (sym z))

  below_next : (scaled (pos q) two <ℚ neg_ℚ x) × (neg_ℚ x <ℚ scaled (pos (q + 1)) two)
      → k ≡ neg_ℤ (pos (q + 1)) → Floored x k two
  below_next c z =
      let low : neg_ℚ (scaled (pos (q + 1)) two) <ℚ x = subst (λ y. neg_ℚ (scaled (pos (q + 1)) two)
      <ℚ y) (neg-neg x) (neg-lt (neg_ℚ x) (scaled (pos (q + 1)) two) c.1) in
      let high : x <ℚ neg_ℚ (scaled (pos q) two) = subst (λ y. y <ℚ neg_ℚ (scaled (pos q) two))
      (neg-neg x) (neg-lt (scaled (pos q) two) (neg_ℚ x) c.0) in
      let next : neg_ℤ (pos q) ≡ k +ℤ pos 1 = omega (arith, ints) in inr (
        omega (arith, ints),
        lt_le (scaled k two) x (subst (λ y. y <ℚ x)
            (sym (scaled-neg (pos (q + 1)) two) ∙ ap (λ m. scaled m two) (sym z)) low),
        subst (λ y. x <ℚ y) (sym (scaled-neg (pos q) two) ∙ ap (λ m. scaled m two) next) high,
      )

  signed_floored : (s i : Bool) → Cuts (signed s x) q two i
      → nat_lt 0 r ≡ i → (s ≡ false → k ≡ pos q) → (s ≡ true → r ≡ 0 → k ≡ neg_ℤ (pos q))
      → (s ≡ true → 0 < r → k ≡ neg_ℤ (pos (q + 1))) → Floored x k two
  signed_floored false i c e plain exact below = above i c (plain refl)
  signed_floored true false c e plain exact below =
      below_exact c (exact refl (omega (arith, ltb-false 0 r e)))
  signed_floored true true c e plain exact below = below_next c (below refl (ltb-true 0 r e))

  pub cut_floored : (s : Bool) → Cuts (signed s x) q two (nat_lt 0 r)
      → (s ≡ false → k ≡ pos q) → (s ≡ true → r ≡ 0 → k ≡ neg_ℤ (pos q))
      → (s ≡ true → 0 < r → k ≡ neg_ℤ (pos (q + 1))) → Floored x k two
  cut_floored s c plain exact below = signed_floored s (nat_lt 0 r) c refl plain exact below

-- ---- the ratio of the negative
pub ratio_neg : (n m : ℤ) (d : ℕ) (two e : ℤ) (x : Fraction) → m ≡ neg_ℤ n → e ≡ two
    → whole (pos d) *ℚ x ≡ scaled n two → whole (pos d) *ℚ neg_ℚ x ≡ scaled m e
ratio_neg n m d two e x p q h = mul-signed true (whole (pos d)) x ∙ ap neg_ℚ h
    ∙ sym (scaled-neg n two) ∙ sym (same_scaled (neg_ℤ n) two m e p q)

-- ---- every ratio has a value, so a floor of whatever is the ratio has its place
ratio_value : (d : ℕ) (y : Fraction) → 0 < d → (x : Fraction) × (whole (pos d) *ℚ x ≡ y)
ratio_value d y p =
    let w = whole (pos d) in
    let positive : zero_ℚ <ℚ w =
    subst (λ z. z <ℚ w) (sym zero-whole) (whole-lt (pos 0) (pos d) (omega (arith, ints))) in (
      inverse_ℚ w *ℚ y,
      sym (mul_assoc w (inverse_ℚ w) y) ∙ ap (λ z. z *ℚ y) (mul-inverse w (λ e. lt_not zero_ℚ w
          positive (subst (λ z. z ≤ℚ zero_ℚ) (sym e) (le_refl zero_ℚ)))) ∙ one-mul y,
    )

pub place_of : (d : ℕ) (y : Fraction) (floor : Floor) → 0 < d → ((x : Fraction)
    → whole (pos d) *ℚ x ≡ y → IsFloor x floor) → (negsuc 511 ≤ℤ floor.two) × (floor.two ≤ℤ pos 400)
place_of d y floor p h = let v = ratio_value d y p in let f = h v.0 v.1 in (f.low, f.high)
