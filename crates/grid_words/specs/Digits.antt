-- The first digits of a number that isn't negative: as many as the grid has, or down to its last
-- place.
use lib.Dec.{ltb}
use Rattle.std.specs.Prelude.{◌≡◌, ℕ, ℤ, pos, negsuc, ◌+ℤ◌, ◌≤ℤ◌, ◌*◌, ◌+◌, ◌/◌, ◌%◌, ◌≤◌, ◌<◌, ◌^◌}
use Rattle.std.specs.Prelude.{Bool, true, false, cond, not, refl}
use Rattle.std.specs.Int.RustNames.{unsigned_abs}
use Rattle.std.proofs.Common.{arith, sym, ap, ◌∙◌, subst, inl, inr, zero, suc}
use Rattle.std.proofs.lemmas.Nat.{div-add-mod', mod_below}
use Rattle.std.proofs.lemmas.Bool.{ltb-true, ltb-false}
use Rattle.std.proofs.lemmas.Int.{ints, by_lt_z}
use Rattle.fx_model.specs.Fraction.{Fraction, ◌*ℚ◌, ◌≤ℚ◌, ◌<ℚ◌, zero_ℚ, one_ℚ, le_ℚ, floor_ℚ}
use Rattle.fx_model.specs.Fraction.{le_trans, le_antisymm, lt_not, mul_comm, mul_assoc, one-mul}
use Rattle.fx_model.specs.Fraction.{zero-mul, times-le, times-lt}
use Rattle.fx_model.specs.Powers.{whole, two_to, scaled, whole-le, zero-whole, one-whole}
use Rattle.fx_model.specs.Powers.{two_to-add, two_to-pos, two_to-positive, floor_low, floor_high}
use Rattle.fx_model.specs.Cut.{Cuts, Full, more, narrow_is}

-- A number that begins with digits * 2^two, and whether anything nonzero is left of it.
pub record Digits : Type 0 where
  pub digits : ℕ
  pub two : ℤ
  pub inexact : Bool

-- The whole number of times that 2^-other goes into x.
abbrev pub times : Fraction → ℤ → ℕ
times x other = unsigned_abs (floor_ℚ (x *ℚ two_to other))

-- The digits of x down to the place two, which is -other.
abbrev pub digits_to : Fraction → ℤ → ℤ → Digits
digits_to x two other = record {
  digits = times x other;
  two = two;
  inexact = not (le_ℚ x (scaled (pos (times x other)) two));
}

-- One digit less.
abbrev pub halved : Digits → Digits
halved c =
    record { digits = c.digits / 2; two = c.two +ℤ pos 1; inexact = more c.inexact (c.digits % 2) }

-- Fewer digits, until there are as few as the grid has; n bounds the steps.
abbrev pub narrowed : ℕ → Digits → Digits
narrowed zero c = c
narrowed (suc n) c = cond (ltb c.digits 1152921504606846976) c (narrowed n (halved c))

-- The first digits of x.
abbrev pub first_digits : Fraction → Digits
first_digits x = narrowed (times x (pos 512)) (digits_to x (negsuc 511) (pos 512))

-- x begins so, and the digits are as many as the grid has, or reach down to its last place
pub record Begins (x : Fraction) (c : Digits) : Type 0 where
  pub cuts : Cuts x c.digits c.two c.inexact
  pub full : Full c.digits c.two
  pub lowest : negsuc 511 ≤ℤ c.two

-- ---- down to a place
back : (x : Fraction) (two other : ℤ) → other +ℤ two ≡ pos 0 → (x *ℚ two_to other) *ℚ two_to two ≡ x
back x two other h = mul_assoc x (two_to other) (two_to two)
    ∙ ap (λ y. x *ℚ y) (sym (two_to-add other two) ∙ ap two_to h ∙ two_to-pos 0 ∙ sym one-whole)
    ∙ mul_comm x one_ℚ ∙ one-mul x

of_size : (z : ℤ) → pos 0 ≤ℤ z → z ≡ pos (unsigned_abs z)
of_size (pos n) h = refl
of_size (negsuc n) h = absurd (omega (arith, ints))

not_below : (y : Fraction) → zero_ℚ ≤ℚ y → pos 0 ≤ℤ floor_ℚ y
not_below y h = by_lt_z (floor_ℚ y) (pos 0)
    (λ l. absurd (lt_not y (whole (floor_ℚ y +ℤ pos 1)) (floor_high y)
    (le_trans (whole (floor_ℚ y +ℤ pos 1)) (whole (pos 0)) y (whole-le (floor_ℚ y +ℤ pos 1) (pos 0)
    (omega (arith, ints))) (subst (λ z. z ≤ℚ y) zero-whole h))))
    (λ l. l)

module _ (x : Fraction) (two other : ℤ) (e : other +ℤ two ≡ pos 0) (up : zero_ℚ ≤ℚ x) where
  from_zero : zero_ℚ ≤ℚ (x *ℚ two_to other)
  from_zero = subst (λ z. z ≤ℚ (x *ℚ two_to other)) (zero-mul (two_to other))
      (times-le (two_to other) zero_ℚ x (two_to-positive other) up)

  floor_is : floor_ℚ (x *ℚ two_to other) ≡ pos (times x other)
  floor_is = of_size (floor_ℚ (x *ℚ two_to other)) (not_below (x *ℚ two_to other) from_zero)

  low : scaled (pos (times x other)) two ≤ℚ x
  low = let a : whole (pos (times x other)) ≤ℚ (x *ℚ two_to other) =
      subst (λ z. whole z ≤ℚ (x *ℚ two_to other)) floor_is (floor_low (x *ℚ two_to other)) in
      subst (λ z. scaled (pos (times x other)) two ≤ℚ z) (back x two other e) (times-le (two_to two)
      (whole (pos (times x other))) (x *ℚ two_to other) (two_to-positive two) a)

  next_is : floor_ℚ (x *ℚ two_to other) +ℤ pos 1 ≡ pos (times x other + 1)
  next_is =
      let f : floor_ℚ (x *ℚ two_to other) ≡ pos (times x other) = floor_is in omega (arith, ints, f)

  high : x <ℚ scaled (pos (times x other + 1)) two
  high = let a : (x *ℚ two_to other) <ℚ whole (pos (times x other + 1)) =
      subst (λ z. (x *ℚ two_to other) <ℚ whole z) next_is (floor_high (x *ℚ two_to other)) in
      subst (λ z. z <ℚ scaled (pos (times x other + 1)) two) (back x two other e) (times-lt
      (two_to two) (x *ℚ two_to other) (whole (pos (times x other + 1))) (two_to-positive two) a)

  cuts_by : (b : Bool) → le_ℚ x (scaled (pos (times x other)) two) ≡ b
      → Cuts x (times x other) two (not b)
  cuts_by true h = le_antisymm x (scaled (pos (times x other)) two) (record { le = h }) low
  cuts_by false h = (record { lt = h }, high)

  begins_to : two ≡ negsuc 511 → Begins x (digits_to x two other)
  begins_to l = record {
    cuts = cuts_by (le_ℚ x (scaled (pos (times x other)) two)) refl;
    full = inr l;
    lowest = omega (arith, ints);
  }

-- ---- fewer digits
half_split : (n : ℕ) → n ≡ n / 2 * 2 ^ 1 + n % 2
half_split n = omega (arith, div-add-mod' n 2)

halved_is : (c : Digits) (x : Fraction) → 1152921504606846976 ≤ c.digits
    → Begins x c → Begins x (halved c)
halved_is c x l b = record {
  cuts = narrow_is (c.digits / 2) (c.digits % 2) 1 c.two (mod_below c.digits 2 (omega arith)) x
      c.inexact (subst (λ n. Cuts x n c.two c.inexact) (half_split c.digits) b.cuts);
  full = inl (let a = half_split c.digits in
      let s = mod_below c.digits 2 (omega arith) in omega arith);
  lowest = let a = b.lowest in omega (arith, ints);
}

abbrev IsDone : Fraction → Digits → Type 0
IsDone x c = Begins x c × (c.digits < 1152921504606846976)

step : (x : Fraction) (c d : Digits) (b : Bool) → ltb c.digits 1152921504606846976 ≡ b → Begins x c
    → (1152921504606846976 ≤ c.digits → IsDone x d) → IsDone x (cond b c d)
step x c d true e b f = (b, ltb-true c.digits 1152921504606846976 e)
step x c d false e b f = f (ltb-false c.digits 1152921504606846976 e)

narrowed_is : (n : ℕ) (c : Digits) (x : Fraction) → c.digits ≤ n → Begins x c
    → Begins x (narrowed n c) × ((narrowed n c).digits < 1152921504606846976)
narrowed_is zero c x l b = (b, omega arith)
narrowed_is (suc n) c x l b =
    step x c (narrowed n (halved c)) (ltb c.digits 1152921504606846976) refl b
    (λ k. narrowed_is n (halved c) x (let a = half_split c.digits in
    omega arith) (halved_is c x k b))

pub first_begins : (x : Fraction) → zero_ℚ ≤ℚ x
    → Begins x (first_digits x) × ((first_digits x).digits < 1152921504606846976)
first_begins x h = narrowed_is (times x (pos 512)) (digits_to x (negsuc 511) (pos 512)) x
    (omega arith) (begins_to x (negsuc 511) (pos 512) refl h refl)
