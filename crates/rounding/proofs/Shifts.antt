-- Shifts to the right are floors, and the nearest whole number is a floor of a floor.
use lib.IntN.{neg_ℤ}
use Rattle.std.specs.Prelude.{◌≡◌, ℕ, ℤ, pos, negsuc, ◌+ℤ◌, ◌*ℤ◌, ◌≤ℤ◌, ◌<ℤ◌, ◌<◌, ◌≤◌, ◌^◌, ◌*◌}
use Rattle.std.specs.Prelude.{◌+◌, ◌/◌}
use Rattle.std.specs.Int.Signed.{shr_z}
use Rattle.std.specs.Int.RustNames.{unsigned_abs}
use Rattle.std.proofs.Common.{arith, sym, ap, ◌∙◌, subst, ⊎_elim, lit≤, min, zero, suc}
use Rattle.std.proofs.lemmas.Int.{ints}
use Rattle.std.proofs.lemmas.Nat.{pow_pos}
use Rattle.std.proofs.lemmas.Bool.{cases_lt}
use Rattle.std.proofs.Math.Nat.{mul-le-mul_left, pow-le-pow_right}
use Rattle.fx_model.specs.Fraction.{Fraction, ◌+ℚ◌, ◌*ℚ◌, neg_ℚ, ◌≤ℚ◌, ◌<ℚ◌, le_or_lt, lt_not}
use Rattle.fx_model.specs.Fraction.{le_trans, lt_le_trans, le_lt_trans, lt_le, add_comm, neg-add}
use Rattle.fx_model.specs.Fraction.{neg-neg, add-lt}
use Rattle.fx_model.proofs.Fraction.{middle_sums, add-mul}
use Rattle.fx_model.specs.Fraction.Core.Floor.{div_bounds}
use Rattle.fx_model.specs.Powers.{whole, whole-add, whole-le, scaled, scaled-le, scaled-lt}
use Rattle.fx_model.specs.Powers.{scaled-shift, two_to, floor_low, floor_high, floor_unique}
use Rattle.fx_model.specs.Grid.{scaled-neg}
use Rattle.fx_model.specs.Rounded.{floor, ceiling, half, near_low, near_high}
use Rattle.rounding.specs.Sums.{plus-le, plus-lt}
use Rattle.rounding.proofs.Nearest.{halves}
use Rattle.rounding.specs.Rounded.{two_to-zero, mul-whole_one}

-- ---- a shift to the right lies between two multiples
div_small : (n d : ℕ) → 0 < d → n / d ≤ n
div_small n d h = let b = div_bounds n d h in let m = mul-le-mul_left (n / d) h in omega arith

pub shr_low : (m : ℤ) (p : ℕ) → 0 < p → (shr_z m p *ℤ pos p) ≤ℤ m
shr_low (pos a) p h = let d = div_bounds a p h in omega (arith, ints)
shr_low (negsuc a) p h = let d = div_bounds a p h in omega (arith, ints)

next_negative : (q a p : ℕ) → q * p ≤ a → negsuc a <ℤ ((negsuc q +ℤ pos 1) *ℤ pos p)
next_negative zero a p h = let e : negsuc 0 +ℤ pos 1 ≡ pos 0 = omega (arith, ints) in
    subst (λ (z : ℤ). negsuc a <ℤ (z *ℤ pos p)) (sym e) (omega (arith, ints))
next_negative (suc q) a p h = let e : negsuc (suc q) +ℤ pos 1 ≡ negsuc q = omega (arith, ints) in
    subst (λ (z : ℤ). negsuc a <ℤ (z *ℤ pos p)) (sym e) (omega (arith, ints))

pub shr_high : (m : ℤ) (p : ℕ) → 0 < p → m <ℤ ((shr_z m p +ℤ pos 1) *ℤ pos p)
shr_high (pos a) p h = let d = div_bounds a p h in omega (arith, ints)
shr_high (negsuc a) p h = next_negative (a / p) a p (div_bounds a p h).0

pub shr_size : (m : ℤ) (p : ℕ) → 0 < p → unsigned_abs (shr_z m p) ≤ unsigned_abs m
shr_size (pos a) p h = div_small a p h
shr_size (negsuc a) p h = let d = div_small a p h in omega (arith, ints)

-- ---- and so it is a floor
scaled-none : (z : ℤ) → scaled z (pos 0) ≡ whole z
scaled-none z = ap (λ a. whole z *ℚ a) two_to-zero ∙ mul-whole_one (whole z)

at_place : (z : ℤ) (k : ℕ) → whole z ≡ scaled (z *ℤ pos (2 ^ k)) (neg_ℤ (pos k))
at_place z k = let e : neg_ℤ (pos k) +ℤ pos k ≡ pos 0 = omega (arith, ints) in
    sym (scaled-none z) ∙ ap (scaled z) (sym e) ∙ scaled-shift z (neg_ℤ (pos k)) k

pub floor_by : (m z : ℤ) (k : ℕ) → (z *ℤ pos (2 ^ k)) ≤ℤ m → m <ℤ ((z +ℤ pos 1) *ℤ pos (2 ^ k))
    → floor (scaled m (neg_ℤ (pos k))) ≡ z
floor_by m z k h l = floor_unique (scaled m (neg_ℤ (pos k))) z
    (subst (λ a. a ≤ℚ scaled m (neg_ℤ (pos k))) (sym (at_place z k))
    (scaled-le (z *ℤ pos (2 ^ k)) m (neg_ℤ (pos k)) h))
    (subst (λ a. scaled m (neg_ℤ (pos k)) <ℚ a) (sym (at_place (z +ℤ pos 1) k))
    (scaled-lt m ((z +ℤ pos 1) *ℤ pos (2 ^ k)) (neg_ℤ (pos k)) l))

-- a shift by 63 places or more leaves the sign
far : (m : ℤ) (k : ℕ) → 63 ≤ k → unsigned_abs m < 1152921504606846976
    → floor (scaled m (neg_ℤ (pos k))) ≡ shr_z m (2 ^ 63)
far (pos a) k h s =
    let p : 2 ^ 63 ≤ 2 ^ k = pow-le-pow_right {n = 2} (lit≤ tt) {i = 63} {j = k} h in
    let z : pos (a / 2 ^ 63) ≡ pos 0 = omega (arith, ints) in
    floor_by (pos a) (pos 0) k (omega (arith, ints)) (omega (arith, ints)) ∙ sym z
far (negsuc a) k h s =
    let p : 2 ^ 63 ≤ 2 ^ k = pow-le-pow_right {n = 2} (lit≤ tt) {i = 63} {j = k} h in
    let z : negsuc (a / 2 ^ 63) ≡ negsuc 0 = omega (arith, ints) in
    floor_by (negsuc a) (negsuc 0) k (omega (arith, ints)) (omega (arith, ints)) ∙ sym z

pub floor_shift : (m : ℤ) (k j : ℕ) → j ≡ min k 63 → unsigned_abs m < 1152921504606846976
    → shr_z m (2 ^ j) ≡ floor (scaled m (neg_ℤ (pos k)))
floor_shift m k j e s = ⊎_elim
    (λ l. let i : j ≡ k = omega arith in ap (λ j. shr_z m (2 ^ j)) i ∙ sym (floor_by m
    (shr_z m (2 ^ k)) k (shr_low m (2 ^ k) (pow_pos k)) (shr_high m (2 ^ k) (pow_pos k))))
    (λ l. let i : j ≡ 63 = omega arith in ap (λ j. shr_z m (2 ^ j)) i ∙ sym (far m k l s))
    (cases_lt k 63)

-- ---- the nearest whole number, by the floor of twice the number
twice-lt : (x y : Fraction) → x <ℚ y → (x +ℚ x) <ℚ (y +ℚ y)
twice-lt x y h =
    le_lt_trans (x +ℚ x) (y +ℚ x) (y +ℚ y) (plus-le x x y (lt_le x y h)) (add-lt y x y h)

twice-le : (x y : Fraction) → x ≤ℚ y → (x +ℚ x) ≤ℚ (y +ℚ y)
twice-le x y h = le_trans (x +ℚ x) (y +ℚ x) (y +ℚ y) (plus-le x x y h)
    (subst (λ a. a ≤ℚ (y +ℚ y)) (add_comm x y) (plus-le y x y h))

half-le : (x y : Fraction) → (x +ℚ x) ≤ℚ (y +ℚ y) → x ≤ℚ y
half-le x y h =
    ⊎_elim (λ l. l) (λ l. absurd (lt_not (y +ℚ y) (x +ℚ x) (twice-lt y x l) h)) (le_or_lt x y)

half-lt : (x y : Fraction) → (x +ℚ x) <ℚ (y +ℚ y) → x <ℚ y
half-lt x y h =
    ⊎_elim (λ l. absurd (lt_not (x +ℚ x) (y +ℚ y) h (twice-le y x l))) (λ l. l) (le_or_lt y x)

twice_high : (s : Fraction) → (s +ℚ half) +ℚ (s +ℚ half) ≡ (s +ℚ s) +ℚ whole (pos 1)
twice_high s = middle_sums s half s half ∙ ap (λ a. (s +ℚ s) +ℚ a) halves

pub near_by : (s : Fraction) (g z : ℤ) → floor (s +ℚ s) ≡ g → (z *ℤ pos 2) ≤ℤ (g +ℤ pos 1)
    → (g +ℤ pos 1) <ℤ ((z +ℤ pos 1) *ℤ pos 2) → near_high s ≡ z
near_by s g z e h l = floor_unique (s +ℚ half) z (half-le (whole z) (s +ℚ half) low)
    (half-lt (s +ℚ half) (whole (z +ℤ pos 1)) high)
  where
    low : (whole z +ℚ whole z) ≤ℚ ((s +ℚ half) +ℚ (s +ℚ half))
    low = let k : (z +ℤ z) ≤ℤ (floor (s +ℚ s) +ℤ pos 1) = omega (arith, ints) in
        subst (λ a. (whole z +ℚ whole z) ≤ℚ a) (sym (twice_high s))
        (le_trans (whole z +ℚ whole z) (whole (floor (s +ℚ s) +ℤ pos 1)) ((s +ℚ s) +ℚ whole (pos 1))
        (subst (λ a. a ≤ℚ whole (floor (s +ℚ s) +ℤ pos 1)) (whole-add z z)
        (whole-le (z +ℤ z) (floor (s +ℚ s) +ℤ pos 1) k))
        (subst (λ a. a ≤ℚ ((s +ℚ s) +ℚ whole (pos 1))) (sym (whole-add (floor (s +ℚ s)) (pos 1)))
        (plus-le (whole (pos 1)) (whole (floor (s +ℚ s))) (s +ℚ s) (floor_low (s +ℚ s)))))

    high : ((s +ℚ half) +ℚ (s +ℚ half)) <ℚ (whole (z +ℤ pos 1) +ℚ whole (z +ℤ pos 1))
    high = let k : ((floor (s +ℚ s) +ℤ pos 1) +ℤ pos 1)
        ≤ℤ ((z +ℤ pos 1) +ℤ (z +ℤ pos 1)) = omega (arith, ints) in
        subst (λ a. a <ℚ (whole (z +ℤ pos 1) +ℚ whole (z +ℤ pos 1))) (sym (twice_high s))
        (lt_le_trans ((s +ℚ s) +ℚ whole (pos 1)) (whole ((floor (s +ℚ s) +ℤ pos 1) +ℤ pos 1))
        (whole (z +ℤ pos 1) +ℚ whole (z +ℤ pos 1))
        (subst (λ a. ((s +ℚ s) +ℚ whole (pos 1)) <ℚ a)
        (sym (whole-add (floor (s +ℚ s) +ℤ pos 1) (pos 1)))
        (plus-lt (whole (pos 1)) (s +ℚ s) (whole (floor (s +ℚ s) +ℤ pos 1)) (floor_high (s +ℚ s))))
        (subst (λ a. whole ((floor (s +ℚ s) +ℤ pos 1) +ℤ pos 1) ≤ℚ a)
        (whole-add (z +ℤ pos 1) (z +ℤ pos 1))
        (whole-le ((floor (s +ℚ s) +ℤ pos 1) +ℤ pos 1) ((z +ℤ pos 1) +ℤ (z +ℤ pos 1)) k)))

-- twice m * 2^-(j + 1) is m * 2^-j
pub scaled-twice : (m : ℤ) (j k : ℕ) → k ≡ j + 1
    → scaled m (neg_ℤ (pos k)) +ℚ scaled m (neg_ℤ (pos k)) ≡ scaled m (neg_ℤ (pos j))
scaled-twice m j k e = let i : neg_ℤ (pos j) ≡ neg_ℤ (pos k) +ℤ pos 1 = omega (arith, ints) in
    let t : m +ℤ m ≡ (m *ℤ pos (2 ^ 1)) = omega (arith, ints) in
    sym (add-mul (whole m) (whole m) (two_to (neg_ℤ (pos k))))
    ∙ ap (λ a. a *ℚ two_to (neg_ℤ (pos k))) (sym (whole-add m m) ∙ ap whole t)
    ∙ sym (ap (scaled m) i ∙ scaled-shift m (neg_ℤ (pos k)) 1)

-- the other side of 0
pub near_low-neg : (s : Fraction) → near_low s ≡ neg_ℤ (near_high (neg_ℚ s))
near_low-neg s =
    ap (λ a. neg_ℤ (floor a)) (neg-add s (neg_ℚ half) ∙ ap (λ a. neg_ℚ s +ℚ a) (neg-neg half))

pub ceiling_by : (m w z e : ℤ) → w ≡ neg_ℤ m → z ≡ floor (scaled w e)
    → neg_ℤ z ≡ ceiling (scaled m e)
ceiling_by m w z e h k = ap neg_ℤ (k ∙ ap floor (ap (λ w. scaled w e) h ∙ scaled-neg m e))

pub near_low_by : (m w z e : ℤ) → w ≡ neg_ℤ m → z ≡ near_high (scaled w e)
    → neg_ℤ z ≡ near_low (scaled m e)
near_low_by m w z e h k = ap neg_ℤ (k ∙ ap near_high (ap (λ w. scaled w e) h ∙ scaled-neg m e))
    ∙ sym (near_low-neg (scaled m e))
