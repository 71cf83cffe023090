-- Laws of what specs/Nearest defines.
use mathlib.Core.Quot.{sound}
use Rattle.std.specs.Prelude.{◌≡◌, pos, negsuc, ◌+ℤ◌, ◌≤ℤ◌, refl}
use Rattle.std.proofs.Common.{arith, sym, ap, ◌∙◌, subst, lit<}
use Rattle.std.proofs.lemmas.Int.{ints}
use Rattle.fx_model.specs.Fraction.{Same, Fraction, ◌+ℚ◌, ◌-ℚ◌, neg_ℚ, ◌≤ℚ◌, ◌<ℚ◌, zero_ℚ, one_ℚ}
use Rattle.fx_model.specs.Fraction.{add_ratio, add-mk, add_assoc}
use Rattle.fx_model.proofs.Fraction.{sub-add}
use Rattle.fx_model.specs.Powers.{whole, whole-add, two_to-mk, two_to_ratio, zero-whole, one-whole}
use Rattle.fx_model.specs.Powers.{floor_low, floor_high}
use Rattle.fx_model.specs.Rounded.{floor, half, near_low, near_high}
use Rattle.rounding.specs.Sums.{plus-le}
use Rattle.rounding.proofs.Sums.{plus-lt_out}
use Rattle.rounding.proofs.Floor.{floor-le, ceiling-le, floor_ceiling, ceiling_floor, ceiling_high}
use Rattle.rounding.proofs.Floor.{ceiling_low}
use Rattle.rounding.specs.Floor.{floor-plus}
use Rattle.rounding.specs.Nearest.{near_low-whole, near_high-whole}

-- half and half is 1
pub halves : half +ℚ half ≡ whole (pos 1)
unfolding one_ℚ
halves = ap (λ x. x +ℚ x) (two_to-mk (negsuc 0))
    ∙ add-mk (two_to_ratio (negsuc 0)) (two_to_ratio (negsuc 0))
    ∙ sound {r = Same} {a = add_ratio (two_to_ratio (negsuc 0)) (two_to_ratio (negsuc 0))} {b =
    record { plus = 1; minus = 0; den = 1; positive = lit< tt }} refl ∙ one-whole

-- s + 1/2 is s - 1/2 + 1
around : (s : Fraction) → s +ℚ half ≡ (s -ℚ half) +ℚ whole (pos 1)
around s = ap (λ a. a +ℚ half) (sym (sub-add s half)) ∙ add_assoc (s -ℚ half) half half
    ∙ ap (λ a. (s -ℚ half) +ℚ a) halves

-- At a tie they are next to each other, and they are equal elsewhere.
pub near_low_high : (s : Fraction) → near_low s ≤ℤ near_high s
near_low_high s = let e : near_high s ≡ floor (s -ℚ half) +ℤ pos 1 = ap floor (around s)
    ∙ floor-plus (s -ℚ half) (pos 1) in let c = ceiling_floor (s -ℚ half) in omega (arith, ints)

pub near_high_low : (s : Fraction) → near_high s ≤ℤ (near_low s +ℤ pos 1)
near_high_low s = let e : near_high s ≡ floor (s -ℚ half) +ℤ pos 1 = ap floor (around s)
    ∙ floor-plus (s -ℚ half) (pos 1) in let c = floor_ceiling (s -ℚ half) in omega (arith, ints)

-- Both are monotone.
pub near_low-le : (x y : Fraction) → x ≤ℚ y → near_low x ≤ℤ near_low y
near_low-le x y h = ceiling-le (x -ℚ half) (y -ℚ half) (plus-le (neg_ℚ half) x y h)

pub near_high-le : (x y : Fraction) → x ≤ℚ y → near_high x ≤ℤ near_high y
near_high-le x y h = floor-le (x +ℚ half) (y +ℚ half) (plus-le half x y h)

-- ---- they are at most half off
pub near_low_low : (s : Fraction) → s ≤ℚ (whole (near_low s) +ℚ half)
near_low_low s = subst (λ a. a ≤ℚ (whole (near_low s) +ℚ half)) (sub-add s half)
    (plus-le half (s -ℚ half) (whole (near_low s)) (ceiling_high (s -ℚ half)))

pub near_high_high : (s : Fraction) → whole (near_high s) ≤ℚ (s +ℚ half)
near_high_high s = floor_low (s +ℚ half)

pub near_low_below : (s : Fraction) → whole (near_low s) <ℚ (s +ℚ half)
near_low_below s = subst (λ a. whole (near_low s) <ℚ a) (sym (around s)) (ceiling_low (s -ℚ half))

pub near_high_above : (s : Fraction) → s <ℚ (whole (near_high s) +ℚ half)
near_high_above s = plus-lt_out half s (whole (near_high s) +ℚ half)
    (subst (λ a. (s +ℚ half) <ℚ a) next (floor_high (s +ℚ half)))
  where
    next : whole (near_high s +ℤ pos 1) ≡ (whole (near_high s) +ℚ half) +ℚ half
    next = whole-add (near_high s) (pos 1) ∙ ap (λ a. whole (near_high s) +ℚ a) (sym halves)
        ∙ sym (add_assoc (whole (near_high s)) half half)

-- ---- whole numbers, and the sign
pub near_low_from_zero : (s : Fraction) → zero_ℚ ≤ℚ s → pos 0 ≤ℤ near_low s
near_low_from_zero s h =
    let e : near_low zero_ℚ ≡ pos 0 = ap near_low zero-whole ∙ near_low-whole (pos 0) in
    let l = near_low-le zero_ℚ s h in omega (arith, ints)

pub near_high_to_zero : (s : Fraction) → s ≤ℚ zero_ℚ → near_high s ≤ℤ pos 0
near_high_to_zero s h =
    let e : near_high zero_ℚ ≡ pos 0 = ap near_high zero-whole ∙ near_high-whole (pos 0) in
    let l = near_high-le s zero_ℚ h in omega (arith, ints)
