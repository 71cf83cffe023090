-- Laws of what specs/Floor defines.
use lib.IntN.{neg_ℤ}
use Rattle.std.specs.Prelude.{◌≡◌, ℤ, pos, negsuc, ◌+ℤ◌, ◌≤ℤ◌, ◌<ℤ◌}
use Rattle.std.proofs.Common.{arith, sym, ap, ◌∙◌, subst}
use Rattle.std.proofs.lemmas.Int.{ints, by_lt_z}
use Rattle.fx_model.specs.Fraction.{Fraction, ◌+ℚ◌, neg_ℚ, ◌≤ℚ◌, ◌<ℚ◌, zero_ℚ, le_trans, lt_not}
use Rattle.fx_model.specs.Fraction.{lt_le, lt_le_trans, le_lt_trans, neg-le, neg-neg}
use Rattle.fx_model.proofs.Fraction.{neg-lt}
use Rattle.fx_model.specs.Powers.{whole, whole-add, whole-neg, whole-le, whole-le_out, zero-whole}
use Rattle.fx_model.specs.Powers.{floor_low, floor_high}
use Rattle.fx_model.specs.Rounded.{floor, ceiling}
use Rattle.fx_model.specs.Grid.{neg_over}
use Rattle.rounding.specs.Sums.{plus-lt}

pub whole-lt_out : (a b : ℤ) → whole a <ℚ whole b → a <ℤ b
whole-lt_out a b h =
    by_lt_z a b (λ l. l) (λ l. absurd (lt_not (whole a) (whole b) h (whole-le b a l)))

-- ---- the floor is the greatest whole number that isn't above
pub floor_from : (z : ℤ) (x : Fraction) → whole z ≤ℚ x → z ≤ℤ floor x
floor_from z x h = let l : z <ℤ (floor x +ℤ pos 1) = whole-lt_out z (floor x +ℤ pos 1)
    (le_lt_trans (whole z) x (whole (floor x +ℤ pos 1)) h (floor_high x)) in omega (arith, ints)

pub floor_to : (z : ℤ) (x : Fraction) → x <ℚ whole (z +ℤ pos 1) → floor x ≤ℤ z
floor_to z x h = let l : floor x <ℤ (z +ℤ pos 1) = whole-lt_out (floor x) (z +ℤ pos 1)
    (le_lt_trans (whole (floor x)) x (whole (z +ℤ pos 1)) (floor_low x) h) in omega (arith, ints)

-- The floor is monotone.
pub floor-le : (x y : Fraction) → x ≤ℚ y → floor x ≤ℤ floor y
floor-le x y h = floor_from (floor x) y (le_trans (whole (floor x)) x y (floor_low x) h)

-- ---- the ceiling is the least whole number that isn't below
pub ceiling_high : (x : Fraction) → x ≤ℚ whole (ceiling x)
ceiling_high x = subst (λ a. x ≤ℚ a) (sym (whole-neg (floor (neg_ℚ x))))
    (neg_over (whole (floor (neg_ℚ x))) x (floor_low (neg_ℚ x)))

pub ceiling_to : (z : ℤ) (x : Fraction) → x ≤ℚ whole z → ceiling x ≤ℤ z
ceiling_to z x h = let l : neg_ℤ z ≤ℤ floor (neg_ℚ x) = floor_from (neg_ℤ z) (neg_ℚ x)
    (subst (λ a. a ≤ℚ neg_ℚ x) (sym (whole-neg z)) (neg-le x (whole z) h)) in omega (arith, ints)

pub ceiling_low : (x : Fraction) → whole (ceiling x) <ℚ (x +ℚ whole (pos 1))
ceiling_low x = subst (λ a. a <ℚ (x +ℚ whole (pos 1))) down
    (plus-lt (whole (pos 1)) (neg_ℚ (whole (floor (neg_ℚ x) +ℤ pos 1))) x
    (subst (λ a. neg_ℚ (whole (floor (neg_ℚ x) +ℤ pos 1)) <ℚ a) (neg-neg x)
    (neg-lt (neg_ℚ x) (whole (floor (neg_ℚ x) +ℤ pos 1)) (floor_high (neg_ℚ x)))))
  where
    down : neg_ℚ (whole (floor (neg_ℚ x) +ℤ pos 1)) +ℚ whole (pos 1) ≡ whole (ceiling x)
    down = let e : neg_ℤ (floor (neg_ℚ x) +ℤ pos 1) +ℤ pos 1 ≡ ceiling x = omega (arith, ints) in
        ap (λ a. a +ℚ whole (pos 1)) (sym (whole-neg (floor (neg_ℚ x) +ℤ pos 1)))
        ∙ sym (whole-add (neg_ℤ (floor (neg_ℚ x) +ℤ pos 1)) (pos 1)) ∙ ap whole e

-- The ceiling is monotone.
pub ceiling-le : (x y : Fraction) → x ≤ℚ y → ceiling x ≤ℤ ceiling y
ceiling-le x y h = ceiling_to (ceiling y) x (le_trans x y (whole (ceiling y)) h (ceiling_high y))

-- ---- the two beside each other
pub floor_ceiling : (x : Fraction) → floor x ≤ℤ ceiling x
floor_ceiling x = whole-le_out (floor x) (ceiling x)
    (le_trans (whole (floor x)) x (whole (ceiling x)) (floor_low x) (ceiling_high x))

pub ceiling_floor : (x : Fraction) → ceiling x ≤ℤ (floor x +ℤ pos 1)
ceiling_floor x =
    ceiling_to (floor x +ℤ pos 1) x (lt_le x (whole (floor x +ℤ pos 1)) (floor_high x))

pub ceiling_from : (z : ℤ) (x : Fraction) → whole (z +ℤ negsuc 0) <ℚ x → z ≤ℤ ceiling x
ceiling_from z x h = let l : (z +ℤ negsuc 0) <ℤ ceiling x = whole-lt_out (z +ℤ negsuc 0)
    (ceiling x) (lt_le_trans (whole (z +ℤ negsuc 0)) x (whole (ceiling x)) h (ceiling_high x)) in
    omega (arith, ints)

-- ---- the sign
pub floor_from_zero : (x : Fraction) → zero_ℚ ≤ℚ x → pos 0 ≤ℤ floor x
floor_from_zero x h = floor_from (pos 0) x (subst (λ a. a ≤ℚ x) zero-whole h)

pub ceiling_to_zero : (x : Fraction) → x ≤ℚ zero_ℚ → ceiling x ≤ℤ pos 0
ceiling_to_zero x h = ceiling_to (pos 0) x (subst (λ a. x ≤ℚ a) zero-whole h)
