-- Floors and ceilings: which whole numbers lie below and above them, and what they are of sums.
use lib.IntN.{neg_ℤ}
use Rattle.std.specs.Prelude.{◌≡◌, ℤ, pos, ◌+ℤ◌}
use Rattle.std.proofs.Common.{arith, sym, ap, ◌∙◌, subst}
use Rattle.std.proofs.lemmas.Int.{ints}
use Rattle.fx_model.specs.Fraction.{Fraction, ◌+ℚ◌, neg_ℚ, ◌≤ℚ◌, ◌<ℚ◌, le_refl, neg-add}
use Rattle.fx_model.specs.Powers.{whole, whole-add, whole-neg, whole-lt, floor_low, floor_high}
use Rattle.fx_model.specs.Powers.{floor_unique}
use Rattle.fx_model.specs.Rounded.{floor, ceiling}
use Rattle.rounding.specs.Sums.{plus-le, plus-lt}

-- ---- the floor is the greatest whole number that isn't above
-- A whole number is its own floor.
pub floor-whole : (z : ℤ) → floor (whole z) ≡ z
floor-whole z =
    floor_unique (whole z) z (le_refl (whole z)) (whole-lt z (z +ℤ pos 1) (omega (arith, ints)))

-- A whole number is added to the floor as it is.
pub floor-plus : (x : Fraction) (z : ℤ) → floor (x +ℚ whole z) ≡ floor x +ℤ z
floor-plus x z = floor_unique (x +ℚ whole z) (floor x +ℤ z)
    (subst (λ a. a ≤ℚ (x +ℚ whole z)) (sym (whole-add (floor x) z))
    (plus-le (whole z) (whole (floor x)) x (floor_low x)))
    (subst (λ a. (x +ℚ whole z) <ℚ a) next
    (plus-lt (whole z) x (whole (floor x +ℤ pos 1)) (floor_high x)))
  where
    next : whole (floor x +ℤ pos 1) +ℚ whole z ≡ whole ((floor x +ℤ z) +ℤ pos 1)
    next = let e : (floor x +ℤ pos 1) +ℤ z ≡ (floor x +ℤ z) +ℤ pos 1 = omega (arith, ints) in
        sym (whole-add (floor x +ℤ pos 1) z) ∙ ap whole e

-- ---- the ceiling is the least whole number that isn't below
-- A whole number is its own ceiling.
pub ceiling-whole : (z : ℤ) → ceiling (whole z) ≡ z
ceiling-whole z = let e : floor (neg_ℚ (whole z)) ≡ neg_ℤ z =
    ap floor (sym (whole-neg z)) ∙ floor-whole (neg_ℤ z) in omega (arith, ints)

-- A whole number is added to the ceiling as it is.
pub ceiling-plus : (x : Fraction) (z : ℤ) → ceiling (x +ℚ whole z) ≡ ceiling x +ℤ z
ceiling-plus x z = let e : floor (neg_ℚ (x +ℚ whole z)) ≡ floor (neg_ℚ x) +ℤ neg_ℤ z =
    ap floor (neg-add x (whole z) ∙ ap (λ a. neg_ℚ x +ℚ a) (sym (whole-neg z)))
    ∙ floor-plus (neg_ℚ x) (neg_ℤ z) in omega (arith, ints)
