-- The nearest whole numbers: the lower and the upper one at a tie, and how far they are off.
use Rattle.std.specs.Prelude.{◌≡◌, ℤ, pos, negsuc}
use Rattle.std.proofs.Common.{arith, ap, ◌∙◌}
use Rattle.std.proofs.lemmas.Int.{ints}
use Rattle.fx_model.specs.Fraction.{neg_ℚ, floor-mk, add_comm, neg-neg}
use Rattle.fx_model.specs.Powers.{whole, two_to-mk, two_to_ratio}
use Rattle.fx_model.specs.Rounded.{floor, ceiling, half, near_low, near_high}
use Rattle.rounding.specs.Floor.{floor-plus, ceiling-plus}

floor_half : floor half ≡ pos 0
floor_half = ap floor (two_to-mk (negsuc 0)) ∙ floor-mk (two_to_ratio (negsuc 0))

-- ---- whole numbers, and the sign
pub near_low-whole : (z : ℤ) → near_low (whole z) ≡ z
near_low-whole z =
    let e : floor (neg_ℚ (neg_ℚ half)) ≡ pos 0 = ap floor (neg-neg half) ∙ floor_half in
    ap ceiling (add_comm (whole z) (neg_ℚ half)) ∙ ceiling-plus (neg_ℚ half) z ∙ omega (arith, ints)

pub near_high-whole : (z : ℤ) → near_high (whole z) ≡ z
near_high-whole z = let e : floor half ≡ pos 0 = floor_half in
    ap floor (add_comm (whole z) half) ∙ floor-plus half z ∙ omega (arith, ints)
