-- 0, 1 and -1 as numbers of the grid.
use Rattle.std.specs.Prelude.{◌≡◌, ℤ, pos, negsuc, ◌<ℤ◌, refl}
use Rattle.std.proofs.Common.{arith, ap, sym, ◌∙◌}
use Rattle.std.proofs.lemmas.Int.{ints}
use Rattle.fx_model.specs.Fraction.{neg_ℚ, zero_ℚ, one_ℚ, ◌*ℚ◌, mul_comm, one-mul}
use Rattle.fx_model.specs.Powers.{scaled, scaled-zero, whole, two_to-pos, one-whole}
use Rattle.fx_model.specs.Grid.{IsOnGrid, scaled-neg}

pub small_grid : (m : ℤ) → negsuc 1000 <ℤ m → m <ℤ pos 1000 → IsOnGrid (scaled m (pos 0))
small_grid m a b = record {
  mantissa = m;
  exponent = pos 0;
  above = omega (arith, ints);
  below = omega (arith, ints);
  lowest = omega (arith, ints);
  highest = omega (arith, ints);
  is = refl;
}

pub zero_value : scaled (pos 0) (pos 0) ≡ zero_ℚ
zero_value = scaled-zero (pos 0)

pub one_value : scaled (pos 1) (pos 0) ≡ one_ℚ
one_value = ap (λ y. whole (pos 1) *ℚ y) (two_to-pos 0 ∙ sym one-whole)
    ∙ mul_comm (whole (pos 1)) one_ℚ ∙ one-mul (whole (pos 1)) ∙ sym one-whole

pub minus_one_value : scaled (negsuc 0) (pos 0) ≡ neg_ℚ one_ℚ
minus_one_value = scaled-neg (pos 1) (pos 0) ∙ ap neg_ℚ one_value
