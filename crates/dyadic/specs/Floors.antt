-- Values rounded down to a whole number at a place.
use Rattle.std.specs.Prelude.{◌≡◌, ◌⊎◌, ℤ, pos, negsuc, ◌+ℤ◌, ◌≤ℤ◌, ◌≤◌}
use Rattle.std.specs.Int.RustNames.{unsigned_abs}
use Rattle.fx_model.specs.Fraction.{Fraction, ◌≤ℚ◌, ◌<ℚ◌}
use Rattle.fx_model.specs.Powers.{scaled}
use Rattle.dyadic.specs.declared.floor.Floor.{Floor}

-- x is digits * 2^two, or lies between that and the next, and there are more digits than the grid
-- has
abbrev pub Floored : Fraction → ℤ → ℤ → Type 0
Floored x digits two = (x ≡ scaled digits two)
    ⊎ ((1152921504606846976 ≤ unsigned_abs digits) × (scaled digits two ≤ℚ x)
    × (x <ℚ scaled (digits +ℤ pos 1) two))

-- 0, or 2^60 to 2^62 in size: 61 or 62 digits, or one more
abbrev pub IsLong : ℤ → Type 0
IsLong digits = (digits ≡ pos 0)
    ⊎ ((1152921504606846976 ≤ unsigned_abs digits) × (unsigned_abs digits ≤ 4611686018427387904))

-- it is so of a value, at a place from -512 to 400
pub record IsFloor (x : Fraction) (floor : Floor) : Type 0 where
  pub value : Floored x floor.digits floor.two
  pub low : negsuc 511 ≤ℤ floor.two
  pub high : floor.two ≤ℤ pos 400
