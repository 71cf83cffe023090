-- The whole number that a direction gives, from the whole numbers next to a number.
use Rattle.std.specs.Prelude.{◌≡◌, ℤ, pos, Bool, if◌then◌else◌, not}
use Rattle.std.specs.Int.RustNames.{int_lt}
use Rattle.fx_model.specs.Fraction.{Fraction}
use Rattle.fx_model.specs.Rounded.{floor, ceiling, near_low, near_high, is_even}
use Rattle.fx_model.specs.declared.Direction.{Direction}
use Rattle.fx_model.specs.declared.Direction.TheVariants.{Zr, Aw, Dn, Up, Od, Ne, No, Nz, Na, Nd}
use Rattle.fx_model.specs.declared.Direction.TheVariants.{Nu}
use Rattle.rounding.specs.declared.neighbours.Neighbours.{Neighbours}

-- The whole numbers next to s.
pub record AreNeighbours (n : Neighbours) (s : Fraction) : Type 0 where
  pub floor_is : n.floor ≡ floor s
  pub ceiling_is : n.ceiling ≡ ceiling s
  pub near_low_is : n.near_low ≡ near_low s
  pub near_high_is : n.near_high ≡ near_high s

-- The floor isn't below 0, and so the number isn't.
abbrev pub is_from_zero : Neighbours → Bool
is_from_zero n = not (int_lt n.floor (pos 0))

-- The one that a direction takes.
abbrev pub chosen : Direction → Neighbours → ℤ
chosen Dn n = n.floor
chosen Up n = n.ceiling
chosen Zr n = if is_from_zero n then n.floor else n.ceiling
chosen Aw n = if is_from_zero n then n.ceiling else n.floor
chosen Od n = if is_even n.floor then n.ceiling else n.floor
chosen Nd n = n.near_low
chosen Nu n = n.near_high
chosen Ne n = if is_even n.near_low then n.near_low else n.near_high
chosen No n = if is_even n.near_low then n.near_high else n.near_low
chosen Nz n = if is_from_zero n then n.near_low else n.near_high
chosen Na n = if is_from_zero n then n.near_high else n.near_low
