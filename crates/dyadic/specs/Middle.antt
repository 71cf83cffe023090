-- Points between two numbers.
use Rattle.std.specs.Prelude.{◌⊎◌, ℕ, pos, negsuc, ◌-◌}
use Rattle.fx_model.specs.Fraction.{Fraction, ◌+ℚ◌, ◌*ℚ◌, ◌/ℚ◌, ◌<ℚ◌}
use Rattle.fx_model.specs.Powers.{whole, two_to}
use Rattle.fx_model.specs.Grid.{IsOnGrid, At, IsDown, IsUp}

-- (a + b) / 2
abbrev pub halfway : Fraction → Fraction → Fraction
halfway a b = (a +ℚ b) *ℚ two_to (negsuc 0)

-- g is a number of the grid strictly between a and b
pub record IsBetween (a b g : Fraction) : Type 0 where
  pub on_grid : IsOnGrid g
  pub above : a <ℚ g
  pub below : g <ℚ b

-- m is (a + b) / 2 rounded down, where that is above a; else, where that is a, rounded up
abbrev pub IsMiddle : Fraction → Fraction → Fraction → Type 0
IsMiddle a b m = (IsDown (halfway a b) (At m) × (a <ℚ m))
    ⊎ (IsDown (halfway a b) (At a) × IsUp (halfway a b) (At m))

-- ((n - i) * a + i * b) / n
abbrev pub part_of : Fraction → Fraction → ℕ → ℕ → Fraction
part_of a b i n = ((whole (pos (n - i)) *ℚ a) +ℚ (whole (pos i) *ℚ b)) /ℚ whole (pos n)
