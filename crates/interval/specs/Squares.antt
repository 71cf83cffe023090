-- The ends of a square, from the ends of the absolute values.
use Rattle.std.specs.Prelude.{◌≡◌}
use Rattle.fx_model.specs.Fraction.{◌*ℚ◌}
use Rattle.fx_model.specs.Grid.{Bound, Below, At, Above, IsDown, IsUp}

-- the square of a finite end, rounded down; the square's lower end is infinite where the end is
abbrev pub LowSquare : Bound → Bound → Type 0
LowSquare Below b = b ≡ Below
LowSquare (At g) b = IsDown (g *ℚ g) b
LowSquare Above b = b ≡ Below

-- the square of a finite end, rounded up; the square's upper end is infinite where the end is
abbrev pub HighSquare : Bound → Bound → Type 0
HighSquare Below b = b ≡ Above
HighSquare (At g) b = IsUp (g *ℚ g) b
HighSquare Above b = b ≡ Above
