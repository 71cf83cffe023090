-- The set that a number makes alone.
use Rattle.std.specs.Prelude.{◌≡◌}
use Rattle.fx_model.specs.Fraction.{Fraction}

-- x and nothing else
abbrev pub Alone : Fraction → Fraction → Type 0
Alone x z = z ≡ x
