-- Intervals that are just a set of fractions.
use Rattle.std.specs.Prelude.{◌↔◌}
use Rattle.fx_model.specs.Fraction.{Fraction}
use Rattle.fx_model.specs.Enclosure.{Range, Lies}

-- in r lies what the set has, and nothing else
abbrev pub IsExact : (Fraction → Type 0) → Range → Type 0
IsExact S r = (x : Fraction) → Lies r x ↔ S x
