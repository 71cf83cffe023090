-- Laws of what specs/Enclosure/Sets defines.
use Rattle.fx_model.specs.Fraction.{Fraction}

-- a set of fractions, by its members
abbrev pub Set : Type 1
Set = Fraction → Type 0
