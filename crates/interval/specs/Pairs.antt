-- What lies in two intervals, in both and in either.
use Rattle.std.specs.Prelude.{◌⊎◌, ◌↔◌}
use Rattle.fx_model.specs.Fraction.{Fraction}
use Rattle.fx_model.specs.Enclosure.{Range, Lies, IsEnclosure}

-- nothing lies in both
abbrev pub AreApart : Range → Range → Type 0
AreApart r s = (x : Fraction) → ¬ (Lies r x × Lies s x)

-- in t lies what lies in both
abbrev pub IsCommon : Range → Range → Range → Type 0
IsCommon r s t = (x : Fraction) → Lies t x ↔ (Lies r x × Lies s x)

-- what lies in either
abbrev pub Union : Range → Range → Fraction → Type 0
Union r s x = Lies r x ⊎ Lies s x

-- the best interval that holds both
abbrev pub IsHull : Range → Range → Range → Type 0
IsHull r s t = IsEnclosure (Union r s) t
