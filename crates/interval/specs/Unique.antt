-- That an operation has one result.
use Rattle.std.specs.Prelude.{◌≡◌}
use Rattle.fx_model.specs.Enclosure.{Range}

-- no two intervals have the property
abbrev pub IsOnly : (Range → Type 0) → Type 0
IsOnly P = (t u : Range) → P t → P u → t ≡ u
