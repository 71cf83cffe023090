-- What a written bound stands for.
use Rattle.std.specs.Prelude.{◌≡◌, ℕ, List, Bool}
use Rattle.fx_model.specs.Fraction.{Fraction}
use Rattle.fx_model.specs.Grid.{signed}
use Rattle.fx_model.specs.Expression.{literal_value}
use Rattle.literal.specs.Spelling.{Spelling, Spells, IsWithin, written}

-- The text is a literal within its limits, and x is its value, or the negative of it.
pub record IsNumber (negative : Bool) (text : List ℕ) (x : Fraction) : Type 0 where
  pub spelling : Spelling
  pub spells : Spells text spelling
  pub within : IsWithin spelling
  pub value : x ≡ signed negative (literal_value (written spelling))
