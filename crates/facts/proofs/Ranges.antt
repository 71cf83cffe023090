-- Laws of what specs/Ranges defines.
use Rattle.fx_model.specs.Fraction.{Fraction, lt_le_trans}
use Rattle.fx_model.specs.Grid.{Bound, Below, At, Above}
use Rattle.fx_model.specs.Enclosure.{BoundLe}
use Rattle.facts.specs.Ranges.{IsBelow}

-- above it lies what is above what it is below
pub IsBelow-mono : (x : Fraction) (b c : Bound) → IsBelow x b → BoundLe b c → IsBelow x c
IsBelow-mono x Below c l m = absurd l
IsBelow-mono x (At g) Below l m = m
IsBelow-mono x (At g) (At h) l m = lt_le_trans x g h l m
IsBelow-mono x (At g) Above l m = tt
IsBelow-mono x Above Below l m = m
IsBelow-mono x Above (At h) l m = absurd m
IsBelow-mono x Above Above l m = tt
