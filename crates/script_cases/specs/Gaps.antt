-- The lengths between places.
use Rattle.std.specs.Prelude.{ℕ, ◌<◌, ◌-◌, ◌*◌, List, [], ◌∷◌}

-- the product of the lengths between these places, the first of which is from the given one on
abbrev pub gaps : ℕ → List ℕ → ℕ
gaps from [] = 1
gaps from (end ∷ ends) = (end - from) * gaps end ends

-- each is above the one before
abbrev pub AreRising : ℕ → List ℕ → Type 0
AreRising from [] = Unit {0}
AreRising from (end ∷ ends) = (from < end) × AreRising end ends
