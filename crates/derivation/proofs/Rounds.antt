-- Laws of what specs/Rounds defines.
use Rattle.std.specs.Prelude.{◌≡◌, List, [], ◌∷◌, Some}
use Rattle.facts.specs.declared.fact.Fact.{Fact}
use Rattle.facts.specs.declared.fact.Slot.{Slot}
use Rattle.derivation.specs.Derivations.{At}

-- ---- what an instance concludes
-- the table has these facts on these slots
abbrev pub Reads : At → List Slot → List Fact → Type 0
Reads at [] [] = Unit {0}
Reads at (s ∷ ss) (p ∷ ps) = (at s ≡ Some p) × Reads at ss ps
Reads at _ _ = ⊥
