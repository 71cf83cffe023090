-- Laws of the count of steps.
use Rattle.std.specs.Prelude.{List, Option, Some, None, Contains}
use Rattle.facts.specs.declared.fact.Fact.{Fact}
use Rattle.facts.specs.declared.fact.Slot.{Slot}
use Rattle.facts.specs.Order.{IsStronger}
use Rattle.derivation.specs.Derivations.{At}

-- ---- slots that rose
-- the second is stronger than the first, and another
abbrev pub IsRisen : Option Fact → Option Fact → Type 0
IsRisen None (Some g) = Unit {0}
IsRisen (Some f) (Some g) = IsStronger g f × ¬ IsStronger f g
IsRisen _ _ = ⊥

-- On each of these slots the second table has a stronger fact, and another.
abbrev pub AreRisen : List Slot → At → At → Type 0
AreRisen changed at new = (s : Slot) → Contains changed s → IsRisen (at s) (new s)
